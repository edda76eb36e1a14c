use Rattle.std.proofs.Common.{◌≡◌, ◌+◌, ◌%◌, ◌^◌, ◌≤◌, ◌∙◌, ℕ, List, cond, eqb, not, length, map, replicate, sym, ap, arith, take, drop, w16}
use Rattle.std.proofs.lemmas.Bool.{eqb-false, eqb-true}
use Rattle.std.specs.Int.Count.{count_trailing_zeros}
use Rattle.std.specs.List.{prefix_len}
use Rattle.std.specs.Simd.Lanes.{mask_l, top, zip2}
use Rattle.std.proofs.lemmas.Simd.{bitmask_splat, length-chunk, none_from_empty_mask, run_in_chunk_fails, run_in_chunk_le, run_in_chunk_stops, trailing_mask_l}
use Rattle.sgm_lanes.proofs.first.before_first.Goals as goal

-- the marks of sixteen values from a place on, as they are computed
abbrev marks : List ℕ → ℕ → ℕ → ℕ
marks values at value = mask_l (map (top 15) (zip2 (λ a b. cond (eqb a b) 65535 0) (take 16 (drop at values)) (replicate 16 value))) % 2 ^ 64

marked : (values : List ℕ) (at value : ℕ) → at + 16 ≤ length values → marks values at value ≡ mask_l (map (λ x. eqb x value) (take 16 (drop at values)))
marked values at value room = bitmask_splat w16 eqb (take 16 (drop at values)) 16 value (length-chunk at 16 values room) (omega arith)

-- where there is a mark, the lowest tells how many values come before the first that is this one
counted : (values : List ℕ) (at value : ℕ) → at + 16 ≤ length values → (marks values at value ≡ 0 → ⊥)
    → count_trailing_zeros 64 (marks values at value) ≡ prefix_len (λ x. not (eqb x value)) (take 16 (drop at values))
counted values at value room some =
    let same = marked values at value room in
    ap (λ m. count_trailing_zeros 64 m) same ∙ trailing_mask_l (λ x. eqb x value) 64 (take 16 (drop at values)) (omega (arith, length-chunk at 16 values room)) (omega (arith, sym same, λ (e : mask_l (map (λ x. eqb x value) (take 16 (drop at values))) ≡ 0). some (same ∙ e)))

pub returns-then-marks-eq0-clause-others : goal.returns-then-marks-eq0-clause-others
returns-then-marks-eq0-clause-others c = λ i h e.
    let none = sym (marked c.args.values.now c.args.at c.args.value (omega arith)) ∙ c.if-marks-eq0.true in
    eqb-false _ _ (none_from_empty_mask (λ x. eqb x c.args.value) c.args.values.now c.args.at 16 0 (omega arith) none (c.args.at + i) (omega arith) (omega arith)) e

pub returns-clause-others : goal.returns-clause-others
returns-clause-others c = λ i h e.
    let before = counted c.args.values.now c.args.at c.args.value (omega arith) c.if-marks-eq0.false in
    eqb-false _ _ (run_in_chunk_fails (λ x. eqb x c.args.value) c.args.values.now c.args.at 16 _ 0 (omega arith) before (c.args.at + i) (omega arith) (omega (arith, h))) e

pub returns-clause-here : goal.returns-clause-here
returns-clause-here c = λ h.
    let before = counted c.args.values.now c.args.at c.args.value (omega arith) c.if-marks-eq0.false in
    eqb-true _ _ (run_in_chunk_stops (λ x. eqb x c.args.value) c.args.values.now c.args.at 16 _ 0 (omega arith) before h)

pub returns-clause-most : goal.returns-clause-most
returns-clause-most c =
    let before = counted c.args.values.now c.args.at c.args.value (omega arith) c.if-marks-eq0.false in
    run_in_chunk_le (λ x. eqb x c.args.value) c.args.values.now c.args.at 16 _ 0 (omega arith) before
