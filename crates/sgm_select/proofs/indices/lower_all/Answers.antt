use Rattle.std.proofs.Common.{◌≡◌, ℕ, ◌+◌, ◌*◌, ◌<◌, ◌≤◌, ◌+ℤ◌, length, ap, ◌∙◌, arith, pos, rules, subst, w64}
use Rattle.std.proofs.lemmas.Int.{to_z-of_z}
use Rattle.std.proofs.lemmas.Nat.{mul-le}
use Rattle.sgm_select.specs.Keys.{HoldsKeys}
use Rattle.sgm_base.specs.Disparities.{Disparities}
use Rattle.sgm_select.proofs.Keys.{keys_more}
use Rattle.sgm_select.proofs.indices.lower_all.Goals as goal

-- the sums of a column stand within those of the row
sums_end : (inside count p width len : ℕ) → inside ≡ count → len ≡ width * count → p < width → (p + 1) * inside ≤ len
sums_end inside count p width len same whole column =
    omega (arith, whole, ap (λ n. width * n) same, mul-le (p + 1) inside width inside (omega arith) (omega arith))

pub loop-p-preserved : goal.loop-p-preserved
loop-p-preserved c =
    let there = c.places-there.result in
    let counted : c.span.inside.count ≡ c.args.span.count = ap (λ (s : Disparities). s.count) c.span.view_is in
    keys_more c.args.sums.now c.args.width c.args.span c.args.from c.loop-p.p c.loop-p.keys c.lower_some.new.keys c.span.inside.count _ there.skipped there.start there.len
    record { room = c.places-there.ensures.indices; each = c.places-there.ensures.each } counted (omega arith) (omega arith) (omega arith) (ap (λ z. z +ℤ pos (c.loop-p.p + 1)) (to_z-of_z w64 c.shift-shift.result (search rules)) ∙ c.shift-shift.ensures)
    c.lower_some.ensures.here c.lower_some.ensures.before c.lower_some.ensures.after c.loop-p.invariant

pub overflow_mul-p : goal.overflow_mul-p
overflow_mul-p c = omega (arith, sums_end c.span.inside.count c.args.span.count c.loop-p.p c.args.width (length c.args.sums.now) (ap (λ (s : Disparities). s.count) c.span.view_is) c.requires.lengths (omega arith))

pub overflow_mul-p-in-loop-p : goal.overflow_mul-p-in-loop-p
overflow_mul-p-in-loop-p c = omega (arith, sums_end c.span.inside.count c.args.span.count c.loop-p.p c.args.width (length c.args.sums.now) (ap (λ (s : Disparities). s.count) c.span.view_is) c.requires.lengths (omega arith))

pub offset_bounds-sums-p : goal.offset_bounds-sums-p
offset_bounds-sums-p c = omega (arith, sums_end c.span.inside.count c.args.span.count c.loop-p.p c.args.width (length c.args.sums.now) (ap (λ (s : Disparities). s.count) c.span.view_is) c.requires.lengths (omega arith))

pub slice_bounds-lower_some-end : goal.slice_bounds-lower_some-end
slice_bounds-lower_some-end c = omega (arith, sums_end c.span.inside.count c.args.span.count c.loop-p.p c.args.width (length c.args.sums.now) (ap (λ (s : Disparities). s.count) c.span.view_is) c.requires.lengths (omega arith))

pub returns-clause-keys : goal.returns-clause-keys
returns-clause-keys c =
    let end : c.loop-p.p ≡ c.args.width = omega arith in
    subst (λ p. HoldsKeys c.args.sums.now c.args.width c.args.span c.args.from p c.loop-p.keys) end c.loop-p.invariant
