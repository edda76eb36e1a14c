-- Costs smoothed pixel by pixel along a row.
use Rattle.std.proofs.Common.{◌≡◌, ℕ, ◌+◌, ◌-◌, ◌*◌, ◌<◌, ◌≤◌, ◌⊎◌, cond, ltb, List, ◌++◌, length, get_or, take, drop, sym, ap, ◌∙◌, subst, arith, inl, inr}
use Rattle.std.proofs.Math.Nat.{add-mul}
use Rattle.std.proofs.lemmas.Bool.{cases_lt}
use Rattle.std.proofs.lemmas.List.{get_or-take, get_or-drop, get_or_append_left, get_or-append_right}
use Rattle.std.proofs.lemmas.List.Elements.{All-take, All-drop}
use Rattle.std.proofs.lemmas.Nat.{mul-le, row_fits}
use Rattle.std.specs.List.{All}
use Rattle.sgm_lanes.specs.Middles.{smoothed}
use Rattle.sgm_census.specs.Costs.{cost_by}
use Rattle.sgm_census.specs.declared.rule.CostRule.TheVariants.{Smoothed}

-- ---- a part of a list, replaced

-- a list in three parts, of which the middle one is so long and starts at a place
pub record InThree (old front cells rest : List ℕ) (at count : ℕ) : Type 0 where
  pub front_is : front ≡ take at old
  pub front_length : length front ≡ at
  pub cells_is : cells ≡ take count (drop at old)
  pub rest_is : rest ≡ drop count (drop at old)

-- the parts of a list that is cut in two, and its end again
pub cut_twice : (old front end cells rest : List ℕ) (at count : ℕ) → front ≡ take at old → length front ≡ at → end ≡ drop at old → cells ≡ take count end → rest ≡ drop count end → InThree old front cells rest at count
cut_twice old front end cells rest at count front_is long end_is cells_is rest_is =
    record { front_is = front_is; front_length = long; cells_is = cells_is ∙ ap (take count) end_is; rest_is = rest_is ∙ ap (drop count) end_is }

cells_at : (old front cells rest : List ℕ) (at count d : ℕ) → InThree old front cells rest at count → d < count → get_or cells d 0 ≡ get_or old (at + d) 0
cells_at old front cells rest at count d p h =
    ap (λ us. get_or us d 0) p.cells_is ∙ get_or-take count (drop at old) d 0 h ∙ get_or-drop at old d 0

rest_at : (old front cells rest : List ℕ) (at count k : ℕ) → InThree old front cells rest at count → get_or rest k 0 ≡ get_or old (at + count + k) 0
rest_at old front cells rest at count k p =
    let place : at + (count + k) ≡ at + count + k = omega arith in
    ap (λ us. get_or us k 0) p.rest_is ∙ get_or-drop count (drop at old) k 0 ∙ get_or-drop at old (count + k) 0 ∙ ap (λ n. get_or old n 0) place

replaced_inside : (front cells rest : List ℕ) (at d : ℕ) → length front ≡ at → d < length cells → get_or (front ++ (cells ++ rest)) (at + d) 0 ≡ get_or cells d 0
replaced_inside front cells rest at d e h =
    let place : at + d - at ≡ d = omega arith in
    get_or-append_right front (cells ++ rest) at (at + d) 0 e (omega arith) ∙ ap (λ n. get_or (cells ++ rest) n 0) place ∙ get_or_append_left cells rest 0 d h

pub replaced_outside : (old front cells new rest : List ℕ) (at count k : ℕ) → InThree old front cells rest at count → length new ≡ count → (k < at) ⊎ (at + count ≤ k) → get_or (front ++ (new ++ rest)) k 0 ≡ get_or old k 0
replaced_outside old front cells new rest at count k p e (inl h) =
    let within : k < length front = omega (arith, p.front_length) in
    get_or_append_left front (new ++ rest) 0 k within ∙ ap (λ us. get_or us k 0) p.front_is ∙ get_or-take at old k 0 h
replaced_outside old front cells new rest at count k p e (inr h) =
    let place : at + count + (k - at - count) ≡ k = omega arith in
    get_or-append_right front (new ++ rest) at k 0 p.front_length (omega arith) ∙ get_or-append_right new rest count (k - at) 0 e (omega arith)
    ∙ rest_at old front cells rest at count (k - at - count) p ∙ ap (λ n. get_or old n 0) place

-- the middle part smoothed between the costs before it and those after it
pub inside_is : (old before front cells rest new : List ℕ) (at count d : ℕ) → InThree old front cells rest at count → length new ≡ count → d < count
    → get_or new d 0 ≡ smoothed (get_or before d 0) (get_or cells d 0) (get_or (take count rest) d 0)
    → get_or (front ++ (new ++ rest)) (at + d) 0 ≡ smoothed (get_or before d 0) (get_or old (at + d) 0) (get_or old (at + count + d) 0)
inside_is old before front cells rest new at count d p e h is =
    replaced_inside front new rest at d p.front_length (omega arith) ∙ is
    ∙ ap (λ n. smoothed (get_or before d 0) n (get_or (take count rest) d 0)) (cells_at old front cells rest at count d p h)
    ∙ ap (λ n. smoothed (get_or before d 0) (get_or old (at + d) 0) n) (get_or-take count rest d 0 h ∙ rest_at old front cells rest at count d p)

pub rest_all : (P : ℕ → Type 0) (old front cells rest : List ℕ) (at count : ℕ) → InThree old front cells rest at count → All P old → All P rest
rest_all P old front cells rest at count p h = subst (All P) (sym p.rest_is) (All-drop P count (drop at old) (All-drop P at old h))

pub cells_all : (P : ℕ → Type 0) (old front cells rest : List ℕ) (at count : ℕ) → InThree old front cells rest at count → All P old → All P cells
cells_all P old front cells rest at count p h = subst (All P) (sym p.cells_is) (All-take P count (drop at old) (All-drop P at old h))

-- ---- a row, pixel by pixel

pub times_next : (x count : ℕ) → (x + 1) * count ≡ x * count + count
times_next x count = add-mul x 1 count ∙ omega arith

-- one pixel more: was has the costs behind x smoothed, before has those before x as they were, and now has x smoothed
pub smoothed_more : (width count x next : ℕ) (old was now before : List ℕ) → next ≡ cond (ltb (x + 1) width) (x + 1) x → x ≤ next
    → ((d : ℕ) → d < count → get_or before d 0 ≡ get_or old ((x - 1) * count + d) 0)
    → ((z d : ℕ) → z < x → d < count → get_or was (z * count + d) 0 ≡ cost_by Smoothed width (λ q. get_or old (q * count + d) 0) z)
    → ((k : ℕ) → x * count ≤ k → get_or was k 0 ≡ get_or old k 0)
    → ((d : ℕ) → d < count → get_or now (x * count + d) 0 ≡ smoothed (get_or before d 0) (get_or was (x * count + d) 0) (get_or was (next * count + d) 0))
    → ((k : ℕ) → k < x * count → get_or now k 0 ≡ get_or was k 0)
    → (z d : ℕ) → z < x + 1 → d < count → get_or now (z * count + d) 0 ≡ cost_by Smoothed width (λ q. get_or old (q * count + d) 0) z
smoothed_more width count x next old was now before en le behind done left inside outside z d h k = elim (cases_lt z x) [
  | inl l ↦ (let early : z * count + d < x * count = omega (arith, row_fits z count x count l (omega arith)) in outside (z * count + d) early ∙ done z d l k)
  | inr l ↦
      (let same : z ≡ x = omega arith in
      let single : ℕ → ℕ = λ q. get_or old (q * count + d) 0 in
      let after : x * count ≤ next * count = mul-le x count next count le (omega arith) in
      ap (λ q. get_or now (q * count + d) 0) same ∙ inside d k
      ∙ ap (λ n. smoothed n (get_or was (x * count + d) 0) (get_or was (next * count + d) 0)) (behind d k)
      ∙ ap (λ n. smoothed (single (x - 1)) n (get_or was (next * count + d) 0)) (left (x * count + d) (omega arith))
      ∙ ap (λ n. smoothed (single (x - 1)) (single x) n) (left (next * count + d) (omega arith))
      ∙ ap (λ q. smoothed (single (x - 1)) (single x) (single q)) en
      ∙ ap (λ q. cost_by Smoothed width single q) (sym same))
]
