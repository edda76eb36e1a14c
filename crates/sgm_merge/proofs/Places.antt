-- What heights that are added leave at the places of the cells.
use Rattle.std.proofs.Common.{◌≡◌, ℕ, ◌+◌, ◌-◌, ◌<◌, ◌≤◌, Bool, true, false, nat_lt, if◌then◌else◌, List, [], get_or, take, Option, None, ℤ, refl, sym, ap, ◌∙◌, arith, inl, inr, ◌⊎◌}
use Rattle.std.proofs.lemmas.Bool.{cases_eq, cases_order, le-ltb, ltb-false}
use Rattle.std.proofs.lemmas.List.{get_or-take, get_or_past, length-take}
use Rattle.sgm_merge.specs.Sharing.{from_place}
use Rattle.sgm_merge.specs.Tallies.{Heights, no_heights, with_cell}

-- one height more changes nothing at other places
taken_before : (hs : List (Option ℤ)) (i k : ℕ) → k < i → get_or (take i hs) k None ≡ get_or (take (i + 1) hs) k None
taken_before hs i k near = get_or-take i hs k None near ∙ sym (get_or-take (i + 1) hs k None (omega arith))

taken_past : (hs : List (Option ℤ)) (i k : ℕ) → i ≤ k → get_or (take i hs) k None ≡ None
taken_past hs i k far = get_or_past (take i hs) k None (omega (arith, length-take i hs))

taken_other : (hs : List (Option ℤ)) (i k : ℕ) → (k ≡ i → ⊥) → (k ≡ i) ⊎ ((k < i) ⊎ (i < k)) → get_or (take i hs) k None ≡ get_or (take (i + 1) hs) k None
taken_other hs i k other (inl same) = absurd (other same)
taken_other hs i k other (inr (inl near)) = taken_before hs i k near
taken_other hs i k other (inr (inr far)) = taken_past hs i k (omega arith) ∙ sym (taken_past hs (i + 1) k (omega arith))

-- from a place on, where nothing is before it
abbrev pub from_test : Bool → Option ℤ → Option ℤ
from_test before o = if before then None else o

from_other : (b : Bool) (at place i : ℕ) (hs : List (Option ℤ)) → nat_lt place at ≡ b → (place ≡ at + i → ⊥)
    → from_test b (get_or (take i hs) (place - at) None) ≡ from_test b (get_or (take (i + 1) hs) (place - at) None)
from_other true at place i hs e other = refl
from_other false at place i hs e other =
    let low : at ≤ place = ltb-false place at e in
    taken_other hs i (place - at) (λ same. other (omega arith)) (cases_order (place - at) i)

-- the place of the next height
from_here : (at i : ℕ) (hs : List (Option ℤ)) → from_place at hs (at + i) ≡ get_or hs i None
from_here at i hs =
    let there : at + i - at ≡ i = omega arith in
    ap (λ (b : Bool). from_test b (get_or hs (at + i - at) None)) (le-ltb (at + i) at (omega arith))
    ∙ ap (λ (k : ℕ). get_or hs k None) there

abbrev pub AddsFrom : List Heights → List Heights → ℕ → List (Option ℤ) → Type 0
AddsFrom old now at hs = (place : ℕ) → get_or now place no_heights ≡ with_cell (get_or old place no_heights) (from_place at hs place)

pub adds_none : (old : List Heights) (at : ℕ) → AddsFrom old old at []
adds_none old at place = ap (with_cell (get_or old place no_heights)) (none_from (nat_lt place at))
  where
    none_from : (b : Bool) → None ≡ from_test b None
    none_from true = refl
    none_from false = refl

-- at the next place nothing was added yet
pub as_before : (old now : List Heights) (at i : ℕ) (hs : List (Option ℤ)) → AddsFrom old now at (take i hs) → get_or now (at + i) no_heights ≡ get_or old (at + i) no_heights
as_before old now at i hs adds =
    adds (at + i) ∙ ap (with_cell (get_or old (at + i) no_heights)) (from_here at i (take i hs) ∙ taken_past hs i i (omega arith))

next_here : (hs : List (Option ℤ)) (at i : ℕ) → from_place at (take (i + 1) hs) (at + i) ≡ get_or hs i None
next_here hs at i = from_here at i (take (i + 1) hs) ∙ get_or-take (i + 1) hs i None (omega arith)

adds_at : (old now new : List Heights) (at i place : ℕ) (hs : List (Option ℤ)) (o : Option ℤ) → AddsFrom old now at (take i hs) → get_or hs i None ≡ o
    → get_or new (at + i) no_heights ≡ with_cell (get_or now (at + i) no_heights) o → ((k : ℕ) → (k ≡ at + i → ⊥) → get_or new k no_heights ≡ get_or now k no_heights)
    → (place ≡ at + i) ⊎ (place ≡ at + i → ⊥) → get_or new place no_heights ≡ with_cell (get_or old place no_heights) (from_place at (take (i + 1) hs) place)
adds_at old now new at i place hs o adds is here others (inl same) =
    ap (λ (k : ℕ). get_or new k no_heights) same ∙ here ∙ ap (λ (h : Heights). with_cell h o) (as_before old now at i hs adds)
    ∙ ap (with_cell (get_or old (at + i) no_heights)) (sym is ∙ sym (next_here hs at i))
    ∙ ap (λ (k : ℕ). with_cell (get_or old k no_heights) (from_place at (take (i + 1) hs) k)) (sym same)
adds_at old now new at i place hs o adds is here others (inr other) =
    others place other ∙ adds place ∙ ap (with_cell (get_or old place no_heights)) (from_other (nat_lt place at) at place i hs refl other)

-- one height more, or none
pub adds_more : (old now new : List Heights) (at i : ℕ) (hs : List (Option ℤ)) (o : Option ℤ) → AddsFrom old now at (take i hs) → get_or hs i None ≡ o
    → get_or new (at + i) no_heights ≡ with_cell (get_or now (at + i) no_heights) o → ((k : ℕ) → (k ≡ at + i → ⊥) → get_or new k no_heights ≡ get_or now k no_heights)
    → AddsFrom old new at (take (i + 1) hs)
adds_more old now new at i hs o adds is here others place = adds_at old now new at i place hs o adds is here others (cases_eq place (at + i))
