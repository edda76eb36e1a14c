-- A list of which a part in the middle was written.
use Rattle.std.proofs.Common.{◌≡◌, ℕ, ◌+◌, ◌-◌, ◌<◌, ◌≤◌, ◌⊎◌, List, ◌++◌, length, take, drop, get_or, sym, ap, ◌∙◌, inl, inr, arith}
use Rattle.std.proofs.lemmas.List.{get_or_append_left, get_or-append_right, get_or-append-add, get_or-take, get_or-drop}

-- outside of the part it is as before
pub splice_other : {X : Type 0} (s a v b : List X) (at n k : ℕ) (d : X) → a ≡ take at s → b ≡ drop n (drop at s) → length a ≡ at → length v ≡ n → (k < at) ⊎ (at + n ≤ k) → get_or (a ++ (v ++ b)) k d ≡ get_or s k d
splice_other s a v b at n k d ea eb la lv h = elim h [
  | inl l ↦ get_or_append_left a (v ++ b) d k (omega arith) ∙ ap (λ xs. get_or xs k d) ea ∙ get_or-take at s k d l
  | inr l ↦ get_or-append_right a (v ++ b) at k d la (omega arith)
      ∙ get_or-append_right v b n (k - at) d lv (omega arith)
      ∙ ap (λ xs. get_or xs (k - at - n) d) eb
      ∙ get_or-drop n (drop at s) (k - at - n) d
      ∙ get_or-drop at s (n + (k - at - n)) d
      ∙ ap (λ j. get_or s j d) (omega arith)
]

-- in the part it is what was written
pub splice_here : {X : Type 0} (a v b : List X) (at k : ℕ) (d : X) → length a ≡ at → k < length v → get_or (a ++ (v ++ b)) (at + k) d ≡ get_or v k d
splice_here a v b at k d e h =
    ap (λ m. get_or (a ++ (v ++ b)) (m + k) d) (sym e) ∙ get_or-append-add a (v ++ b) k d ∙ get_or_append_left v b d k h

-- before it was written, the part was that of the list
pub part_was : {X : Type 0} (s rest part : List X) (at n k : ℕ) (d : X) → rest ≡ drop at s → part ≡ take n rest → k < n → get_or part k d ≡ get_or s (at + k) d
part_was s rest part at n k d er ep h =
    ap (λ xs. get_or xs k d) ep ∙ get_or-take n rest k d h ∙ ap (λ xs. get_or xs k d) er ∙ get_or-drop at s k d
