-- Matrices and nodes, as lists of values and as their numbers.
use Rattle.std.proofs.Common.{◌≡◌, ℕ, ◌+◌, ◌<◌, ℤ, pos, List, [], ◌∷◌, ◌++◌, map, length, get_or, drop, refl, ap, sym, ◌∙◌, append_assoc, append-nil, arith, All, subst, w32, w64, to_z, of_z}
use Rattle.std.proofs.lemmas.Int.{ints}
use Rattle.std.proofs.lemmas.List.{length-map, ext_get_or, at_drop_more, length-drop}
use Rattle.std.proofs.lemmas.List.Elements.{All-cons, All-drop, All-map}
use Rattle.serde_json.specs.View.{view}
use Rattle.serde_json.specs.declared.value.Value.{Value}
use Rattle.sgm_calib.specs.WarpKeys.{IsWithin32, pairs}
use Rattle.sgm_calib.proofs.ListLemmas.{amount}

-- the whole numbers of values
abbrev pub amounts : List Value → List ℤ
amounts vs = map (λ v. amount (view v)) vs

pub same_amounts : (entries : List ℤ) (vs : List Value) (n : ℕ) → length entries ≡ n → length vs ≡ n
    → ((k : ℕ) → k < n → get_or entries k (pos 0) ≡ get_or (amounts vs) k (pos 0)) → entries ≡ amounts vs
same_amounts entries vs n long so_long each =
    ext_get_or (pos 0) entries (amounts vs) (omega (arith, long, so_long, length-map vs (λ v. amount (view v)))) (λ k h. each k (omega (arith, h, long)))

-- the nodes of values from a place on: the next node, and those after it
pairs-more : (vs : List Value) (i next : ℕ) (u v : Value) → i + 1 < length vs → i + 2 ≡ next → u ≡ get_or vs i u → v ≡ get_or vs (i + 1) v
    → pairs (amounts (drop i vs)) ≡ (amount (view u), amount (view v)) ∷ pairs (amounts (drop next vs))
pairs-more vs i next u v inside is_next is_u is_v =
    at_drop_more (λ xs. pairs (amounts xs)) vs i u (omega (arith, inside))
    ∙ ap (λ w. pairs (amounts (w ∷ drop (i + 1) vs))) (sym is_u)
    ∙ at_drop_more (λ xs. pairs (amounts (u ∷ xs))) vs (i + 1) v inside
    ∙ ap (λ w. (amount (view u), amount (view w)) ∷ pairs (amounts (drop (i + 1 + 1) vs))) (sym is_v)
    ∙ ap (λ n. (amount (view u), amount (view v)) ∷ pairs (amounts (drop n vs))) (omega (arith, is_next))

few_pairs : (vs : List Value) → length vs < 2 → pairs (amounts vs) ≡ []
few_pairs [] few = refl
few_pairs (v ∷ []) few = refl
few_pairs (v ∷ w ∷ vs) few = absurd (omega (arith, few))

pub pairs-done : (vs : List Value) (i : ℕ) (places : List (ℤ × ℤ)) → length vs < i + 2
    → places ++ pairs (amounts (drop i vs)) ≡ pairs (amounts vs) → places ≡ pairs (amounts vs)
pairs-done vs i places near kept =
    sym (append-nil places)
    ∙ ap (λ ps. places ++ ps) (sym (few_pairs (drop i vs) (omega (arith, near, length-drop i vs))))
    ∙ kept

pub pairs-kept : (vs : List Value) (i next : ℕ) (u v : Value) (node : ℤ × ℤ) (places more : List (ℤ × ℤ))
    → i + 1 < length vs → i + 2 ≡ next → u ≡ get_or vs i u → v ≡ get_or vs (i + 1) v
    → node ≡ (amount (view u), amount (view v)) → more ≡ places ++ node ∷ []
    → places ++ pairs (amounts (drop i vs)) ≡ pairs (amounts vs)
    → more ++ pairs (amounts (drop next vs)) ≡ pairs (amounts vs)
pairs-kept vs i next u v node places more inside is_next is_u is_v is_node pushed kept =
    ap (λ ps. ps ++ pairs (amounts (drop next vs))) pushed
    ∙ append_assoc places (node ∷ []) (pairs (amounts (drop next vs)))
    ∙ ap (λ n. places ++ (n ∷ pairs (amounts (drop next vs)))) is_node
    ∙ ap (λ ps. places ++ ps) (sym (pairs-more vs i next u v inside is_next is_u is_v))
    ∙ kept

-- a number of 32 bits stays itself there
pub narrowed : (a u : ℤ) → a ≡ u → IsWithin32 u → to_z w32 (of_z w32 (to_z w64 (of_z w64 a))) ≡ u
narrowed a u is (low, high) = omega (arith, ints, is, low, high)

-- what holds of all numbers holds of both of each pair
pub pairs-all : (P : ℤ → Type 0) (zs : List ℤ) → All P zs → All (λ (pair : ℤ × ℤ). P pair.0 × P pair.1) (pairs zs)
pairs-all P [] each = λ i pair lt. absurd (omega (arith, lt))
pairs-all P (u ∷ []) each = λ i pair lt. absurd (omega (arith, lt))
pairs-all P (u ∷ v ∷ more) each =
    All-cons (λ (pair : ℤ × ℤ). P pair.0 × P pair.1) (u, v) (pairs more) (each 0 u (omega arith), each 1 u (omega arith))
    (pairs-all P more (All-drop P 2 (u ∷ v ∷ more) each))

-- the pairs of values in range
pub pairs_kept : (P : ℤ → Type 0) (vs : List Value) (places : List (ℤ × ℤ)) → places ≡ pairs (amounts vs)
    → All (λ w. P (amount (view w))) vs → All (λ (pair : ℤ × ℤ). P pair.0 × P pair.1) places
pairs_kept P vs places are each =
    subst (λ (ps : List (ℤ × ℤ)). All (λ (pair : ℤ × ℤ). P pair.0 × P pair.1) ps) (sym are)
    (pairs-all P (amounts vs) (All-map P (λ v. amount (view v)) vs each))
