-- What the kernels give is what the recurrence asks for.
use Rattle.std.proofs.Common.{◌≡◌, ℕ, ◌+◌, ◌-◌, ◌<◌, ◌≤◌, ◌⊎◌, inl, inr, zero, suc, List, ◌∷◌, ◌++◌, length, map, take, drop, slice_index, refl, sym, ap, ◌∙◌, subst, arith}
use Rattle.std.specs.List.{Contains, All, range_with_len}
use Rattle.std.proofs.lemmas.Bool.Decides.{nat_tests}
use Rattle.std.proofs.lemmas.List.{append_assoc, get_or-append-add, get_or_append_left, get_or-take, get_or-drop}
use Rattle.std.proofs.lemmas.List.FromFn.{fill_by_all}
use Rattle.std.proofs.lemmas.List.Elements.{All-contains}
use Rattle.sgm_energy.specs.Step.{carried, IsStepped}
use Rattle.sgm_energy.specs.Energies.{least, below}
use Rattle.sgm_energy.proofs.Leasts.{least_is}
use Rattle.sgm_energy.proofs.Steps.{carried_le_far}
use Rattle.sgm_path.specs.Paths.{Follows}

-- a list, made from its entries
entries_of : (xs : List ℕ) → map (slice_index xs) (below (length xs)) ≡ xs
entries_of xs = sym (fill_by_all (slice_index xs) xs (length xs) 0 refl (λ k h. refl))

low_is : (xs : List ℕ) (m : ℕ) → Contains xs m → All (λ x. m ≤ x) xs → least (map (slice_index xs) (below (length xs))) ≡ m
low_is xs m c h = ap least (entries_of xs) ∙ least_is xs m c (λ x d. All-contains (λ z. m ≤ z) xs x h d)

pub follows_from : (prev : List ℕ) (p1 far cost d value low : ℕ) → Contains prev low → All (λ x. low ≤ x) prev → IsStepped (slice_index prev) (length prev) p1 far low cost d value → Follows (slice_index prev) (length prev) p1 far cost d value
follows_from prev p1 far cost d value low c h e =
    let P : ℕ → Type 0 = λ m. IsStepped (slice_index prev) (length prev) p1 far m cost d value in
    subst P (sym (low_is prev low c h)) e

-- no value is above its cost and the greater penalty together
pub follows_le : (prev : ℕ → ℕ) (count p1 far cost d value : ℕ) → Follows prev count p1 far cost d value → value ≤ cost + far
follows_le prev count p1 far cost d value f =
    omega (arith, f, carried_le_far prev count p1 far (least (map prev (below count))) d)

-- ---- the recurrence reads only the values before below count
map_same : (f g : ℕ → ℕ) (a n : ℕ) → ((k : ℕ) → a ≤ k → k < a + n → f k ≡ g k) → map f (range_with_len a n) ≡ map g (range_with_len a n)
map_same f g a zero h = refl
map_same f g a (suc n) h =
    ap (λ x. x ∷ map f (range_with_len (a + 1) n)) (h a (omega arith) (omega arith))
    ∙ ap (λ xs. g a ∷ xs) (map_same f g (a + 1) n (λ k l m. h k (omega arith) (omega arith)))

carried_of : (prev prev' : ℕ → ℕ) (count p1 far low d : ℕ) → d < count → ((k : ℕ) → k < count → prev k ≡ prev' k) → carried prev count p1 far low d ≡ carried prev' count p1 far low d
unfolding carried
carried_of prev prev' count p1 far low d h same = grind (arith, nat_tests, same d, same (d - 1), same (d + 1))

pub follows_same : (prev prev' : ℕ → ℕ) (count p1 far cost cost' d value value' : ℕ) → d < count → ((k : ℕ) → k < count → prev k ≡ prev' k) → cost ≡ cost' → value ≡ value' → Follows prev count p1 far cost d value → Follows prev' count p1 far cost' d value'
follows_same prev prev' count p1 far cost cost' d value value' h same ec ev f =
    let low : least (map prev (below count)) ≡ least (map prev' (below count)) = ap least (map_same prev prev' 0 count (λ k _ l. same k (omega arith))) in
    omega (
      arith,
      f,
      low,
      ec,
      ev,
      carried_of prev prev' count p1 far (least (map prev (below count))) d h same,
      ap (λ l. carried prev' count p1 far l d) low,
    )

-- ---- a part of a list
pub mid_at : (a v w : List ℕ) (n d : ℕ) → length a ≡ n → d < length v → slice_index (a ++ (v ++ w)) (n + d) ≡ slice_index v d
mid_at a v w n d e h =
    ap (λ m. slice_index (a ++ (v ++ w)) (m + d)) (sym e) ∙ get_or-append-add a (v ++ w) d 0 ∙ get_or_append_left v w 0 d h

pub mid_at_left : (a v w : List ℕ) (n d : ℕ) → length a ≡ n → d < length v → slice_index ((a ++ v) ++ w) (n + d) ≡ slice_index v d
mid_at_left a v w n d e h = ap (λ l. slice_index l (n + d)) (append_assoc a v w) ∙ mid_at a v w n d e h

pub part_at : (xs : List ℕ) (i n k : ℕ) → k < n → slice_index (take n (drop i xs)) k ≡ slice_index xs (i + k)
part_at xs i n k h = get_or-take n (drop i xs) k 0 h ∙ get_or-drop i xs k 0

-- what stands before a part and behind it stays, whatever the part becomes
pub mid_others : (xs a v w : List ℕ) (n count k : ℕ) → a ≡ take n xs → w ≡ drop count (drop n xs) → length a ≡ n → length v ≡ count → (k < n) ⊎ (n + count ≤ k) → slice_index (a ++ (v ++ w)) k ≡ slice_index xs k
mid_others xs a v w n count k ea ew la lv (inl h) =
    get_or_append_left a (v ++ w) 0 k (omega arith)
    ∙ ap (λ l. slice_index l k) ea
    ∙ get_or-take n xs k 0 h
mid_others xs a v w n count k ea ew la lv (inr h) =
    let j : ℕ = k - (n + count) in
    let e : k ≡ length a + (length v + j) = omega arith in
    let e' : n + (count + j) ≡ k = omega arith in
    ap (slice_index (a ++ (v ++ w))) e
    ∙ get_or-append-add a (v ++ w) (length v + j) 0
    ∙ get_or-append-add v w j 0
    ∙ ap (λ l. slice_index l j) ew
    ∙ get_or-drop count (drop n xs) j 0
    ∙ get_or-drop n xs (count + j) 0
    ∙ ap (slice_index xs) e'

pub mid_others_left : (xs a v w : List ℕ) (n count k : ℕ) → a ≡ take n (take (n + count) xs) → w ≡ drop (n + count) xs → length a ≡ n → length v ≡ count → (k < n) ⊎ (n + count ≤ k) → slice_index ((a ++ v) ++ w) k ≡ slice_index xs k
mid_others_left xs a v w n count k ea ew la lv (inl h) =
    ap (λ l. slice_index l k) (append_assoc a v w)
    ∙ get_or_append_left a (v ++ w) 0 k (omega arith)
    ∙ ap (λ l. slice_index l k) ea
    ∙ get_or-take n (take (n + count) xs) k 0 h
    ∙ get_or-take (n + count) xs k 0 (omega arith)
mid_others_left xs a v w n count k ea ew la lv (inr h) =
    let j : ℕ = k - (n + count) in
    let e : k ≡ length a + (length v + j) = omega arith in
    let e' : (n + count) + j ≡ k = omega arith in
    ap (λ l. slice_index l k) (append_assoc a v w)
    ∙ ap (slice_index (a ++ (v ++ w))) e
    ∙ get_or-append-add a (v ++ w) (length v + j) 0
    ∙ get_or-append-add v w j 0
    ∙ ap (λ l. slice_index l j) ew
    ∙ get_or-drop (n + count) xs j 0
    ∙ ap (slice_index xs) e'

-- an entry of the part that a split leaves in the middle
pub mid_was : (xs mid rest : List ℕ) (n count d : ℕ) → mid ≡ take count rest → rest ≡ drop n xs → d < count → slice_index mid d ≡ slice_index xs (n + d)
mid_was xs mid rest n count d em er h =
    ap (λ l. slice_index l d) em
    ∙ get_or-take count rest d 0 h
    ∙ ap (λ l. slice_index l d) er
    ∙ get_or-drop n xs d 0

-- what the kernel gives for a pixel of a row of costs follows from the pixel before
pub pixel_follows : (prev costs : List ℕ) (count p1 p1' far low at n d value : ℕ) → length prev ≡ count → d < count → d < n
    → p1' ≡ p1 → Contains prev low → All (λ x. low ≤ x) prev
    → IsStepped (slice_index prev) (length prev) p1' far low (slice_index (take n (drop at costs)) d) d value
    → Follows (slice_index prev) count p1 far (slice_index costs (at + d)) d value
pixel_follows prev costs count p1 p1' far low at n d value el hd hn ep c h e =
    let cost : ℕ = slice_index costs (at + d) in
    let from = follows_from prev p1' far (slice_index (take n (drop at costs)) d) d value low c h e in
    let counted = subst (λ m. Follows (slice_index prev) m p1' far (slice_index (take n (drop at costs)) d) d value) el from in
    let costed = subst (λ m. Follows (slice_index prev) count p1' far m d value) (part_at costs at n d hn) counted in
    subst (λ m. Follows (slice_index prev) count m far cost d value) ep costed
