-- One sample more of a generated image, and its end.
use Rattle.std.proofs.Common.{◌≡◌, ◌≤◌, ◌*◌, ℕ, ◌+◌, ◌%◌, ◌/◌, List, [], ◌∷◌, ◌++◌, length, map, All, Option, None, Some, IsSome, arith, refl, ap, sym, subst, ◌∙◌}
use Rattle.std.specs.List.{range_with_len}
use Rattle.std.proofs.lemmas.List.Elements.{All-push}
use Rattle.std.proofs.lemmas.List.FromFn.{map-range_with_len_more, length-map-range_with_len}
use Rattle.sgm_base.specs.Values.{row_by_row}

-- what f gives for the first n pixels
abbrev pub first_pixels : ℕ → (ℕ → ℕ → ℕ) → ℕ → List ℕ
first_pixels width f n = map (λ k. f (k % width) (k / width)) (range_with_len 0 n)

pub sample_more : (width i : ℕ) (f : ℕ → ℕ → ℕ) (old new : List ℕ) (x : ℕ) → new ≡ old ++ x ∷ [] → old ≡ first_pixels width f i → x ≡ f (i % width) (i / width)
    → new ≡ first_pixels width f (i + 1)
sample_more width i f old new x pushed before is =
    pushed ∙ ap (λ (xs : List ℕ). xs ++ x ∷ []) before ∙ ap (λ (y : ℕ). first_pixels width f i ++ y ∷ []) is
    ∙ sym (map-range_with_len_more (λ k. f (k % width) (k / width)) 0 i i (omega arith))

pub byte_more : (old new : List ℕ) (x : ℕ) → new ≡ old ++ x ∷ [] → All (λ s. s ≤ 255) old → x ≤ 255 → All (λ s. s ≤ 255) new
byte_more old new x pushed before small = let P : List ℕ → Type 0 = λ xs. All (λ s. s ≤ 255) xs in subst P (sym pushed) (All-push (λ s. s ≤ 255) old x before small)

-- the first pixels that are all are the image, row by row
pub all_pixels : (width height : ℕ) (f : ℕ → ℕ → ℕ) → first_pixels width f (width * height) ≡ row_by_row width height f
unfolding row_by_row
all_pixels width height f = refl

pub length-row_by_row : (width height : ℕ) (f : ℕ → ℕ → ℕ) → length (row_by_row width height f) ≡ width * height
unfolding row_by_row
length-row_by_row width height f = length-map-range_with_len (λ k. f (k % width) (k / width)) 0 (width * height)

pub none_there : {A : Type 0} (o : Option A) → o ≡ None → IsSome o → ⊥
none_there None e there = absurd (cc)
none_there (Some x) e there = absurd (cc)
