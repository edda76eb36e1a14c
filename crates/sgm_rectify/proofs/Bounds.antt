-- No value of a rectified image is above the greatest allowed sample of the image.
use Rattle.std.proofs.Common.{◌≡◌, ℕ, ◌+◌, ◌-◌, ◌*◌, ◌/◌, ◌%◌, ◌<◌, ◌≤◌, Bool, true, false, ◌&&◌, ◌==◌, ltb, if◌then◌else◌, [], ◌∷◌, get_or, List, Option, Some, None, option_map, IfSome, ℤ, pos, negsuc, ◌+ℤ◌, ◌∙◌, refl, ap, subst, arith}
use Rattle.std.specs.List.{range_with_len}
use Rattle.std.proofs.lemmas.Bool.{ltb-true}
use Rattle.std.proofs.lemmas.List.Elements.{All-get_or, All-map}
use Rattle.std.proofs.lemmas.Nat.{mul-add-lt}
use Rattle.sgm_base.specs.Picture.{Picture, IsPicture}
use Rattle.sgm_base.specs.Values.{AtMost}
use Rattle.sgm_rectify.specs.declared.warp.Warp.{Warp}
use Rattle.sgm_rectify.specs.Bilinear.{whole, fraction, sample_at, weighted, total, mean_at, bilinear}
use Rattle.sgm_rectify.specs.Places.{place_of}
use Rattle.sgm_rectify.specs.Rectified.{rectified, rectified_values}
use Rattle.sgm_rectify.proofs.Means.{weights}

-- a number, if there is one, is at most so much
abbrev pub Low : ℕ → Option ℕ → Type 0
Low most o = IfSome o (λ n. n ≤ most)

inside_low : (image : Picture) (i j : ℕ) (a b : Bool) → IsPicture image → ltb i image.width ≡ a → ltb j image.height ≡ b
    → Low image.maxval (if a && b then Some (get_or image.samples (j * image.width + i) 0) else None)
inside_low image i j false b kept ea eb = tt
inside_low image i j true false kept ea eb = tt
inside_low image i j true true kept ea eb =
    All-get_or (λ s. s ≤ image.maxval) image.samples (j * image.width + i) 0
    (omega (arith, mul-add-lt j image.width i image.height (ltb-true _ _ eb) (ltb-true _ _ ea), kept.full)) kept.below

sample_low : (image : Picture) (i j : ℤ) → IsPicture image → Low image.maxval (sample_at image i j)
sample_low image (pos i) (pos j) kept = inside_low image i j (ltb i image.width) (ltb j image.height) kept refl refl
sample_low image (pos i) (negsuc j) kept = tt
sample_low image (negsuc i) j kept = tt

times_low : (weight most n : ℕ) → n ≤ most → weight * n ≤ weight * most
times_low weight most n h = grind (arith, h)

weighted_by : (none : Bool) (weight most : ℕ) (sample : Option ℕ) → Low most sample → Low (weight * most) (if none then Some 0 else option_map (λ s. weight * s) sample)
weighted_by true weight most sample low = omega arith
weighted_by false weight most None low = tt
weighted_by false weight most (Some n) low = times_low weight most n low

weighted_low : (weight most : ℕ) (sample : Option ℕ) → Low most sample → Low (weight * most) (weighted weight sample)
weighted_low weight most sample low = weighted_by (weight == 0) weight most sample low

added_low : (a b n : ℕ) (rest : Option ℕ) → n ≤ a → Low b rest → Low (a + b) (option_map (λ m. n + m) rest)
added_low a b n None low later = tt
added_low a b n (Some m) low later = omega (arith, low, later)

total_low : (a b : ℕ) (o : Option ℕ) (rest : List (Option ℕ)) → Low a o → Low b (total rest) → Low (a + b) (total (o ∷ rest))
total_low a b None rest low later = tt
total_low a b (Some n) rest low later = added_low a b n (total rest) low later

-- four numbers
four_low : (p q r s : ℕ) (a b c d : Option ℕ) → Low p a → Low q b → Low r c → Low s d → Low (p + (q + (r + (s + 0)))) (total (a ∷ b ∷ c ∷ d ∷ []))
four_low p q r s a b c d la lb lc ld =
    total_low p (q + (r + (s + 0))) a (b ∷ c ∷ d ∷ []) la
    (total_low q (r + (s + 0)) b (c ∷ d ∷ []) lb
    (total_low r (s + 0) c (d ∷ []) lc
    (total_low s 0 d [] ld (omega arith))))

rounded_low : (most : ℕ) (sum : Option ℕ) → Low (65536 * most) sum → Low most (option_map (λ n. (n + 32768) / 65536) sum)
rounded_low most None low = tt
rounded_low most (Some n) low = omega (arith, low)

full_weight : (left right up down most : ℕ) → left + right ≡ 256 → up + down ≡ 256
    → left * up * most + (right * up * most + (left * down * most + (right * down * most + 0))) ≡ 65536 * most
full_weight left right up down most e f =
    let whole : left * up + right * up + left * down + right * down ≡ 65536 = weights left right up down e f in
    let parts : left * up * most + (right * up * most + (left * down * most + (right * down * most + 0))) ≡ (left * up + right * up + left * down + right * down) * most = omega arith in
    parts ∙ ap (λ n. n * most) whole

-- the weights of four samples add up to 65536, so that the mean is no greater than the greatest of them
mean_low : (image : Picture) (i j : ℤ) (right down : ℕ) → IsPicture image → right < 256 → down < 256 → Low image.maxval (mean_at image i j right down)
unfolding mean_at
mean_low image i j right down kept hr hd =
    let most : ℕ = image.maxval in
    let left : ℕ = 256 - right in
    let up : ℕ = 256 - down in
    let a : Option ℕ = weighted (left * up) (sample_at image i j) in
    let b : Option ℕ = weighted (right * up) (sample_at image (i +ℤ pos 1) j) in
    let c : Option ℕ = weighted (left * down) (sample_at image i (j +ℤ pos 1)) in
    let d : Option ℕ = weighted (right * down) (sample_at image (i +ℤ pos 1) (j +ℤ pos 1)) in
    let low : Low (left * up * most + (right * up * most + (left * down * most + (right * down * most + 0)))) (total (a ∷ b ∷ c ∷ d ∷ [])) =
    four_low (left * up * most) (right * up * most) (left * down * most) (right * down * most) a b c d
    (weighted_low (left * up) most (sample_at image i j) (sample_low image i j kept))
    (weighted_low (right * up) most (sample_at image (i +ℤ pos 1) j) (sample_low image (i +ℤ pos 1) j kept))
    (weighted_low (left * down) most (sample_at image i (j +ℤ pos 1)) (sample_low image i (j +ℤ pos 1) kept))
    (weighted_low (right * down) most (sample_at image (i +ℤ pos 1) (j +ℤ pos 1)) (sample_low image (i +ℤ pos 1) (j +ℤ pos 1) kept)) in
    rounded_low most (total (a ∷ b ∷ c ∷ d ∷ []))
    (subst (λ (n : ℕ). Low n (total (a ∷ b ∷ c ∷ d ∷ []))) (full_weight left right up down most (omega arith) (omega arith)) low)

fraction_below : (u : ℤ) → fraction u < 256
fraction_below (pos n) = omega arith
fraction_below (negsuc n) = omega arith

pub rectified_low : (image : Picture) (warp : Warp) (x y : ℕ) → IsPicture image → Low image.maxval (rectified image warp x y)
unfolding rectified bilinear
rectified_low image warp x y kept =
    let place = place_of warp x y in
    mean_low image (whole place.0) (whole place.1) (fraction place.0) (fraction place.1) kept (fraction_below place.0) (fraction_below place.1)

-- no value of a rectified image is above the greatest allowed sample
pub values_low : (image : Picture) (warp : Warp) → IsPicture image → AtMost image.maxval (rectified_values image warp).entries
unfolding rectified_values
values_low image warp kept =
    let n : ℕ = image.width * image.height in
    All-map (Low image.maxval) (λ k. rectified image warp (k % image.width) (k / image.width)) (range_with_len 0 n)
    (λ k d inside. rectified_low image warp (get_or (range_with_len 0 n) k d % image.width) (get_or (range_with_len 0 n) k d / image.width) kept)
