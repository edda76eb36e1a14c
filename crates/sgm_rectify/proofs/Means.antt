-- Means of four weighted samples.
use Rattle.std.proofs.Common.{◌≡◌, ℕ, ◌+◌, ◌*◌, ◌/◌, [], ◌∷◌, Option, Some, None, option_map, ℤ, refl, ap, ◌∙◌, arith}
use Rattle.sgm_base.specs.Picture.{Picture}
use Rattle.sgm_rectify.specs.Bilinear.{sample_at, weighted, total}

abbrev pub mean_of : Option ℕ → Option ℕ → Option ℕ → Option ℕ → Option ℕ
mean_of a b c d = option_map (λ sum. (sum + 32768) / 65536) (total (a ∷ b ∷ c ∷ d ∷ []))

pub mean_of-second : (a c d : Option ℕ) → mean_of a None c d ≡ None
mean_of-second None c d = refl
mean_of-second (Some a) c d = refl

pub mean_of-third : (a b d : Option ℕ) → mean_of a b None d ≡ None
mean_of-third None b d = refl
mean_of-third (Some a) None d = refl
mean_of-third (Some a) (Some b) d = refl

pub mean_of-fourth : (a b c : Option ℕ) → mean_of a b c None ≡ None
mean_of-fourth None b c = refl
mean_of-fourth (Some a) None c = refl
mean_of-fourth (Some a) (Some b) None = refl
mean_of-fourth (Some a) (Some b) (Some c) = refl

pub mean_of-all : (a b c d : ℕ) → mean_of (Some a) (Some b) (Some c) (Some d) ≡ Some ((a + b + c + d + 32768) / 65536)
mean_of-all a b c d =
    let sum : a + (b + (c + (d + 0))) ≡ a + b + c + d = omega arith in
    ap (λ n. Some ((n + 32768) / 65536)) sum

pub ap_mean : {a a' b b' c c' d d' : Option ℕ} → a ≡ a' → b ≡ b' → c ≡ c' → d ≡ d' → mean_of a b c d ≡ mean_of a' b' c' d'
ap_mean {a} {a'} {b} {b'} {c} {c'} {d} {d'} e f g h =
    ap (λ o. mean_of o b c d) e ∙ ap (λ o. mean_of a' o c d) f ∙ ap (λ o. mean_of a' b' o d) g ∙ ap (λ o. mean_of a' b' c' o) h

-- the four weights add up to 65536
pub weights : (left right up down : ℕ) → left + right ≡ 256 → up + down ≡ 256 → left * up + right * up + left * down + right * down ≡ 65536
weights left right up down e f =
    let product : (left + right) * (up + down) ≡ 256 * 256 = ap (λ n. n * (up + down)) e ∙ ap (λ n. 256 * n) f in
    let parts : left * up + right * up + left * down + right * down ≡ (left + right) * (up + down) = omega arith in
    parts ∙ product

-- a weighted sample at the same place
pub ap_weighted : (image : Picture) (weight : ℕ) {i i' j j' : ℤ} → i ≡ i' → j ≡ j' → weighted weight (sample_at image i j) ≡ weighted weight (sample_at image i' j')
ap_weighted image weight {i} {i'} {j} {j'} e f =
    ap (λ (z : ℤ). weighted weight (sample_at image z j)) e ∙ ap (λ (z : ℤ). weighted weight (sample_at image i' z)) f
