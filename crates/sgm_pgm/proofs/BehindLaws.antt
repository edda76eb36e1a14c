-- Behind a header of given values stands exactly one image or one fault.
use Rattle.std.proofs.Common.{◌≡◌, ℕ, ◌<◌, ◌≤◌, ◌⊎◌, inl, inr, List, length, Result, Ok, Err, refl, sym, ap, ◌∙◌, subst, arith, All}
use Rattle.std.specs.List.{AllByRecursion}
use Rattle.std.proofs.lemmas.Bool.{cases_lt}
use Rattle.sgm_base.specs.Picture.{Picture, picture}
use Rattle.sgm_base.specs.Sides.{IsSide}
use Rattle.sgm_base.specs.declared.limits.TheConstants.{MAX_SIDE}
use Rattle.sgm_pgm.specs.declared.limits.TheConstants.{MAX_MAXVAL}
use Rattle.sgm_pgm.specs.declared.fault.PgmFault.{PgmFault}
use Rattle.sgm_pgm.specs.declared.fault.PgmFault.TheVariants.{NotPgm, HeaderShort, HeaderByte, SizeRange, MaxvalRange, RasterShort, SampleAbove}
use Rattle.sgm_pgm.specs.Fault.{AreSides, HasSamples, IsFirstAbove, IsFaultBehind}
use Rattle.sgm_pgm.specs.Parts.{IsImageBehind}
use Rattle.sgm_pgm.specs.Raster.{IsMaxval, raster_size}
use Rattle.sgm_pgm.proofs.PartLaws.{capped}
use Rattle.sgm_pgm.proofs.RasterLaws.{same_samples, long_enough, samples_there, all_or_first, not_both, same_first}

-- an image or a fault
abbrev pub Reading : Type 0
Reading = Result Picture PgmFault

-- this image or this fault stands behind such a header
abbrev pub Behind : ℕ → ℕ → ℕ → List ℕ → Reading → Type 0
Behind w h m raster (Ok image) = IsImageBehind w h m raster image
Behind w h m raster (Err fault) = IsFaultBehind w h m raster fault

abbrev bad : PgmFault → Reading
bad fault = Err fault

image_sides : (w h m : ℕ) (raster : List ℕ) (image : Picture) → IsImageBehind w h m raster image → AreSides w h
image_sides w h m raster image b =
    let P : ℕ → Type 0 = λ n. IsSide n in
    (subst P (ap (λ (i : Picture). i.width) b.is) b.keeps.width_in_range, subst P (ap (λ (i : Picture). i.height) b.is) b.keeps.height_in_range)

image_below : (w h m : ℕ) (raster : List ℕ) (image : Picture) → IsImageBehind w h m raster image → All (λ s. s ≤ m) image.samples
image_below w h m raster image b =
    let P : ℕ → Type 0 = λ n. All (λ s. s ≤ n) image.samples in subst P (ap (λ (i : Picture). i.maxval) b.is) b.keeps.below

-- ---- at most one

only_size : (w h m : ℕ) (raster : List ℕ) (r : Reading) → ¬ AreSides w h → Behind w h m raster r → r ≡ bad SizeRange
only_size w h m raster (Ok image) out b = absurd (out (image_sides w h m raster image b))
only_size w h m raster (Err SizeRange) out b = refl
only_size w h m raster (Err MaxvalRange) out b = absurd (out b.0)
only_size w h m raster (Err (RasterShort have need)) out b = absurd (out b.0)
only_size w h m raster (Err (SampleAbove index)) out b = absurd (out b.0)
only_size w h m raster (Err NotPgm) out b = absurd b
only_size w h m raster (Err HeaderShort) out b = absurd b
only_size w h m raster (Err (HeaderByte at)) out b = absurd b

only_maxval : (w h m : ℕ) (raster : List ℕ) (r : Reading) → AreSides w h → ¬ IsMaxval m → Behind w h m raster r → r ≡ bad MaxvalRange
only_maxval w h m raster (Ok image) sides out b = absurd (out b.maxval_in_range)
only_maxval w h m raster (Err SizeRange) sides out b = absurd (b sides)
only_maxval w h m raster (Err MaxvalRange) sides out b = refl
only_maxval w h m raster (Err (RasterShort have need)) sides out b = absurd (out b.1)
only_maxval w h m raster (Err (SampleAbove index)) sides out b = absurd (out b.1)
only_maxval w h m raster (Err NotPgm) sides out b = absurd b
only_maxval w h m raster (Err HeaderShort) sides out b = absurd b
only_maxval w h m raster (Err (HeaderByte at)) sides out b = absurd b

abbrev lacking : ℕ → ℕ → Reading
lacking have need = Err (RasterShort have need)

only_short : (w h m : ℕ) (raster : List ℕ) (r : Reading) → AreSides w h → IsMaxval m → length raster < raster_size w h m → Behind w h m raster r → r ≡ lacking (length raster) (raster_size w h m)
only_short w h m raster (Ok image) sides in_range few b = let enough = long_enough w h m raster image.samples b.samples in absurd (omega arith)
only_short w h m raster (Err SizeRange) sides in_range few b = absurd (b sides)
only_short w h m raster (Err MaxvalRange) sides in_range few b = absurd (b.1 in_range)
only_short w h m raster (Err (RasterShort have need)) sides in_range few b = ap (λ (n : ℕ). lacking n need) b.2 ∙ ap (λ (n : ℕ). lacking (length raster) n) b.3
only_short w h m raster (Err (SampleAbove index)) sides in_range few b = let enough = long_enough w h m raster b.2.0 b.2.1 in absurd (omega arith)
only_short w h m raster (Err NotPgm) sides in_range few b = absurd b
only_short w h m raster (Err HeaderShort) sides in_range few b = absurd b
only_short w h m raster (Err (HeaderByte at)) sides in_range few b = absurd b

abbrev over : ℕ → Reading
over index = Err (SampleAbove index)

moved_first : (m : ℕ) (samples others : List ℕ) (index : ℕ) → samples ≡ others → IsFirstAbove m samples index → IsFirstAbove m others index
moved_first m samples others index same is = let P : List ℕ → Type 0 = λ s. IsFirstAbove m s index in subst P same is

only_above : (w h m : ℕ) (raster samples : List ℕ) (index : ℕ) (r : Reading) → AreSides w h → IsMaxval m → HasSamples w h m raster samples → IsFirstAbove m samples index → Behind w h m raster r → r ≡ over index
only_above w h m raster samples index (Ok image) sides in_range has above b =
    absurd (not_both m image.samples index (image_below w h m raster image b) (moved_first m samples image.samples index (same_samples w h m raster samples image.samples has b.samples) above))
only_above w h m raster samples index (Err SizeRange) sides in_range has above b = absurd (b sides)
only_above w h m raster samples index (Err MaxvalRange) sides in_range has above b = absurd (b.1 in_range)
only_above w h m raster samples index (Err (RasterShort have need)) sides in_range has above b = let enough = long_enough w h m raster samples has in absurd (omega (arith, b.2, b.3, b.4))
only_above w h m raster samples index (Err (SampleAbove other)) sides in_range has above b =
    ap over (same_first m samples other index (moved_first m b.2.0 samples other (same_samples w h m raster b.2.0 samples b.2.1 has) b.2.2) above)
only_above w h m raster samples index (Err NotPgm) sides in_range has above b = absurd b
only_above w h m raster samples index (Err HeaderShort) sides in_range has above b = absurd b
only_above w h m raster samples index (Err (HeaderByte at)) sides in_range has above b = absurd b

abbrev fine : Picture → Reading
fine image = Ok image

only_image : (w h m : ℕ) (raster : List ℕ) (image : Picture) (r : Reading) → IsImageBehind w h m raster image → Behind w h m raster r → r ≡ fine image
only_image w h m raster image (Ok other) a b =
    ap fine (b.is ∙ ap (λ (s : List ℕ). picture w h m s) (same_samples w h m raster other.samples image.samples b.samples a.samples) ∙ sym a.is)
only_image w h m raster image (Err SizeRange) a b = absurd (b (image_sides w h m raster image a))
only_image w h m raster image (Err MaxvalRange) a b = absurd (b.1 a.maxval_in_range)
only_image w h m raster image (Err (RasterShort have need)) a b = let enough = long_enough w h m raster image.samples a.samples in absurd (omega (arith, b.2, b.3, b.4))
only_image w h m raster image (Err (SampleAbove index)) a b =
    absurd (not_both m image.samples index (image_below w h m raster image a) (moved_first m b.2.0 image.samples index (same_samples w h m raster b.2.0 image.samples b.2.1 a.samples) b.2.2))
only_image w h m raster image (Err NotPgm) a b = absurd b
only_image w h m raster image (Err HeaderShort) a b = absurd b
only_image w h m raster image (Err (HeaderByte at)) a b = absurd b

pub behind_only : (w h m : ℕ) (raster : List ℕ) (one other : Reading) → Behind w h m raster one → Behind w h m raster other → one ≡ other
behind_only w h m raster (Ok image) other a b = sym (only_image w h m raster image other a b)
behind_only w h m raster (Err SizeRange) other a b = sym (only_size w h m raster other a b)
behind_only w h m raster (Err MaxvalRange) other a b = sym (only_maxval w h m raster other a.0 a.1 b)
behind_only w h m raster (Err (RasterShort have need)) other a b =
    ap (λ (n : ℕ). lacking n need) a.2 ∙ ap (λ (n : ℕ). lacking (length raster) n) a.3 ∙ sym (only_short w h m raster other a.0 a.1 (omega (arith, a.2, a.3, a.4)) b)
behind_only w h m raster (Err (SampleAbove index)) other a b = sym (only_above w h m raster a.2.0 index other a.0 a.1 a.2.1 a.2.2 b)
behind_only w h m raster (Err NotPgm) other a b = absurd a
behind_only w h m raster (Err HeaderShort) other a b = absurd a
behind_only w h m raster (Err (HeaderByte at)) other a b = absurd a

-- ---- at least one

in_range_or : (n low high : ℕ) → ((low ≤ n) × (n ≤ high)) ⊎ ¬ ((low ≤ n) × (n ≤ high))
in_range_or n low high =
    elim (cases_lt n low) [
      | inl under ↦ inr (λ both. let le = both.0 in omega arith)
      | inr le ↦ elim (cases_lt high n) [
        | inl above ↦ inr (λ both. let ge = both.1 in omega arith)
        | inr ge ↦ inl (le, ge)
      ]
    ]

pub behind_some : (w h m : ℕ) (raster : List ℕ) → AllByRecursion (λ b. b < 256) raster → (r : Reading) × Behind w h m raster r
behind_some w h m raster fits =
    elim (in_range_or w 1 MAX_SIDE) [
      | inr out ↦ (bad SizeRange, λ sides. out sides.0)
      | inl width ↦ elim (in_range_or h 1 MAX_SIDE) [
        | inr out ↦ (bad SizeRange, λ sides. out sides.1)
        | inl height ↦ elim (in_range_or m 1 MAX_MAXVAL) [
          | inr out ↦ (bad MaxvalRange, ((width, height), out))
          | inl in_range ↦ elim (cases_lt (length raster) (raster_size w h m)) [
            | inl few ↦ (lacking (length raster) (raster_size w h m), ((width, height), in_range, refl, refl, few))
            | inr enough ↦ sampled (width, height) in_range (samples_there w h m raster fits enough)
          ]
        ]
      ]
    ]
  where
    sampled : AreSides w h → IsMaxval m → (samples : List ℕ) × HasSamples w h m raster samples → (r : Reading) × Behind w h m raster r
    sampled sides in_range (samples, has) =
        elim (all_or_first m samples) [
          | inr (index, above) ↦ (over index, (sides, in_range, (samples, has, above)))
          | inl below ↦ (
            fine (picture w h m samples),
            record {
              is = refl;
              samples = has;
              maxval_in_range = in_range;
              keeps = record { width_in_range = sides.0; height_in_range = sides.1; full = has.full; maxval_in_range = in_range.0; below = below };
            },
          )
        ]

-- ---- numbers that are too great may be taken as one

moved : (w' h' m' w h m : ℕ) (raster : List ℕ) (r : Reading) → w' ≡ w → h' ≡ h → m' ≡ m → Behind w' h' m' raster r → Behind w h m raster r
moved w' h' m' w h m raster r we he me b =
    let P : ℕ → Type 0 = λ n. Behind n h' m' raster r in
    let Q : ℕ → Type 0 = λ n. Behind w n m' raster r in
    let R : ℕ → Type 0 = λ n. Behind w h n raster r in
    subst R me (subst Q he (subst P we b))

-- a number in a range isn't too great
sides_stand : (w h : ℕ) → AreSides w h → (capped w ≡ w) × (capped h ≡ h)
sides_stand w h (width, height) = (omega arith, omega arith)

maxval_stands : (m : ℕ) → IsMaxval m → capped m ≡ m
maxval_stands m is = omega arith

capped_sides_stand : (w h : ℕ) → AreSides (capped w) (capped h) → (capped w ≡ w) × (capped h ≡ h)
capped_sides_stand w h (width, height) = (omega arith, omega arith)

capped_maxval_stands : (m : ℕ) → IsMaxval (capped m) → capped m ≡ m
capped_maxval_stands m is = omega arith

real_sides : (w h : ℕ) → AreSides (capped w) (capped h) → AreSides w h
real_sides w h ((a, b), (c, d)) = ((omega arith, omega arith), (omega arith, omega arith))

capped_sides : (w h : ℕ) → AreSides w h → AreSides (capped w) (capped h)
capped_sides w h ((a, b), (c, d)) = ((omega arith, omega arith), (omega arith, omega arith))

real_maxval : (m : ℕ) → IsMaxval (capped m) → IsMaxval m
real_maxval m (a, b) = (omega arith, omega arith)

capped_maxval : (m : ℕ) → IsMaxval m → IsMaxval (capped m)
capped_maxval m (a, b) = (omega arith, omega arith)

pub to_real : (w h m : ℕ) (raster : List ℕ) (r : Reading) → Behind (capped w) (capped h) (capped m) raster r → Behind w h m raster r
to_real w h m raster (Ok image) b = let same = capped_sides_stand w h (image_sides (capped w) (capped h) (capped m) raster image b) in moved (capped w) (capped h) (capped m) w h m raster (fine image) same.0 same.1 (capped_maxval_stands m b.maxval_in_range) b
to_real w h m raster (Err SizeRange) b = λ sides. b (capped_sides w h sides)
to_real w h m raster (Err MaxvalRange) b = (real_sides w h b.0, λ in_range. b.1 (capped_maxval m in_range))
to_real w h m raster (Err (RasterShort have need)) b = let same = capped_sides_stand w h b.0 in moved (capped w) (capped h) (capped m) w h m raster (lacking have need) same.0 same.1 (capped_maxval_stands m b.1) b
to_real w h m raster (Err (SampleAbove index)) b = let same = capped_sides_stand w h b.0 in moved (capped w) (capped h) (capped m) w h m raster (over index) same.0 same.1 (capped_maxval_stands m b.1) b
to_real w h m raster (Err NotPgm) b = absurd b
to_real w h m raster (Err HeaderShort) b = absurd b
to_real w h m raster (Err (HeaderByte at)) b = absurd b

pub to_capped : (w h m : ℕ) (raster : List ℕ) (r : Reading) → Behind w h m raster r → Behind (capped w) (capped h) (capped m) raster r
to_capped w h m raster (Ok image) b = let same = sides_stand w h (image_sides w h m raster image b) in moved w h m (capped w) (capped h) (capped m) raster (fine image) (sym same.0) (sym same.1) (sym (maxval_stands m b.maxval_in_range)) b
to_capped w h m raster (Err SizeRange) b = λ sides. b (real_sides w h sides)
to_capped w h m raster (Err MaxvalRange) b = (capped_sides w h b.0, λ in_range. b.1 (real_maxval m in_range))
to_capped w h m raster (Err (RasterShort have need)) b = let same = sides_stand w h b.0 in moved w h m (capped w) (capped h) (capped m) raster (lacking have need) (sym same.0) (sym same.1) (sym (maxval_stands m b.1)) b
to_capped w h m raster (Err (SampleAbove index)) b = let same = sides_stand w h b.0 in moved w h m (capped w) (capped h) (capped m) raster (over index) (sym same.0) (sym same.1) (sym (maxval_stands m b.1)) b
to_capped w h m raster (Err NotPgm) b = absurd b
to_capped w h m raster (Err HeaderShort) b = absurd b
to_capped w h m raster (Err (HeaderByte at)) b = absurd b
