-- Laws of samples as bytes.
use Rattle.std.proofs.Common.{◌≡◌, ℕ, zero, suc, ◌+◌, ◌*◌, ◌/◌, ◌%◌, ◌<◌, ◌≤◌, ◌⊎◌, inl, inr, List, [], ◌∷◌, ◌++◌, length, get_or, take, drop, Bool, true, false, refl, sym, ap, ◌∙◌, subst, arith, if◌then◌else◌, nat_lt, All, flat_map}
use Rattle.std.specs.List.{AllByRecursion}
use Rattle.std.proofs.lemmas.Bool.{cases_lt}
use Rattle.std.proofs.lemmas.List.{take-append-drop, take_at, length-append, length-take-le}
use Rattle.std.proofs.lemmas.List.Elements.{All-from_recursion}
use Rattle.sgm_pgm.proofs.PartLaws.{which}
use Rattle.sgm_base.specs.Picture.{Picture, IsPicture, picture}
use Rattle.sgm_pgm.specs.declared.fault.PgmFault.{PgmFault}
use Rattle.sgm_pgm.specs.declared.fault.PgmFault.TheVariants.{SampleAbove}
use Rattle.sgm_pgm.specs.Fault.{HasSamples, IsFirstAbove, AreSides, IsFaultBehind}
use Rattle.sgm_pgm.specs.Parts.{IsImageBehind}
use Rattle.sgm_pgm.specs.Raster.{IsMaxval, raster_of, raster_size, two_bytes}

-- the bytes of one sample
abbrev pub unit : ℕ → ℕ
unit maxval = if nat_lt maxval 256 then 1 else 2

-- how the samples stand, for each of the two forms
pub raster_of-single : (maxval : ℕ) (samples : List ℕ) → nat_lt maxval 256 ≡ true → raster_of maxval samples ≡ samples
raster_of-single maxval [] low = refl
raster_of-single maxval (s ∷ samples) low =
    ap (λ (b : Bool). (if b then s ∷ [] else two_bytes s) ++ raster_of maxval samples) low ∙ ap (λ (t : List ℕ). s ∷ t) (raster_of-single maxval samples low)

pub raster_of-double : (maxval : ℕ) (samples : List ℕ) → nat_lt maxval 256 ≡ false → raster_of maxval samples ≡ flat_map two_bytes samples
raster_of-double maxval [] high = refl
raster_of-double maxval (s ∷ samples) high =
    ap (λ (b : Bool). (if b then s ∷ [] else two_bytes s) ++ raster_of maxval samples) high ∙ ap (λ (t : List ℕ). s / 256 ∷ s % 256 ∷ t) (raster_of-double maxval samples high)

two_bytes_of : (s high low : ℕ) → s ≡ 256 * high + low → low < 256 → (s / 256 ≡ high) × (s % 256 ≡ low)
two_bytes_of s high low is fits = (omega arith, omega arith)

-- pairs of bytes are the bytes of the numbers that they make
pub pairs_are : (samples bytes : List ℕ) → length samples * 2 ≡ length bytes → ((k : ℕ) → get_or bytes k 0 < 256) → ((k : ℕ) → k < length samples → get_or samples k 0 ≡ 256 * get_or bytes (2 * k) 0 + get_or bytes (2 * k + 1) 0) → flat_map two_bytes samples ≡ bytes
pairs_are [] [] full fits each = refl
pairs_are [] (a ∷ bytes) full fits each = absurd (omega arith)
pairs_are (s ∷ samples) [] full fits each = absurd (omega arith)
pairs_are (s ∷ samples) (a ∷ []) full fits each = absurd (omega arith)
pairs_are (s ∷ samples) (a ∷ b ∷ bytes) full fits each =
    let both = two_bytes_of s a b (each 0 (omega arith)) (fits 1) in
    let more : flat_map two_bytes samples ≡ bytes = pairs_are samples bytes (omega arith) (λ k. fits (suc (suc k))) (λ k lt.
    let at : 2 * suc k ≡ suc (suc (2 * k)) = omega arith in
    let next : 2 * suc k + 1 ≡ suc (suc (2 * k + 1)) = omega arith in
    each (suc k) (omega arith) ∙ ap (λ (i : ℕ). 256 * get_or (a ∷ b ∷ bytes) i 0 + get_or (a ∷ b ∷ bytes) (2 * suc k + 1) 0) at ∙ ap (λ (i : ℕ). 256 * get_or bytes (2 * k) 0 + get_or (a ∷ b ∷ bytes) i 0) next) in
    ap (λ (h : ℕ). h ∷ s % 256 ∷ flat_map two_bytes samples) both.0 ∙ ap (λ (l : ℕ). a ∷ l ∷ flat_map two_bytes samples) both.1 ∙ ap (λ (t : List ℕ). a ∷ b ∷ t) more

-- the samples of the front of a raster
pub front_samples : (width height maxval need : ℕ) (raster samples : List ℕ) → raster_of maxval samples ≡ take need raster → length samples ≡ width * height → HasSamples width height maxval raster samples
front_samples width height maxval need raster samples is full = record {
  rest = drop need raster;
  is = sym (take-append-drop need raster) ∙ ap (λ (t : List ℕ). t ++ drop need raster) (sym is);
  full = full;
}

pub image_is : (width height maxval need : ℕ) (raster samples : List ℕ) (image : Picture) → IsMaxval maxval → image ≡ picture width height maxval samples → IsPicture image → raster_of maxval samples ≡ take need raster → length samples ≡ width * height → IsImageBehind width height maxval raster image
image_is width height maxval need raster samples image in_range is keeps bytes full =
    let same : samples ≡ image.samples = sym (ap (λ (i : Picture). i.samples) is) in
    let P : List ℕ → Type 0 = λ s. HasSamples width height maxval raster s in
    record {
      is = is ∙ ap (λ (s : List ℕ). picture width height maxval s) same;
      samples = subst P same (front_samples width height maxval need raster samples bytes full);
      maxval_in_range = in_range;
      keeps = keeps;
    }

pub fault_is : (width height maxval need : ℕ) (raster samples : List ℕ) (fault : PgmFault) → AreSides width height → IsMaxval maxval → raster_of maxval samples ≡ take need raster → length samples ≡ width * height → (index : ℕ) × (fault ≡ SampleAbove index) × IsFirstAbove maxval samples index → IsFaultBehind width height maxval raster fault
fault_is width height maxval need raster samples fault sides in_range bytes full found =
    let P : PgmFault → Type 0 = λ f. IsFaultBehind width height maxval raster f in
    subst P (sym found.1) (sides, in_range, (samples, front_samples width height maxval need raster samples bytes full, found.2))

-- ---- which samples stand at the front of a raster

length-double : (samples : List ℕ) → length (flat_map two_bytes samples) ≡ length samples * 2
length-double [] = refl
length-double (s ∷ samples) = let more = length-double samples in omega arith

length-raster_of : (maxval : ℕ) (samples : List ℕ) → length (raster_of maxval samples) ≡ length samples * unit maxval
length-raster_of maxval samples =
    elim (which (nat_lt maxval 256)) [
      | inl low ↦ ap length (raster_of-single maxval samples low) ∙ omega arith ∙ ap (λ (b : Bool). length samples * (if b then 1 else 2)) (sym low)
      | inr high ↦ ap length (raster_of-double maxval samples high) ∙ length-double samples ∙ ap (λ (b : Bool). length samples * (if b then 1 else 2)) (sym high)
    ]

same_halves : (s t : ℕ) → s / 256 ≡ t / 256 → s % 256 ≡ t % 256 → s ≡ t
same_halves s t high low = omega arith

same_double : (samples others : List ℕ) → flat_map two_bytes samples ≡ flat_map two_bytes others → samples ≡ others
same_double [] [] e = refl
same_double [] (t ∷ others) e = absurd cc
same_double (s ∷ samples) [] e = absurd cc
same_double (s ∷ samples) (t ∷ others) e =
    let high : s / 256 ≡ t / 256 = cc in
    let low : s % 256 ≡ t % 256 = cc in
    let more : flat_map two_bytes samples ≡ flat_map two_bytes others = cc in
    ap (λ (n : ℕ). n ∷ samples) (same_halves s t high low) ∙ ap (λ (x : List ℕ). t ∷ x) (same_double samples others more)

-- samples of one number have one form, whatever stands behind them
pub same_samples : (width height maxval : ℕ) (raster samples others : List ℕ) → HasSamples width height maxval raster samples → HasSamples width height maxval raster others → samples ≡ others
same_samples width height maxval raster samples others one other =
    let size : length (raster_of maxval samples) ≡ length (raster_of maxval others) = length-raster_of maxval samples ∙ ap (λ (n : ℕ). n * unit maxval) (one.full ∙ sym other.full) ∙ sym (length-raster_of maxval others) in
    let front : raster_of maxval samples ≡ raster_of maxval others =
    sym (take_at (raster_of maxval samples) one.rest (length (raster_of maxval samples)) refl)
    ∙ ap (λ (t : List ℕ). take (length (raster_of maxval samples)) t) (sym one.is ∙ other.is)
    ∙ take_at (raster_of maxval others) other.rest (length (raster_of maxval samples)) (sym size) in
    elim (which (nat_lt maxval 256)) [
      | inl low ↦ sym (raster_of-single maxval samples low) ∙ front ∙ raster_of-single maxval others low
      | inr high ↦ same_double samples others (sym (raster_of-double maxval samples high) ∙ front ∙ raster_of-double maxval others high)
    ]

-- a raster that has samples is long enough
pub long_enough : (width height maxval : ℕ) (raster samples : List ℕ) → HasSamples width height maxval raster samples → raster_size width height maxval ≤ length raster
long_enough width height maxval raster samples has =
    omega (arith, ap length has.is, length-append (raster_of maxval samples) has.rest, length-raster_of maxval samples, ap (λ (n : ℕ). n * unit maxval) has.full)

pairs_there : (n : ℕ) (bytes : List ℕ) → AllByRecursion (λ b. b < 256) bytes → n * 2 ≤ length bytes → (samples : List ℕ) × (rest : List ℕ) × (length samples ≡ n) × (bytes ≡ flat_map two_bytes samples ++ rest)
pairs_there zero bytes fits enough = ([], bytes, refl, refl)
pairs_there (suc n) [] fits enough = absurd (omega arith)
pairs_there (suc n) (a ∷ []) fits enough = absurd (omega arith)
pairs_there (suc n) (a ∷ b ∷ bytes) fits enough =
    let more = pairs_there n bytes fits.1.1 (omega arith) in
    let both = two_bytes_of (256 * a + b) a b refl fits.1.0 in (
      (256 * a + b) ∷ more.0,
      more.1,
      ap suc more.2,
      ap (λ (t : List ℕ). a ∷ b ∷ t) more.3 ∙ ap (λ (h : ℕ). h ∷ b ∷ (flat_map two_bytes more.0 ++ more.1)) (sym both.0) ∙ ap (λ (l : ℕ). (256 * a + b) / 256 ∷ l ∷ (flat_map two_bytes more.0 ++ more.1)) (sym both.1),
    )

-- a raster of bytes that is long enough has samples
pub samples_there : (width height maxval : ℕ) (raster : List ℕ) → AllByRecursion (λ b. b < 256) raster → raster_size width height maxval ≤ length raster → (samples : List ℕ) × HasSamples width height maxval raster samples
samples_there width height maxval raster fits enough =
    let count = width * height in
    elim (which (nat_lt maxval 256)) [
      | inl low ↦
          let size : count * unit maxval ≡ count * 1 = ap (λ (b : Bool). count * (if b then 1 else 2)) low in
          let few : count ≤ length raster = omega arith in (
            take count raster,
            record {
              rest = drop count raster;
              is = sym (take-append-drop count raster) ∙ ap (λ (t : List ℕ). t ++ drop count raster) (sym (raster_of-single maxval (take count raster) low));
              full = length-take-le count raster few;
            },
          )
      | inr high ↦
          let size : count * unit maxval ≡ count * 2 = ap (λ (b : Bool). count * (if b then 1 else 2)) high in
          let pairs = pairs_there count raster fits (omega arith) in (
            pairs.0,
            record {
              rest = pairs.1;
              is = pairs.3 ∙ ap (λ (t : List ℕ). t ++ pairs.1) (sym (raster_of-double maxval pairs.0 high));
              full = pairs.2;
            },
          )
    ]

-- ---- the first sample above maxval

first_above : (maxval : ℕ) (samples : List ℕ) → AllByRecursion (λ s. s ≤ maxval) samples ⊎ ((index : ℕ) × IsFirstAbove maxval samples index)
first_above maxval [] = inl tt
first_above maxval (s ∷ samples) =
    elim (cases_lt maxval s) [
      | inl above ↦ inr (0, record { inside = omega arith; above = above; first = λ k lt. absurd (omega arith) })
      | inr below ↦ elim (first_above maxval samples) [
        | inl all ↦ inl (below, all)
        | inr (index, is) ↦ inr (suc index, record { inside = omega (arith, is.inside); above = is.above; first = before index is.first below })
      ]
    ]
  where
    before : (index : ℕ) → ((k : ℕ) → k < index → get_or samples k 0 ≤ maxval) → s ≤ maxval → (k : ℕ) → k < suc index → get_or (s ∷ samples) k 0 ≤ maxval
    before index first below zero lt = below
    before index first below (suc k) lt = first k (omega arith)

pub all_or_first : (maxval : ℕ) (samples : List ℕ) → All (λ s. s ≤ maxval) samples ⊎ ((index : ℕ) × IsFirstAbove maxval samples index)
all_or_first maxval samples = elim (first_above maxval samples) [ inl all ↦ inl (All-from_recursion (λ s. s ≤ maxval) samples all) | inr found ↦ inr found ]

pub not_both : (maxval : ℕ) (samples : List ℕ) (index : ℕ) → All (λ s. s ≤ maxval) samples → IsFirstAbove maxval samples index → ⊥
not_both maxval samples index all is = let below = all index 0 is.inside in let above = is.above in omega arith

pub same_first : (maxval : ℕ) (samples : List ℕ) (one other : ℕ) → IsFirstAbove maxval samples one → IsFirstAbove maxval samples other → one ≡ other
same_first maxval samples one other a b =
    elim (cases_lt one other) [
      | inl lt ↦ let below = b.first one lt in let above = a.above in absurd (omega arith)
      | inr le ↦ elim (cases_lt other one) [
        | inl lt ↦ let below = a.first other lt in let above = b.above in absurd (omega arith)
        | inr ge ↦ omega arith
      ]
    ]
