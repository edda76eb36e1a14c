-- Each list of bytes has exactly one reading, and the parts of the reader find it.
use Rattle.std.proofs.Common.{◌≡◌, ℕ, ◌<◌, ◌⊎◌, inl, inr, List, [], ◌∷◌, ◌++◌, length, drop, ◌==◌, Result, Ok, Err, refl, sym, ap, ◌∙◌, subst, arith, All}
use Rattle.std.specs.List.{AllByRecursion}
use Rattle.std.proofs.lemmas.Bool.{eqb-true}
use Rattle.std.proofs.lemmas.Bool.Decides.{nat_tests}
use Rattle.std.proofs.lemmas.List.{length-drop, length-append, drop_at}
use Rattle.std.proofs.lemmas.List.Elements.{recursion_from_All}
use Rattle.sgm_base.specs.Picture.{Picture}
use Rattle.sgm_pgm.specs.declared.fault.PgmFault.{PgmFault}
use Rattle.sgm_pgm.specs.declared.fault.PgmFault.TheVariants.{NotPgm, HeaderShort, HeaderByte, SizeRange, MaxvalRange, RasterShort, SampleAbove}
use Rattle.sgm_pgm.specs.declared.fault.PgmError.{PgmError}
use Rattle.sgm_pgm.specs.declared.fault.PgmError.TheVariants.{Fault, NoMemory}
use Rattle.sgm_pgm.specs.Fault.{HasMagic, IsPgmFault}
use Rattle.sgm_pgm.specs.Header.{HasHeader}
use Rattle.sgm_pgm.specs.Parts.{Stop, short, header_at, Fails, HasCappedHeader, AnswersBehind}
use Rattle.sgm_pgm.specs.Raster.{IsMaxval, raster_of}
use Rattle.sgm_pgm.specs.Read.{Reads, ReadsAs, AnswersReading}
use Rattle.sgm_pgm.proofs.PartLaws.{which, capped}
use Rattle.sgm_pgm.proofs.HeaderLaws.{Numbers, told, misled, cut_short, misled_at, told_as, outcome, header_found, over_header, header_wrong, unfinished_from_short, short_from_unfinished, misled_from_wrong, wrong_from_misled}
use Rattle.sgm_pgm.proofs.BehindLaws.{Reading, Behind, behind_only, behind_some, to_real, to_capped}

abbrev faulty : PgmFault → Reading
faulty fault = Err fault

-- ---- the magic

magic_or : (bytes : List ℕ) → ((body : List ℕ) × (bytes ≡ 80 ∷ 53 ∷ body)) ⊎ ¬ HasMagic bytes
magic_or [] = inr (λ (rest, is). cc)
magic_or (a ∷ []) = inr (λ (rest, is). cc)
magic_or (a ∷ b ∷ body) =
    elim (which (a == 80)) [
      | inr other ↦ inr (λ (rest, is). let same : a ≡ 80 = cc in grind (arith, nat_tests))
      | inl first ↦ elim (which (b == 53)) [
        | inr other ↦ inr (λ (rest, is). let same : b ≡ 53 = cc in grind (arith, nat_tests))
        | inl second ↦ inl (body, ap (λ (n : ℕ). n ∷ b ∷ body) (eqb-true a 80 first) ∙ ap (λ (n : ℕ). 80 ∷ n ∷ body) (eqb-true b 53 second))
      ]
    ]

header_magic : (bytes : List ℕ) (w h m : ℕ) (behind : List ℕ) → HasHeader bytes w h m behind → HasMagic bytes
header_magic bytes w h m behind has = let again = over_header has.header w h m behind has.form in (again.0 ++ behind, has.is ∙ ap (λ (t : List ℕ). t ++ behind) again.1)

only_not_pgm : (bytes : List ℕ) (r : Reading) → ¬ HasMagic bytes → Reads bytes r → r ≡ faulty NotPgm
only_not_pgm bytes (Ok image) none reads = absurd (none (header_magic bytes image.width image.height image.maxval (raster_of image.maxval image.samples ++ reads.rest) reads.is))
only_not_pgm bytes (Err NotPgm) none reads = refl
only_not_pgm bytes (Err HeaderShort) none reads = absurd (none reads.0)
only_not_pgm bytes (Err (HeaderByte at)) none reads = absurd (none reads.0)
only_not_pgm bytes (Err SizeRange) none (w, h, m, raster, has, b) = absurd (none (header_magic bytes w h m raster has))
only_not_pgm bytes (Err MaxvalRange) none (w, h, m, raster, has, b) = absurd (none (header_magic bytes w h m raster has))
only_not_pgm bytes (Err (RasterShort have need)) none (w, h, m, raster, has, b) = absurd (none (header_magic bytes w h m raster has))
only_not_pgm bytes (Err (SampleAbove index)) none (w, h, m, raster, has, b) = absurd (none (header_magic bytes w h m raster has))

-- ---- behind a header

-- what stands behind a header is a reading of all bytes
pub reads_from_behind : (bytes : List ℕ) (w h m : ℕ) (raster : List ℕ) (r : Reading) → HasHeader bytes w h m raster → Behind w h m raster r → Reads bytes r
reads_from_behind bytes w h m raster (Ok image) has b =
    let P : ℕ → Type 0 = λ n. HasHeader bytes n h m raster in
    let Q : ℕ → Type 0 = λ n. HasHeader bytes image.width n m raster in
    let R : ℕ → Type 0 = λ n. HasHeader bytes image.width image.height n (raster_of n image.samples ++ b.samples.rest) in
    let S : List ℕ → Type 0 = λ t. HasHeader bytes image.width image.height m t in
    let T : ℕ → Type 0 = λ n. IsMaxval n in
    let maxval : m ≡ image.maxval = sym (ap (λ (i : Picture). i.maxval) b.is) in
    record {
      rest = b.samples.rest;
      is = subst R maxval (subst S b.samples.is (subst Q (sym (ap (λ (i : Picture). i.height) b.is)) (subst P (sym (ap (λ (i : Picture). i.width) b.is)) has)));
      maxval_in_range = subst T maxval b.maxval_in_range;
      keeps = b.keeps;
    }
reads_from_behind bytes w h m raster (Err SizeRange) has b = (w, h, m, raster, has, b)
reads_from_behind bytes w h m raster (Err MaxvalRange) has b = (w, h, m, raster, has, b)
reads_from_behind bytes w h m raster (Err (RasterShort have need)) has b = (w, h, m, raster, has, b)
reads_from_behind bytes w h m raster (Err (SampleAbove index)) has b = (w, h, m, raster, has, b)
reads_from_behind bytes w h m raster (Err NotPgm) has b = absurd b
reads_from_behind bytes w h m raster (Err HeaderShort) has b = absurd b
reads_from_behind bytes w h m raster (Err (HeaderByte at)) has b = absurd b

-- ---- at most one reading

-- what a reading says of the header
data Says (body : List ℕ) (r : Reading) : Type 0 where
  says_short : header_at body ≡ Err short → r ≡ faulty HeaderShort → Says body r
  says_wrong : (at : ℕ) → at < length (80 ∷ 53 ∷ body) → header_at body ≡ misled (drop at (80 ∷ 53 ∷ body)) → r ≡ faulty (HeaderByte at) → Says body r
  says_told : (w h m : ℕ) (raster : List ℕ) → header_at body ≡ told w h m raster → Behind w h m raster r → Says body r

told_header : (body : List ℕ) (w h m : ℕ) (raster : List ℕ) (r : Reading) → HasHeader (80 ∷ 53 ∷ body) w h m raster → Behind w h m raster r → Says body r
told_header body w h m raster r has b =
    let again = over_header has.header w h m raster has.form in
    let whole : 80 ∷ 53 ∷ body ≡ 80 ∷ 53 ∷ (again.0 ++ raster) = has.is ∙ ap (λ (t : List ℕ). t ++ raster) again.1 in
    let same : body ≡ again.0 ++ raster = ap (λ (t : List ℕ). drop 2 t) whole in
    says_told (capped w) (capped h) (capped m) raster (ap header_at same ∙ again.2) (to_capped w h m raster r b)

says : (body : List ℕ) (r : Reading) → Reads (80 ∷ 53 ∷ body) r → Says body r
says body (Ok image) reads =
    told_header body image.width image.height image.maxval (raster_of image.maxval image.samples ++ reads.rest) (Ok image) reads.is (record {
      is = refl;
      samples = record { rest = reads.rest; is = refl; full = reads.keeps.full };
      maxval_in_range = reads.maxval_in_range;
      keeps = reads.keeps;
    })
says body (Err NotPgm) reads = absurd (reads (body, refl))
says body (Err HeaderShort) reads = says_short (short_from_unfinished body reads.1) refl
says body (Err (HeaderByte at)) reads = says_wrong at reads.1.inside (misled_from_wrong body at reads.1) refl
says body (Err SizeRange) (w, h, m, raster, has, b) = told_header body w h m raster (Err SizeRange) has b
says body (Err MaxvalRange) (w, h, m, raster, has, b) = told_header body w h m raster (Err MaxvalRange) has b
says body (Err (RasterShort have need)) (w, h, m, raster, has, b) = told_header body w h m raster (Err (RasterShort have need)) has b
says body (Err (SampleAbove index)) (w, h, m, raster, has, b) = told_header body w h m raster (Err (SampleAbove index)) has b

same_place : (bytes : List ℕ) (one other : ℕ) → one < length bytes → other < length bytes → drop one bytes ≡ drop other bytes → one ≡ other
same_place bytes one other a b e = omega (arith, ap length e, length-drop one bytes, length-drop other bytes)

misled_are : (x y : List ℕ) → misled x ≡ misled y → x ≡ y
misled_are x y e = cc

numbers_are : (x y : Numbers) → ◌≡◌ {A = Result Numbers Stop} (Ok x) (Ok y) → x ≡ y
numbers_are x y e = cc

says_one : (body : List ℕ) (one other : Reading) → Says body one → Says body other → one ≡ other
says_one body one other (says_short a is) (says_short b is') = is ∙ sym is'
says_one body one other (says_short a is) (says_wrong at inside b is') = absurd cc
says_one body one other (says_short a is) (says_told w h m raster b behind) = absurd cc
says_one body one other (says_wrong at inside a is) (says_short b is') = absurd cc
says_one body one other (says_wrong at inside a is) (says_wrong at' inside' b is') =
    is ∙ ap (λ (n : ℕ). faulty (HeaderByte n)) (same_place (80 ∷ 53 ∷ body) at at' inside inside' (misled_are (drop at (80 ∷ 53 ∷ body)) (drop at' (80 ∷ 53 ∷ body)) (sym a ∙ b))) ∙ sym is'
says_one body one other (says_wrong at inside a is) (says_told w h m raster b behind) = absurd cc
says_one body one other (says_told w h m raster a behind) (says_short b is') = absurd cc
says_one body one other (says_told w h m raster a behind) (says_wrong at inside b is') = absurd cc
says_one body one other (says_told w h m raster a behind) (says_told w' h' m' raster' b behind') =
    let here : Numbers = (w, h, m, raster) in
    let there : Numbers = (w', h', m', raster') in
    let P : Numbers → Type 0 = λ n. Behind n.0 n.1 n.2 n.3 one in
    behind_only w' h' m' raster' one other (subst P (numbers_are here there (sym a ∙ b)) behind) behind'

pub reads_one : (bytes : List ℕ) (one other : Reading) → Reads bytes one → Reads bytes other → one ≡ other
reads_one bytes one other a b =
    elim (magic_or bytes) [
      | inr none ↦ only_not_pgm bytes one none a ∙ sym (only_not_pgm bytes other none b)
      | inl (body, is) ↦
          let P : List ℕ → Type 0 = λ t. Reads t one in
          let Q : List ℕ → Type 0 = λ t. Reads t other in
          says_one body one other (says body one (subst P is a)) (says body other (subst Q is b))
    ]

-- ---- at least one reading

rest_fits : (front rest : List ℕ) → AllByRecursion (λ b. b < 256) (front ++ rest) → AllByRecursion (λ b. b < 256) rest
rest_fits [] rest fits = fits
rest_fits (a ∷ front) rest fits = rest_fits front rest fits.1

some_reading : (body : List ℕ) → AllByRecursion (λ b. b < 256) (80 ∷ 53 ∷ body) → (r : Reading) × Reads (80 ∷ 53 ∷ body) r
some_reading body fits =
    elim (outcome body) [
      | cut_short e ↦ (faulty HeaderShort, ((body, refl), unfinished_from_short body e))
      | misled_at rest e ↦ misled_reading rest e
      | told_as w h m raster e ↦
          let found = header_found body w h m raster e in
          let P : List ℕ → Type 0 = λ t. AllByRecursion (λ b. b < 256) t in
          let behind = behind_some found.real_width found.real_height found.real_maxval raster (rest_fits found.is.header raster (subst P found.is.is fits)) in
          (behind.0, reads_from_behind (80 ∷ 53 ∷ body) found.real_width found.real_height found.real_maxval raster behind.0 found.is behind.1)
    ]
  where
    misled_reading : (rest : List ℕ) → header_at body ≡ misled rest → (r : Reading) × Reads (80 ∷ 53 ∷ body) r
    misled_reading rest e =
        let ends = header_wrong body rest e in
        let at = length (80 ∷ 53 ∷ ends.front) in
        let whole : 80 ∷ 53 ∷ body ≡ (80 ∷ 53 ∷ ends.front) ++ ends.next ∷ ends.more = ap (λ (t : List ℕ). 80 ∷ 53 ∷ t) ends.is in
        let left : rest ≡ drop at (80 ∷ 53 ∷ body) = ends.rest_is ∙ sym (ap (λ (t : List ℕ). drop at t) whole ∙ drop_at (80 ∷ 53 ∷ ends.front) (ends.next ∷ ends.more) at refl) in
        let inside : at < length (80 ∷ 53 ∷ body) = omega (arith, ap length whole, length-append ends.front (ends.next ∷ ends.more)) in
        (faulty (HeaderByte at), ((body, refl), wrong_from_misled body at inside (e ∙ ap (λ (t : List ℕ). misled t) left)))

pub reads_some : (bytes : List ℕ) → All (λ b. b < 256) bytes → (r : Reading) × Reads bytes r
reads_some bytes fits =
    elim (magic_or bytes) [
      | inr none ↦ (faulty NotPgm, none)
      | inl (body, is) ↦
          let P : List ℕ → Type 0 = λ t. AllByRecursion (λ b. b < 256) t in
          let some = some_reading body (subst P is (recursion_from_All (λ b. b < 256) bytes fits)) in
          let Q : List ℕ → Type 0 = λ t. Reads t some.0 in
          (some.0, subst Q (sym is) some.1)
    ]

-- ---- the parts of the reader

-- where the reader stops in a header, the bytes have its fault
pub header_fault : (bytes : List ℕ) (fault : PgmFault) → HasMagic bytes → Fails bytes fault (header_at (drop 2 bytes)) → IsPgmFault bytes fault
header_fault bytes fault (body, is) fails =
    let P : List ℕ → Type 0 = λ t. Fails t fault (header_at (drop 2 t)) in
    let Q : List ℕ → Type 0 = λ t. IsPgmFault t fault in
    subst Q (sym is) (from fault (subst P is fails))
  where
    from : (f : PgmFault) → Fails (80 ∷ 53 ∷ body) f (header_at body) → IsPgmFault (80 ∷ 53 ∷ body) f
    from HeaderShort e = ((body, refl), unfinished_from_short body e)
    from (HeaderByte at) e = ((body, refl), wrong_from_misled body at e.0 e.1)
    from NotPgm e = absurd e
    from SizeRange e = absurd e
    from MaxvalRange e = absurd e
    from (RasterShort have need) e = absurd e
    from (SampleAbove index) e = absurd e

-- where it doesn't, the bytes have the header that it has read
pub header_read : (bytes : List ℕ) (w h m : ℕ) (raster : List ℕ) → HasMagic bytes → header_at (drop 2 bytes) ≡ told w h m raster → HasCappedHeader bytes w h m raster
header_read bytes w h m raster (body, is) e =
    let P : List ℕ → Type 0 = λ t. HasCappedHeader t w h m raster in
    subst P (sym is) (header_found body w h m raster (ap (λ (t : List ℕ). header_at (drop 2 t)) (sym is) ∙ e))

-- what is answered behind a header is answered for all bytes
pub answers_reading : (bytes : List ℕ) (w h m : ℕ) (raster : List ℕ) (r : Result Picture PgmError) → HasCappedHeader bytes w h m raster → AnswersBehind w h m raster r → AnswersReading bytes r
answers_reading bytes w h m raster r has answers = from r answers
  where
    real : (reading : Reading) → Behind w h m raster reading → Reads bytes reading
    real reading b =
        let P : ℕ → Type 0 = λ n. Behind n h m raster reading in
        let Q : ℕ → Type 0 = λ n. Behind (capped has.real_width) n m raster reading in
        let R : ℕ → Type 0 = λ n. Behind (capped has.real_width) (capped has.real_height) n raster reading in
        reads_from_behind bytes has.real_width has.real_height has.real_maxval raster reading has.is
        (to_real has.real_width has.real_height has.real_maxval raster reading (subst R has.maxval_is (subst Q has.height_is (subst P has.width_is b))))

    from : (r : Result Picture PgmError) → AnswersBehind w h m raster r → AnswersReading bytes r
    from (Ok image) b = real (Ok image) b
    from (Err (Fault fault)) b = real (Err fault) b
    from (Err NoMemory) b = tt

-- and no other reading is theirs
pub answers_only : (bytes : List ℕ) (r : Result Picture PgmError) (reading : Reading) → AnswersReading bytes r → Reads bytes reading → ReadsAs reading r
answers_only bytes (Ok image) reading answers reads = reads_one bytes reading (Ok image) reads answers
answers_only bytes (Err (Fault fault)) reading answers reads = reads_one bytes reading (Err fault) reads answers
answers_only bytes (Err NoMemory) reading answers reads = tt
