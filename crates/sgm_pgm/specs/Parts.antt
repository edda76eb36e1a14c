-- Words of the reader's own functions: what the front of some bytes comes to, read as one part of a
-- header. No public clause cites them.
use Rattle.std.specs.Prelude.{◌≡◌, ⊤, ℕ, ◌+◌, ◌-◌, ◌*◌, ◌<◌, min, List, [], ◌∷◌, drop, length, Bool}
use Rattle.std.specs.Prelude.{true, false, not, ◌==◌, ◌||◌, Result, Ok, Err, if◌then◌else◌}
use Rattle.std.specs.Char.{is_ascii_digit}
use Rattle.sgm_pgm.specs.declared.fault.PgmFault.{PgmFault}
use Rattle.sgm_pgm.specs.declared.fault.PgmFault.TheVariants.{HeaderShort, HeaderByte}
use Rattle.sgm_base.specs.Picture.{Picture, IsPicture, picture}
use Rattle.sgm_pgm.specs.declared.fault.PgmError.{PgmError}
use Rattle.sgm_pgm.specs.declared.fault.PgmError.TheVariants.{Fault, NoMemory}
use Rattle.sgm_pgm.specs.declared.header.TheConstants.{TOO_GREAT}
use Rattle.sgm_pgm.specs.Fault.{HasSamples, IsFaultBehind}
use Rattle.sgm_pgm.specs.Header.{HasHeader, is_white, ends_line}
use Rattle.sgm_pgm.specs.Raster.{IsMaxval}

-- the bytes end inside the part, or the first of those that are left can't stand in its place
pub data Stop : Type 0 where
  short : Stop
  wrong : List ℕ → Stop

infixl 10 ◌>>=◌
abbrev pub ◌>>=◌ : {A B : Type 0} → Result A Stop → (A → Result B Stop) → Result B Stop
(Ok x) >>= f = f x
(Err stop) >>= f = Err stop

-- what is left behind a Gap whose front has passed, where a comment is open or not
abbrev pub gap_rest : Bool → List ℕ → Result (List ℕ) Stop
gap_rest commented [] = Err short
gap_rest true (b ∷ bs) = gap_rest (not (ends_line b)) bs
gap_rest false (b ∷ bs) = if b == 35 then gap_rest true bs
    else (if is_white b then gap_rest false bs else Ok (b ∷ bs))

-- what is left behind a Gap
abbrev pub gap_at : List ℕ → Result (List ℕ) Stop
gap_at [] = Err short
gap_at (b ∷ bs) = if b == 35 || is_white b then gap_rest false (b ∷ bs) else Err (wrong (b ∷ bs))

-- a number whose front has passed, with all that are too great as one, and what is left behind it
abbrev pub number_rest : ℕ → List ℕ → Result (ℕ × List ℕ) Stop
number_rest n [] = Err short
number_rest n (b ∷ bs) = if is_ascii_digit b then number_rest (min (10 * n + (b - 48)) TOO_GREAT) bs
    else Ok (n, b ∷ bs)

abbrev pub number_at : List ℕ → Result (ℕ × List ℕ) Stop
number_at [] = Err short
number_at (b ∷ bs) = if is_ascii_digit b then number_rest 0 (b ∷ bs) else Err (wrong (b ∷ bs))

-- a Gap and a number
abbrev pub field_at : List ℕ → Result (ℕ × List ℕ) Stop
field_at bytes = gap_at bytes >>= number_at

-- what is left behind a white byte
abbrev pub white_at : List ℕ → Result (List ℕ) Stop
white_at [] = Err short
white_at (b ∷ bs) = if is_white b then Ok bs else Err (wrong (b ∷ bs))

-- width, height and maxval, and what is left behind a header, without its magic
unfoldable pub header_at : List ℕ → Result (ℕ × ℕ × ℕ × List ℕ) Stop
header_at bytes = do
  width ← field_at bytes
  height ← field_at width.1
  maxval ← field_at height.1
  rest ← white_at maxval.1
  Ok (width.0, height.0, maxval.0, rest)

-- the fault that tells of this stop, among all bytes
abbrev pub Fails : {A : Type 0} → List ℕ → PgmFault → Result A Stop → Type 0
Fails bytes HeaderShort read = read ≡ Err short
Fails bytes (HeaderByte at) read = (at < length bytes) × (read ≡ Err (wrong (drop at bytes)))
Fails bytes fault read = ⊥

-- what a method of a reader answers that reads a part of the bytes and moves from one place to
-- another
abbrev pub Gives : {X A : Type 0} → (X → List ℕ → A) → (List ℕ → Result A Stop) → List ℕ → ℕ → ℕ
    → Result X PgmFault → Type 0
Gives value part bytes from to (Ok x) = part (drop from bytes) ≡ Ok (value x (drop to bytes))
Gives value part bytes from to (Err fault) = Fails bytes fault (part (drop from bytes))

-- the header of the bytes and what stands behind it, with numbers that are too great as one
pub record HasCappedHeader (bytes : List ℕ) (width height maxval : ℕ)
    (behind : List ℕ) : Type 0 where
  pub real_width : ℕ
  pub real_height : ℕ
  pub real_maxval : ℕ
  pub is : HasHeader bytes real_width real_height real_maxval behind
  pub width_is : width ≡ min real_width TOO_GREAT
  pub height_is : height ≡ min real_height TOO_GREAT
  pub maxval_is : maxval ≡ min real_maxval TOO_GREAT

-- an image whose samples stand at the front of the raster
pub record IsImageBehind (width height maxval : ℕ) (raster : List ℕ)
    (image : Picture) : Type 0 where
  pub is : image ≡ picture width height maxval image.samples
  pub samples : HasSamples width height maxval raster image.samples
  pub maxval_in_range : IsMaxval maxval
  pub keeps : IsPicture image

-- what is read behind a header of these values: an image, the first fault, or, where memory ran
-- out, anything
abbrev pub AnswersBehind : ℕ → ℕ → ℕ → List ℕ → Result Picture PgmError → Type 0
AnswersBehind width height maxval raster (Ok image) = IsImageBehind width height maxval raster image
AnswersBehind width height maxval raster (Err (Fault fault)) =
    IsFaultBehind width height maxval raster fault
AnswersBehind width height maxval raster (Err NoMemory) = ⊤
