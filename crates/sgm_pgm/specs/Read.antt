-- The reading of bytes as a PGM text: the image of the text that they are, or their first fault.
use Rattle.std.specs.Prelude.{◌≡◌, ⊤, ℕ, List, Result, Ok, Err}
use Rattle.sgm_base.specs.Picture.{Picture}
use Rattle.sgm_pgm.specs.declared.fault.PgmFault.{PgmFault}
use Rattle.sgm_pgm.specs.declared.fault.PgmError.{PgmError}
use Rattle.sgm_pgm.specs.declared.fault.PgmError.TheVariants.{Fault, NoMemory}
use Rattle.sgm_pgm.specs.Fault.{IsPgmFault}
use Rattle.sgm_pgm.specs.Text.{IsPgmText}

-- the bytes are the text of this image, or this is their first fault
abbrev pub Reads : List ℕ → Result Picture PgmFault → Type 0
Reads bytes (Ok image) = IsPgmText bytes image
Reads bytes (Err fault) = IsPgmFault bytes fault

-- a reading, and what a reader answers that gives it
abbrev pub ReadsAs : Result Picture PgmFault → Result Picture PgmError → Type 0
ReadsAs reading (Ok image) = reading ≡ Ok image
ReadsAs reading (Err (Fault fault)) = reading ≡ Err fault
ReadsAs reading (Err NoMemory) = ⊤

-- what a reader of these bytes answers is a reading of them, unless memory ran out
abbrev pub AnswersReading : List ℕ → Result Picture PgmError → Type 0
AnswersReading bytes (Ok image) = Reads bytes (Ok image)
AnswersReading bytes (Err (Fault fault)) = Reads bytes (Err fault)
AnswersReading bytes (Err NoMemory) = ⊤
