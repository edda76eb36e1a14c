-- The line that an outcome prints.
use Rattle.std.specs.Prelude.{◌≡◌, ◌⊎◌, ℕ, List, [], ◌++◌, codes, decimal}
use Rattle.sgm_base.specs.declared.limits.TheConstants.{MAX_VOLUME}
use Rattle.sgm_base.specs.declared.side.Side.{Side}
use Rattle.sgm_base.specs.declared.side.Side.TheVariants as side
use Rattle.sgm_base.specs.Sides.{Sides}
use Rattle.sgm_io.specs.Counts.{Rose}
use Rattle.sgm_io.specs.Sink.{GrowsByPrefix}
use Rattle.sgm_pgm.specs.declared.fault.PgmFault.{PgmFault}
use Rattle.sgm_pgm.specs.declared.fault.PgmFault.TheVariants as pgm
use Rattle.sgm_rectify.specs.declared.warp.WarpFault.{WarpFault}
use Rattle.sgm_rectify.specs.declared.warp.WarpFault.TheVariants as warp
use Rattle.sgm_grid.specs.declared.asc_fault.AscFault.{AscFault}
use Rattle.sgm_grid.specs.declared.asc_fault.AscFault.TheVariants as asc
use Rattle.sgm_calib.specs.declared.keys.CalibFault.{CalibFault}
use Rattle.sgm_calib.specs.declared.keys.CalibFault.TheVariants as calib
use Rattle.sgm_calib.specs.Paths.{path_of}
use Rattle.sgm_list.specs.declared.names.NamesFault.{NamesFault}
use Rattle.sgm_list.specs.declared.names.NamesFault.TheVariants as names
use Rattle.sgm_words.specs.Files.{input_name, output_word}
use Rattle.sgm_words.specs.declared.files.Input.{Input}
use Rattle.sgm_words.specs.declared.files.Input.TheVariants.{Grid}
use Rattle.sgm_words.specs.declared.usage.UsageFault.{UsageFault}
use Rattle.sgm_words.specs.declared.usage.UsageFault.TheVariants as usage
use Rattle.sgm_outcome.specs.declared.outcome.Refusal.{Refusal}
use Rattle.sgm_outcome.specs.declared.outcome.Refusal.TheVariants as refusal
use Rattle.sgm_outcome.specs.declared.outcome.Outcome.{Outcome}
use Rattle.sgm_outcome.specs.declared.outcome.Outcome.TheVariants.{Done, Usage, Refused, ReadFault}
use Rattle.sgm_outcome.specs.declared.outcome.Outcome.TheVariants.{WriteFault, NoMemory}

-- a side's word in fault lines
abbrev pub side_word : Side → List ℕ
side_word side.Left = codes "left"
side_word side.Right = codes "right"

-- what is wrong with the word at a position
abbrev pub word_line : ℕ → List ℕ → List ℕ
word_line position what = codes "sgm: word " ++ decimal position ++ what

-- the line of a fault of the words
abbrev pub usage_line : UsageFault → List ℕ
usage_line usage.NoCommand = codes "sgm: no command\n"
usage_line usage.UnknownCommand = codes "sgm: unknown command\n"
usage_line (usage.TooFew have need) = codes "sgm: " ++ decimal have
    ++ codes " words after the command, " ++ decimal need ++ codes " needed\n"
usage_line (usage.EmptyName position) = word_line position (codes " is empty\n")
usage_line (usage.BadDirection position) = word_line position (codes " is not a direction\n")
usage_line (usage.BadNumber position) = word_line position (codes " is not a number in range\n")
usage_line (usage.BadOption position) = word_line position (codes " is not an option\n")
usage_line (usage.RepeatedOption position) = word_line position (codes " repeats an option\n")
usage_line (usage.OutputIsInput position) = word_line position (codes " is also an output\n")

-- what is wrong with the image of a side
abbrev pub image_line : Side → List ℕ → List ℕ
image_line side what = codes "sgm: " ++ side_word side ++ what

-- the line of an image that is refused
abbrev pub pgm_line : Side → PgmFault → List ℕ
pgm_line side pgm.NotPgm = image_line side (codes ": not a binary PGM\n")
pgm_line side pgm.HeaderShort = image_line side (codes ": header ends early\n")
pgm_line side (pgm.HeaderByte at) = image_line side (codes ": unexpected byte at ") ++ decimal at
    ++ codes "\n"
pgm_line side pgm.SizeRange = image_line side (codes ": size out of range\n")
pgm_line side pgm.MaxvalRange = image_line side (codes ": maxval out of range\n")
pgm_line side (pgm.RasterShort have need) = image_line side (codes ": raster has ") ++ decimal have
    ++ codes " of " ++ decimal need ++ codes " bytes\n"
pgm_line side (pgm.SampleAbove index) = image_line side (codes ": sample ") ++ decimal index
    ++ codes " is above maxval\n"

-- the line of a calibration that is refused
abbrev pub calib_line : CalibFault → List ℕ
calib_line calib.Json = codes "sgm: calibration: not JSON\n"
calib_line calib.Version = codes "sgm: calibration: unknown version\n"
calib_line (calib.Missing key) = codes "sgm: calibration: " ++ path_of key ++ codes " is missing\n"
calib_line (calib.Unknown key) = codes "sgm: calibration: " ++ path_of key
    ++ codes " has an unknown name\n"
calib_line (calib.Type_ key) = codes "sgm: calibration: " ++ path_of key
    ++ codes " has the wrong type\n"
calib_line (calib.Range key) = codes "sgm: calibration: " ++ path_of key
    ++ codes " is out of range\n"

-- the line of a warp that doesn't suit its image
abbrev pub warp_line : Side → WarpFault → List ℕ
warp_line side (warp.Denominator corner) =
    image_line side (codes " warp: denominator not positive at corner ") ++ decimal corner
    ++ codes "\n"
warp_line side (warp.MeshSize cols rows need_cols need_rows) =
    image_line side (codes " warp: mesh is ") ++ decimal cols ++ codes "x" ++ decimal rows
    ++ codes ", " ++ decimal need_cols ++ codes "x" ++ decimal need_rows ++ codes " needed\n"

-- the line of two images that differ in size
abbrev pub sizes_line : Sides → Sides → List ℕ
sizes_line left right =
    codes "sgm: sizes differ: " ++ decimal left.width ++ codes "x" ++ decimal left.height
    ++ codes " and " ++ decimal right.width ++ codes "x" ++ decimal right.height ++ codes "\n"

-- what is wrong with an input
abbrev pub input_line : Input → List ℕ → List ℕ
input_line input what = codes "sgm: " ++ input_name input ++ what

-- the line of a grid that is refused
abbrev pub asc_line : Input → AscFault → List ℕ
asc_line input (asc.Word at) = input_line input (codes ": word ") ++ decimal at
    ++ codes " is not as expected\n"
asc_line input (asc.Range at) = input_line input (codes ": word ") ++ decimal at
    ++ codes " is out of range\n"
asc_line input (asc.Count have need) = input_line input (codes ": ") ++ decimal have
    ++ codes " heights, " ++ decimal need ++ codes " needed\n"
asc_line input (asc.Height index) = input_line input (codes ": height ") ++ decimal index
    ++ codes " is not in range\n"

-- the line of a list that is refused
abbrev pub list_line : NamesFault → List ℕ
list_line names.NotText = codes "sgm: list: not text\n"
list_line (names.Line number) = codes "sgm: list: line " ++ decimal number
    ++ codes " does not have one word\n"
list_line names.NoEntries = codes "sgm: list: no entries\n"
list_line names.TooMany = codes "sgm: list: too many entries\n"
list_line (names.Output entry) = codes "sgm: list: grid " ++ decimal entry
    ++ codes " is also an output\n"

-- the line of a refusal
abbrev pub refusal_line : Refusal → List ℕ
refusal_line (refusal.TooLong input) = input_line input (codes " is too long\n")
refusal_line (refusal.Pgm side fault) = pgm_line side fault
refusal_line (refusal.Calib fault) = calib_line fault
refusal_line (refusal.SizesDiffer left right) = sizes_line left right
refusal_line (refusal.VolumeTooLarge cells) = codes "sgm: volume of " ++ decimal cells
    ++ codes " cells is above " ++ decimal MAX_VOLUME ++ codes "\n"
refusal_line (refusal.Warp side fault) = warp_line side fault
refusal_line (refusal.NotInside x y d) = codes "sgm: no pixel " ++ decimal x ++ codes " "
    ++ decimal y ++ codes " with index " ++ decimal d ++ codes "\n"
refusal_line (refusal.Asc input fault) = asc_line input fault
refusal_line (refusal.GridsDiffer at earlier later) = codes "sgm: grids differ at word "
    ++ decimal at ++ codes "\n"
refusal_line (refusal.List fault) = list_line fault
refusal_line (refusal.NotOnCells grid) =
    input_line (Grid grid) (codes ": not on the calibration's cells\n")

-- the line of an outcome; nothing for Done
unfoldable pub line_of : Outcome → List ℕ
line_of Done = []
line_of (Usage fault) = usage_line fault
line_of (Refused refusal) = refusal_line refusal
line_of (ReadFault input) = codes "sgm: cannot read " ++ input_name input ++ codes "\n"
line_of (WriteFault output) = codes "sgm: cannot write " ++ output_word output ++ codes "\n"
line_of NoMemory = codes "sgm: no memory\n"

-- the whole line was added, or, where the count of faults rose, its beginning
abbrev pub TakesLine : List ℕ → ℕ → ℕ → List ℕ → List ℕ → Type 0
TakesLine line before now old new = (new ≡ old ++ line)
    ⊎ (Rose before now × GrowsByPrefix line old new)
