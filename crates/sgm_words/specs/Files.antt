-- What a run reads and writes: the words for it in fault lines, and the names of its files.
use Rattle.std.specs.Prelude.{◌≡◌, ℕ, List, ◌++◌, Bool, false, codes, decimal, Option, None, Some}
use Rattle.std.specs.Prelude.{IsSomeAnd}
use Rattle.std.specs.Option.{option_map_or}
use Rattle.std.specs.Str.{bytes_eq}
use Rattle.sgm_words.specs.declared.files.Input.{Input}
use Rattle.sgm_words.specs.declared.files.Input.TheVariants as input
use Rattle.sgm_words.specs.declared.files.Output.{Output}
use Rattle.sgm_words.specs.declared.files.Output.TheVariants.{Disparity, Heights, Report, Summary}
use Rattle.sgm_words.specs.declared.files.Output.TheVariants.{Difference, Volumes}

-- an input's word in fault lines, before its number where it has one
abbrev pub input_word : Input → List ℕ
input_word input.Left = codes "left"
input_word input.Right = codes "right"
input_word input.Calibration = codes "calibration"
input_word input.Earlier = codes "earlier"
input_word input.Later = codes "later"
input_word input.List = codes "list"
input_word (input.Grid number) = codes "grid"

-- its number, where it is one of many
abbrev pub input_number : Input → Option ℕ
input_number (input.Grid number) = Some number
input_number input.Left = None
input_number input.Right = None
input_number input.Calibration = None
input_number input.Earlier = None
input_number input.Later = None
input_number input.List = None

-- a word, and the number behind it where there is one
abbrev pub numbered : List ℕ → Option ℕ → List ℕ
numbered word None = word
numbered word (Some number) = word ++ codes " " ++ decimal number

-- what an input is called in fault lines
abbrev pub input_name : Input → List ℕ
input_name i = numbered (input_word i) (input_number i)

-- an output's word in fault lines
abbrev pub output_word : Output → List ℕ
output_word Disparity = codes "disparity"
output_word Heights = codes "heights"
output_word Report = codes "report"
output_word Summary = codes "summary"
output_word Difference = codes "difference"
output_word Volumes = codes "volumes"

-- the ending of the name of an output's file; the summary is no file
abbrev pub ending_of : Output → Option (List ℕ)
ending_of Disparity = Some (codes ".pgm")
ending_of Heights = Some (codes ".asc")
ending_of Report = Some (codes ".csv")
ending_of Summary = None
ending_of Difference = Some (codes ".asc")
ending_of Volumes = Some (codes ".csv")

-- the name is that of the output's file: OUT and the output's ending
abbrev pub IsFileName : Output → List ℕ → List ℕ → Type 0
IsFileName output out name = IsSomeAnd (ending_of output) (λ ending. name ≡ out ++ ending)

-- the same, as a test
abbrev pub is_file_name : Output → List ℕ → List ℕ → Bool
is_file_name output out name = option_map_or (λ ending. bytes_eq name (out ++ ending))
    (ending_of output) false
