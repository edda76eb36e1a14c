-- The files that are to be written.
use Rattle.std.specs.Prelude.{ℕ, List, [], ◌∷◌, ◌++◌, Bool, Option, None, Some, unwrap_or}
use Rattle.std.specs.List.{list_any}
use Rattle.std.specs.Str.{bytes_eq}
use Rattle.sgm_words.specs.Files.{ending_of}
use Rattle.sgm_words.specs.Operands.{FileNames, IsOutputName}
use Rattle.sgm_words.specs.declared.files.Output.{Output}
use Rattle.sgm_words.specs.declared.files.Output.TheVariants.{Disparity, Heights, Report}
use Rattle.sgm_words.specs.declared.files.Output.TheVariants.{Difference, Volumes}
use Rattle.sgm_stages.specs.Changing.{GridTexts}
use Rattle.sgm_stages.specs.Merging.{MergedTexts}
use Rattle.sgm_stages.specs.Texts.{Texts}

-- a file that is to be written
pub record OutputFile : Type 0 where
  pub output : Output
  pub name : List ℕ
  pub text : List ℕ

-- the file of an output's text: its name is OUT and the output's ending
abbrev pub file_of : List ℕ → Output → List ℕ → OutputFile
file_of out output text = record {
  output = output;
  name = out ++ unwrap_or (ending_of output) [];
  text = text;
}

-- the same where there is a text, else none
abbrev pub files_with : List ℕ → Output → Option (List ℕ) → List OutputFile
files_with out output None = []
files_with out output (Some text) = file_of out output text ∷ []

-- the files of the texts of a match, in this order
abbrev pub files_of : List ℕ → Texts → List OutputFile
files_of out texts = file_of out Disparity texts.disparity ∷ files_with out Heights texts.heights
    ++ files_with out Report texts.report

-- the files of the texts of a change, in this order
abbrev pub change_files_of : List ℕ → GridTexts → List OutputFile
change_files_of out texts = file_of out Difference texts.difference
    ∷ file_of out Volumes texts.volumes ∷ []

-- the files of the texts of a merge, in this order
abbrev pub merge_files_of : List ℕ → MergedTexts → List OutputFile
merge_files_of out texts = file_of out Heights texts.heights ∷ files_with out Report texts.report

-- the file has the name that its output is to have
abbrev pub IsNamed : FileNames → OutputFile → Type 0
IsNamed names file = IsOutputName names file.output file.name

-- the name is that of one of the files
abbrev pub is_named : List OutputFile → List ℕ → Bool
is_named files name = list_any (λ file. bytes_eq name file.name) files
