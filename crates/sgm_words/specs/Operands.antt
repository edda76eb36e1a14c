-- The words after the command, and the names of files among them.
use Rattle.std.specs.Prelude.{◌≡◌, ⊤, ℕ, List, [], Bool, false, codes, String, string_bytes, map}
use Rattle.std.specs.Prelude.{slice_index_or, slice_get, Option, None, Some}
use Rattle.std.specs.Str.{bytes_eq}
use Rattle.std.specs.declared.alloc.Global.{Global}
use Rattle.sgm_words.specs.Files.{IsFileName}
use Rattle.sgm_words.specs.declared.files.Input.{Input}
use Rattle.sgm_words.specs.declared.files.Input.TheVariants as input
use Rattle.sgm_words.specs.declared.files.Output.{Output}
use Rattle.sgm_words.specs.declared.files.Output.TheVariants.{Disparity, Heights, Report, Summary}
use Rattle.sgm_words.specs.declared.files.Output.TheVariants.{Difference, Volumes}
use Rattle.sgm_words.specs.declared.options.Options.{Options}
use Rattle.sgm_words.specs.declared.options.Options.TheVariants.{Match, Demo, Trace, Change, Merge}

-- the words, as lists of bytes
abbrev pub bytes_of : List (String Global) → List (List ℕ)
bytes_of words = map string_bytes words

-- the word at a position, counted from 0
abbrev pub word : List (List ℕ) → ℕ → List ℕ
word words position = slice_index_or words position []

-- the operands of `match`: the words 1 to 4. The first three of them are those of `trace` too
pub record Operands : Type 0 where
  pub left : List ℕ
  pub right : List ℕ
  pub calib : List ℕ
  pub out : List ℕ

abbrev pub operands : List (List ℕ) → Operands
operands words = record {
  left = word words 1;
  right = word words 2;
  calib = word words 3;
  out = word words 4;
}

-- the word for a calibration that means the plain settings
abbrev pub is_plain_word : List ℕ → Bool
is_plain_word calib = bytes_eq calib (codes "-")

-- the calibration is the plain one
abbrev pub is_plain : Operands → Bool
is_plain asked = is_plain_word asked.calib

-- the operands of `change`: the words 1 to 3
pub record ChangeOperands : Type 0 where
  pub earlier : List ℕ
  pub later : List ℕ
  pub out : List ℕ

abbrev pub change_operands : List (List ℕ) → ChangeOperands
change_operands words = record { earlier = word words 1; later = word words 2; out = word words 3 }

-- the operands of `merge`: the words 1 to 3
pub record MergeOperands : Type 0 where
  pub list : List ℕ
  pub calib : List ℕ
  pub out : List ℕ

abbrev pub merge_operands : List (List ℕ) → MergeOperands
merge_operands words = record { list = word words 1; calib = word words 2; out = word words 3 }

-- ---- the files that the words name

-- the operands among which the files are named; for a merge also the names that its list asks for,
-- where they are known
pub data FileNames : Type 0 where
  -- no file is named
  of_none : FileNames
  of_match : Operands → FileNames
  of_trace : Operands → FileNames
  of_change : ChangeOperands → FileNames
  of_merge : MergeOperands → Option (List (List ℕ)) → FileNames

-- those of words with these options, whose list asks for these names
abbrev pub names_of : Options → List (List ℕ) → Option (List (List ℕ)) → FileNames
names_of (Match strips workers refine) words listed = of_match (operands words)
names_of (Demo number strips workers refine) words listed = of_none
names_of (Trace dir x y d) words listed = of_trace (operands words)
names_of Change words listed = of_change (change_operands words)
names_of Merge words listed = of_merge (merge_operands words) listed

-- the name of an input of `match` or `trace`; a plain calibration is no file
abbrev pub IsPairInput : Operands → Input → List ℕ → Type 0
IsPairInput asked input.Left name = name ≡ asked.left
IsPairInput asked input.Right name = name ≡ asked.right
IsPairInput asked input.Calibration name = (is_plain asked ≡ false) × (name ≡ asked.calib)
IsPairInput asked input.Earlier name = ⊥
IsPairInput asked input.Later name = ⊥
IsPairInput asked input.List name = ⊥
IsPairInput asked (input.Grid k) name = ⊥

-- the name of an input of `change`
abbrev pub IsChangeInput : ChangeOperands → Input → List ℕ → Type 0
IsChangeInput asked input.Left name = ⊥
IsChangeInput asked input.Right name = ⊥
IsChangeInput asked input.Calibration name = ⊥
IsChangeInput asked input.Earlier name = name ≡ asked.earlier
IsChangeInput asked input.Later name = name ≡ asked.later
IsChangeInput asked input.List name = ⊥
IsChangeInput asked (input.Grid k) name = ⊥

-- the name of an entry of a list; any name, where the list isn't known
abbrev pub IsEntryName : Option (List (List ℕ)) → ℕ → List ℕ → Type 0
IsEntryName None k name = ⊤
IsEntryName (Some names) k name = slice_get names k ≡ Some name

-- the name of an input of `merge`; a plain calibration is no file
abbrev pub IsMergeInput : MergeOperands → Option (List (List ℕ)) → Input → List ℕ → Type 0
IsMergeInput asked listed input.Left name = ⊥
IsMergeInput asked listed input.Right name = ⊥
IsMergeInput asked listed input.Calibration name =
    (is_plain_word asked.calib ≡ false) × (name ≡ asked.calib)
IsMergeInput asked listed input.Earlier name = ⊥
IsMergeInput asked listed input.Later name = ⊥
IsMergeInput asked listed input.List name = name ≡ asked.list
IsMergeInput asked listed (input.Grid k) name = IsEntryName listed k name

-- the name under which an input that is asked for stands
abbrev pub IsInputName : FileNames → Input → List ℕ → Type 0
IsInputName of_none input name = ⊥
IsInputName (of_match asked) input name = IsPairInput asked input name
IsInputName (of_trace asked) input name = IsPairInput asked input name
IsInputName (of_change asked) input name = IsChangeInput asked input name
IsInputName (of_merge asked listed) input name = IsMergeInput asked listed input name

-- the name of an output of `match`
abbrev pub IsMatchOutput : Operands → Output → List ℕ → Type 0
IsMatchOutput asked Disparity name = IsFileName Disparity asked.out name
IsMatchOutput asked Heights name = IsFileName Heights asked.out name
IsMatchOutput asked Report name = IsFileName Report asked.out name
IsMatchOutput asked Summary name = ⊥
IsMatchOutput asked Difference name = ⊥
IsMatchOutput asked Volumes name = ⊥

-- the name of an output of `change`
abbrev pub IsChangeOutput : ChangeOperands → Output → List ℕ → Type 0
IsChangeOutput asked Disparity name = ⊥
IsChangeOutput asked Heights name = ⊥
IsChangeOutput asked Report name = ⊥
IsChangeOutput asked Summary name = ⊥
IsChangeOutput asked Difference name = IsFileName Difference asked.out name
IsChangeOutput asked Volumes name = IsFileName Volumes asked.out name

-- the name of an output of `merge`
abbrev pub IsMergeOutput : MergeOperands → Output → List ℕ → Type 0
IsMergeOutput asked Disparity name = ⊥
IsMergeOutput asked Heights name = IsFileName Heights asked.out name
IsMergeOutput asked Report name = IsFileName Report asked.out name
IsMergeOutput asked Summary name = ⊥
IsMergeOutput asked Difference name = ⊥
IsMergeOutput asked Volumes name = ⊥

-- the name under which an output is to stand
abbrev pub IsOutputName : FileNames → Output → List ℕ → Type 0
IsOutputName of_none output name = ⊥
IsOutputName (of_match asked) output name = IsMatchOutput asked output name
IsOutputName (of_trace asked) output name = ⊥
IsOutputName (of_change asked) output name = IsChangeOutput asked output name
IsOutputName (of_merge asked listed) output name = IsMergeOutput asked output name
