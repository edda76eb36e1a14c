-- The entries of a list.
use Rattle.std.specs.Prelude.{ℕ, List, [], ◌∷◌, codes, Option, None, Some, if◌then◌else◌}
use Rattle.std.specs.List.{filter_map}
use Rattle.std.specs.Str.{bytes_eq}
use Rattle.sgm_text.specs.Words.{lines_of, words_of}

-- the names of the images, of the calibration, none for the plain settings, and what the names of
-- the outputs begin with
pub record EntryNames : Type 0 where
  pub left : List ℕ
  pub right : List ℕ
  pub calib : Option (List ℕ)
  pub out : List ℕ

-- the calibration that a word names: `-` is none
abbrev pub calib_named : List ℕ → Option (List ℕ)
calib_named word = if bytes_eq word (codes "-") then None else Some word

abbrev pub entry_of : List ℕ → List ℕ → List ℕ → List ℕ → EntryNames
entry_of left right calib out = record {
  left = left;
  right = right;
  calib = calib_named calib;
  out = out;
}

-- the entry that words are, if they are four
abbrev pub entry_in : List (List ℕ) → Option EntryNames
entry_in (left ∷ right ∷ calib ∷ out ∷ []) = Some (entry_of left right calib out)
entry_in _ = None

-- those of the lines of a text, in order
abbrev pub entries_in : List (List ℕ) → List EntryNames
entries_in lines = filter_map (λ line. entry_in (words_of line)) lines

abbrev pub entries_of : List ℕ → List EntryNames
entries_of text = entries_in (lines_of text)
