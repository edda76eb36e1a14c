-- The words of a series: LIST, and perhaps the number of workers.
use Rattle.std.specs.Prelude.{ℕ, List, [], ◌∷◌, codes, slice_index_or, Option, None, Some, is_some}
use Rattle.std.specs.Prelude.{Result, Ok, Err, if◌then◌else◌}
use Rattle.std.specs.Str.{bytes_eq}
use Rattle.sgm_series.specs.declared.words.SeriesUsage.{SeriesUsage}
use Rattle.sgm_series.specs.declared.words.SeriesUsage.TheVariants.{NoList, BadWord}

-- the words as they are read: the name of the list, and how many workers match its pairs
pub record ListWords : Type 0 where
  pub list : List ℕ
  pub workers : ℕ

abbrev pub list_words : List ℕ → ℕ → ListWords
list_words list workers = record { list = list; workers = workers }

-- the number of workers that a word asks for
abbrev pub workers_in : List ℕ → Option ℕ
workers_in word =
    if bytes_eq word (codes "workers=1") then Some 1
    else (if bytes_eq word (codes "workers=2") then Some 2 else None)

-- a list and a word behind it, at position 1
abbrev pub with_workers : List ℕ → Option ℕ → Result ListWords SeriesUsage
with_workers list (Some workers) = Ok (list_words list workers)
with_workers list None = Err (BadWord 1)

-- a list and the words behind it: one worker where there is none; of more than one, the first that
-- isn't accepted is a fault, and no second one is accepted
abbrev pub list_with : List ℕ → List (List ℕ) → Result ListWords SeriesUsage
list_with list [] = Ok (list_words list 1)
list_with list (word ∷ []) = with_workers list (workers_in word)
list_with list (word ∷ next ∷ more) = Err (BadWord (if is_some (workers_in word) then 2 else 1))

-- the words, or their first fault: a list without a name is none
unfoldable pub series_words : List (List ℕ) → Result ListWords SeriesUsage
series_words [] = Err NoList
series_words ([] ∷ later) = Err NoList
series_words ((b ∷ name) ∷ later) = list_with (b ∷ name) later

-- the name of the list
abbrev pub list_of : List (List ℕ) → List ℕ
list_of words = slice_index_or words 0 []
