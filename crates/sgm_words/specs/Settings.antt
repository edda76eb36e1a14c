-- To what the options are set.
use Rattle.std.specs.Prelude.{◌≡◌, ℕ, ◌<◌, List, Option, None, slice_index_or}
use Rattle.sgm_words.specs.OptionTable.{given}
use Rattle.sgm_words.specs.declared.option_table.TheConstants.{OPTION_COUNT}

-- each option is set to what these words give to it
pub record AreGiven (words : List (List ℕ)) (settings : List (Option ℕ)) : Type 0 where
  pub at : (place : ℕ) → place < OPTION_COUNT
      → slice_index_or settings place None ≡ given place words
