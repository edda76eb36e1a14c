-- The words of the match of an entry.
use Rattle.std.specs.Prelude.{ℕ, List, [], ◌∷◌, codes, unwrap_or}
use Rattle.sgm_list.specs.Entries.{EntryNames}

-- `match LEFT RIGHT CALIB OUT`
abbrev pub match_words : EntryNames → List (List ℕ)
match_words entry = codes "match" ∷ entry.left ∷ entry.right ∷ unwrap_or entry.calib (codes "-")
    ∷ entry.out ∷ []
