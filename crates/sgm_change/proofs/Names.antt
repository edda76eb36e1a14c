-- The two rows of the volumes, as the csv writer writes them.
use Rattle.std.proofs.Common.{◌≡◌, ℕ, List, [], ◌∷◌, codes, refl}
use Rattle.csv.specs.Writing.{default_writer, fields_text, is_blank, row_text}
use Rattle.sgm_text.specs.Texts.{line}

-- the names of the counts and volumes
abbrev pub names : List (List ℕ)
names =
    codes "both" ∷ codes "come" ∷ codes "gone" ∷ codes "empty" ∷ codes "fill" ∷ codes "cut" ∷ []

pub names_are : row_text default_writer names ≡ line (codes "both,come,gone,empty,fill,cut")
unfolding fields_text is_blank
names_are = refl
