-- What a change writes: what came, went and changed between two grids of heights.
use Rattle.std.specs.Prelude.{ℕ, ◌*◌, ℤ, pos, List, ◌++◌, codes, decimal, Option, None, Some}
use Rattle.std.specs.Prelude.{Result, if◌then◌else◌}
use Rattle.std.specs.Option.{option_or}
use Rattle.std.specs.Ordering.{int_eq}
use Rattle.sgm_grid.specs.Cells.{Cells}
use Rattle.sgm_grid.specs.declared.asc_fault.AscFault.{AscFault}
use Rattle.sgm_grid.specs.declared.grid_spec.GridSpec.{GridSpec}
use Rattle.sgm_change.specs.Changes.{change_of}
use Rattle.sgm_change.specs.Texts.{grids_text, volumes_text}
use Rattle.sgm_words.specs.declared.files.Input.TheVariants as input
use Rattle.sgm_outcome.specs.declared.outcome.Refusal.{Refusal}
use Rattle.sgm_outcome.specs.declared.outcome.Refusal.TheVariants.{Asc, GridsDiffer}
use Rattle.sgm_stages.specs.Refusals.{or_refused, ◌>>=◌, unless}

-- all texts of a change, under no names yet
pub record GridTexts : Type 0 where
  pub difference : List ℕ
  pub volumes : List ℕ
  pub summary : List ℕ

-- `compared N of M`, N of the cells having a height in both grids, M being all
unfoldable pub compared_text : ℕ → GridSpec → List ℕ
compared_text both spec = codes "compared " ++ decimal both ++ codes " of "
    ++ decimal (spec.cols * spec.rows) ++ codes "\n"

-- the texts of two grids that lie on the same ground
abbrev pub grid_texts_of : Cells → Cells → GridTexts
grid_texts_of earlier later = record {
  difference = grids_text earlier later;
  volumes = volumes_text (change_of earlier later);
  summary = compared_text (change_of earlier later).both earlier.spec;
}

-- the refusal of two numbers that differ, which are told by the word at that place of a grid's text
abbrev pub differ_at : ℕ → ℤ → ℤ → Option Refusal
differ_at at earlier later = if int_eq earlier later then None
    else Some (GridsDiffer at earlier later)

-- the refusal of two grids that don't lie on the same ground, by the first word that tells it:
-- columns, rows, west, south, cell
unfoldable pub ground_refusal : GridSpec → GridSpec → Option Refusal
ground_refusal earlier later =
    option_or (differ_at 1 (pos earlier.cols) (pos later.cols))
    (option_or (differ_at 3 (pos earlier.rows) (pos later.rows))
    (option_or (differ_at 5 earlier.west later.west)
    (option_or (differ_at 7 earlier.south later.south)
    (differ_at 9 earlier.cell later.cell))))

-- the texts that two grids with these readings call for, or their first refusal
unfoldable pub change_for : Result Cells AscFault → Result Cells AscFault → Result GridTexts Refusal
change_for earlier later = do
  a ← or_refused (Asc input.Earlier) earlier
  b ← or_refused (Asc input.Later) later
  unless (ground_refusal a.spec b.spec) (grid_texts_of a b)
