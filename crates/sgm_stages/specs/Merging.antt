-- What a merge writes: many grids of heights as one, over the grid of a calibration.
use Rattle.std.specs.Prelude.{ℕ, ◌*◌, List, ◌++◌, codes, decimal, count_by, is_some, Option, None}
use Rattle.std.specs.Prelude.{Some, option_map, Result, Ok, Err, if◌then◌else◌}
use Rattle.sgm_grid.specs.Bridges.{bridged}
use Rattle.sgm_grid.specs.Cells.{Cells}
use Rattle.sgm_grid.specs.Text.{grid_text}
use Rattle.sgm_grid.specs.declared.asc_fault.AscFault.{AscFault}
use Rattle.sgm_grid.specs.declared.grid_spec.GridSpec.{GridSpec}
use Rattle.sgm_list.specs.declared.names.NamesFault.{NamesFault}
use Rattle.sgm_merge.specs.Fits.{fits}
use Rattle.sgm_merge.specs.Merged.{merged}
use Rattle.sgm_calib.specs.Calibration.{Calibration}
use Rattle.sgm_calib.specs.Table as table
use Rattle.sgm_calib.specs.declared.keys.CalibFault.{CalibFault}
use Rattle.sgm_calib.specs.declared.keys.CalibFault.TheVariants.{Missing}
use Rattle.sgm_calib.specs.declared.keys.Key.{Key}
use Rattle.sgm_ground.specs.Tallying.{region_tallies}
use Rattle.sgm_words.specs.declared.files.Input.TheVariants as input
use Rattle.sgm_outcome.specs.declared.outcome.Refusal.{Refusal}
use Rattle.sgm_outcome.specs.declared.outcome.Refusal.TheVariants as refusal
use Rattle.sgm_stages.specs.Refusals.{or_refused, ◌>>=◌, unless}
use Rattle.sgm_stages.specs.Texts.{report_text}

-- ---- what is merged

-- the names that a list asks for, the calibration, and the ranges of its grid
pub record MergePlan : Type 0 where
  pub names : List (List ℕ)
  pub calib : Calibration
  pub spec : GridSpec

abbrev pub grid_key : Key
grid_key = record { number = table.grid.number; index = 0 }

-- the ranges of a calibration's grid, or the refusal where it has none
abbrev pub grid_asked : Option GridSpec → Result GridSpec Refusal
grid_asked None = Err (refusal.Calib (Missing grid_key))
grid_asked (Some spec) = Ok spec

-- what a list and a calibration with these readings ask for, or their first refusal
unfoldable pub plan_for : Result (List (List ℕ)) NamesFault → Result Calibration CalibFault
    → Result MergePlan Refusal
plan_for names calib = do
  n ← or_refused refusal.List names
  c ← or_refused refusal.Calib calib
  s ← grid_asked c.grid
  Ok (record { names = n; calib = c; spec = s })

-- the refusal of the grid with this number, which doesn't lie on the cells
abbrev pub cells_refusal : GridSpec → ℕ → GridSpec → Option Refusal
cells_refusal spec k entry = if fits spec entry then None else Some (refusal.NotOnCells k)

-- the grid with this number, where it has this reading, or its refusal
unfoldable pub entry_for : GridSpec → ℕ → Result Cells AscFault → Result Cells Refusal
entry_for spec k reading = do
  entry ← or_refused (refusal.Asc (input.Grid k)) reading
  unless (cells_refusal spec k entry.spec) entry

-- ---- the texts

-- all texts of a merge, under no names yet
pub record MergedTexts : Type 0 where
  pub heights : List ℕ
  pub report : Option (List ℕ)
  pub summary : List ℕ

-- `merged N of M`, N of the M cells having a height
unfoldable pub merged_text : Cells → List ℕ
merged_text grid =
    codes "merged " ++ decimal (count_by is_some grid.heights) ++ codes " of "
    ++ decimal (grid.spec.cols * grid.spec.rows) ++ codes "\n"

-- the texts of a grid over which nothing was bridged yet: the heights with the bridges of the
-- calibration, and the table of its regions where it has some
unfoldable pub merged_texts_of : Calibration → Cells → MergedTexts
merged_texts_of calib measured = record {
  heights = grid_text (bridged calib.gridding.bridge measured);
  report = report_text calib.columns calib.regions
      (option_map (region_tallies calib.gridding.bridge measured) calib.regions);
  summary = merged_text (bridged calib.gridding.bridge measured);
}

-- the texts of these entries
abbrev pub merge_texts : MergePlan → List Cells → MergedTexts
merge_texts plan entries =
    merged_texts_of plan.calib (merged plan.calib.gridding.keep plan.spec entries)
