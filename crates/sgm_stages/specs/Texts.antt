-- The texts that are written.
use Rattle.std.specs.Prelude.{ℕ, ◌+◌, ◌*◌, List, ◌++◌, Option, None, Some, codes, decimal, map, sum}
use Rattle.std.specs.Prelude.{count_by, is_some, option_map}
use Rattle.std.specs.Option.{option_map_or}
use Rattle.sgm_base.specs.Values.{Values}
use Rattle.sgm_pgm.specs.Write.{text_of}
use Rattle.sgm_grid.specs.Cells.{Cells}
use Rattle.sgm_grid.specs.Text.{grid_text}
use Rattle.sgm_report.specs.Areas.{Area}
use Rattle.sgm_report.specs.Table.{table_text}
use Rattle.sgm_report.specs.declared.table.Columns.{Columns}
use Rattle.sgm_report.specs.declared.volumes.RegionTally.{RegionTally}
use Rattle.sgm_calib.specs.Calibration.{Calibration}

-- the sample of a pixel: 0 where there is no disparity, otherwise its value and 16
abbrev pub sample_of : Option ℕ → ℕ
sample_of entry = option_map_or (λ value. value + 16) entry 0

abbrev pub samples_of : Values → List ℕ
samples_of map_values = map sample_of map_values.entries

-- the text of the disparity image
unfoldable pub disparity_text : Values → List ℕ
disparity_text disparities = text_of disparities.width disparities.height (samples_of disparities)

-- `valid N of M`, N of the pixels having a disparity, M being all
unfoldable pub summary_text : Values → List ℕ
summary_text disparities =
    codes "valid " ++ decimal (count_by is_some disparities.entries) ++ codes " of "
    ++ decimal (disparities.width * disparities.height) ++ codes "\n"

-- the summary of a demo: the same line, and the sum of the samples
unfoldable pub demo_text : Values → List ℕ
demo_text disparities = summary_text disparities
    ++ (codes "sum " ++ decimal (sum (samples_of disparities)) ++ codes "\n")

-- the report of these regions, where there are some and they have their tallies
abbrev pub report_text : Columns → Option (List Area) → Option (List RegionTally) → Option (List ℕ)
report_text columns (Some areas) (Some tallies) = Some (table_text columns areas tallies)
report_text columns _ _ = None

-- all texts of a survey, under no names yet
pub record Texts : Type 0 where
  pub disparity : List ℕ
  pub heights : Option (List ℕ)
  pub report : Option (List ℕ)
  pub summary : List ℕ

-- the texts of a map, of its grid and of the tallies of its regions: the disparities, the heights
-- where there is a grid, the report where there are regions
abbrev pub map_texts : Calibration → Values → Option Cells → Option (List RegionTally) → Texts
map_texts calib disp grid tallies = record {
  disparity = disparity_text disp;
  heights = option_map grid_text grid;
  report = report_text calib.columns calib.regions tallies;
  summary = summary_text disp;
}
