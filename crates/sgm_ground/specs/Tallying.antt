-- The tallies of regions over a grid of heights.
use Rattle.std.specs.Prelude.{ℕ, List, map}
use Rattle.sgm_grid.specs.Bridges.{bridged}
use Rattle.sgm_grid.specs.Cells.{Cells}
use Rattle.sgm_report.specs.Areas.{Area}
use Rattle.sgm_report.specs.Tallies.{tally_of}
use Rattle.sgm_report.specs.declared.volumes.RegionTally.{RegionTally}

-- the tallies of regions over a grid with its bridges, each over at most so many cells to each side
abbrev pub region_tallies : ℕ → Cells → List Area → List RegionTally
region_tallies most grid areas = map (tally_of (bridged most grid) grid) areas
