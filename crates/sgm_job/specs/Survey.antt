-- The survey of a pair of images: the disparities, the grid of heights and the tallies, or why the
-- pair is refused.
use Rattle.std.specs.Prelude.{ℕ, ◌*◌, Bool, false, ◌==◌, nat_lt, ◌&&◌, not, if◌then◌else◌, List}
use Rattle.std.specs.Prelude.{Option, Some, None, option_map, Result, Ok, Err}
use Rattle.std.specs.Option.{option_or}
use Rattle.sgm_base.specs.declared.limits.TheConstants.{MAX_VOLUME}
use Rattle.sgm_base.specs.declared.side.Side.{Side}
use Rattle.sgm_base.specs.declared.side.Side.TheVariants.{Left, Right}
use Rattle.sgm_base.specs.Sides.{Sides}
use Rattle.sgm_base.specs.Picture.{Picture}
use Rattle.sgm_base.specs.Values.{Values}
use Rattle.sgm_base.specs.Disparities.{Disparities}
use Rattle.sgm_energy.specs.Pens.{guide_of}
use Rattle.sgm_energy.specs.Rays.{Problem}
use Rattle.sgm_census.specs.declared.rule.CostRule.{CostRule}
use Rattle.sgm_census.specs.declared.rule.CostRule.TheVariants.{Plain, Smoothed}
use Rattle.sgm_census.specs.Matching.{plane_problem}
use Rattle.sgm_base.specs.Refining.{Refining}
use Rattle.sgm_rectify.specs.declared.warp.Warp.{Warp}
use Rattle.sgm_rectify.specs.Faults.{warp_fault}
use Rattle.sgm_rectify.specs.Rectified.{rectified_values, sides_of}
use Rattle.sgm_grid.specs.Bridges.{bridged}
use Rattle.sgm_grid.specs.Cells.{Cells}
use Rattle.sgm_report.specs.Areas.{Area}
use Rattle.sgm_report.specs.declared.volumes.RegionTally.{RegionTally}
use Rattle.sgm_calib.specs.Calibration.{Calibration, station_of}
use Rattle.sgm_map.specs.Maps.{made_disparities, refined_disparities}
use Rattle.sgm_ground.specs.Heights.{grid_of}
use Rattle.sgm_ground.specs.Tallying.{region_tallies}
use Rattle.sgm_job.specs.declared.job.SurveyFault.{SurveyFault}
use Rattle.sgm_job.specs.declared.job.SurveyFault.TheVariants as fault

-- ---- the disparities

-- the planes that are matched: the rectified images
abbrev pub left_plane : Picture → Calibration → Values
left_plane left calib = rectified_values left calib.left

abbrev pub right_plane : Picture → Calibration → Values
right_plane right calib = rectified_values right calib.right

-- the problem of matching them; where the penalties follow the image, it is the left one
abbrev pub problem : Picture → Picture → Calibration → Problem
problem left right calib =
    plane_problem (left_plane left calib)
    (right_plane right calib) calib.window calib.rule calib.span calib.penalties left.maxval

-- the disparities of the left image, made finer where that is asked for
abbrev pub disparities : Picture → Picture → Calibration → Values
disparities left right calib =
    made_disparities (problem left right calib) (left_plane left calib)
    (right_plane right calib) calib.span calib.fine

-- the same, refined
abbrev pub final : Picture → Picture → Calibration → Refining → Values
final left right calib refine =
    refined_disparities (problem left right calib) (left_plane left calib)
    (right_plane right calib) calib.span calib.fine refine

-- ---- what is matched

-- the problem, the disparities that its indices stand for, and the grey values that penalties may
-- follow
pub record Prepared : Type 0 where
  pub problem : Problem
  pub span : Disparities
  pub guide : Values

abbrev pub prepared_of : Picture → Picture → Calibration → Prepared
prepared_of left right calib =
    record {
      problem = problem left right calib;
      span = calib.span;
      guide = guide_of
          (left_plane left calib) left.maxval;
    }

-- ---- what a survey answers

-- the refined disparities, their grid with its bridges where one is asked for, and its tallies
-- where regions are
pub record Survey : Type 0 where
  pub disp : Values
  pub grid : Option Cells
  pub tallies : Option (List RegionTally)

-- the grid of the points that a map shows, where one is asked for
abbrev pub measured : Calibration → Values → Option Cells
measured calib disp =
    grid_of (station_of calib) calib.grid calib.gridding.keep calib.span.first disp

-- the same with its bridges
abbrev pub ground : Calibration → Values → Option Cells
ground calib disp = option_map (bridged calib.gridding.bridge) (measured calib disp)

-- where there is a grid and regions are asked for
abbrev pub tallies_of : ℕ → Option Cells → Option (List Area) → Option (List RegionTally)
tallies_of most (Some grid) (Some areas) = Some (region_tallies most grid areas)
tallies_of most _ _ = None

abbrev pub tallies : Calibration → Values → Option (List RegionTally)
tallies calib disp = tallies_of calib.gridding.bridge (measured calib disp) calib.regions

-- the survey of two images, with the disparities refined
abbrev pub survey_of : Picture → Picture → Calibration → Refining → Survey
survey_of left right calib refine =
    let disp = final left right calib refine in
    record { disp = disp; grid = ground calib disp; tallies = tallies calib disp }

-- ---- why a pair is refused

-- whether two images have the same sides
abbrev pub same_sides : Sides → Sides → Bool
same_sides left right = (left.width == right.width) && (left.height == right.height)

-- the number of cells of a volume: one for each pixel and index
abbrev pub cells_of : Sides → ℕ → ℕ
cells_of sides count = sides.width * sides.height * count

-- whether a volume of so many cells is too large: its limit stands for the plain rule of costs
-- alone
abbrev pub is_too_large : CostRule → ℕ → Bool
is_too_large Plain cells = nat_lt MAX_VOLUME cells
is_too_large Smoothed cells = false

-- why an image of these sides can't be rectified
abbrev pub side_fault : Side → Warp → Sides → Option SurveyFault
side_fault side warp sides = option_map (λ found. fault.Warp side found) (warp_fault warp sides)

-- The fault of a pair: the sides differ; or else the volume is too large; or else the left image
-- can't be rectified, or else the right one.
unfoldable pub pair_fault : Sides → Sides → Calibration → Option SurveyFault
pair_fault left right calib =
    if not (same_sides left right) then Some (fault.SizesDiffer left right)
    else if is_too_large calib.rule (cells_of left calib.span.count)
    then Some (fault.VolumeTooLarge (cells_of left calib.span.count))
    else option_or (side_fault Left calib.left left) (side_fault Right calib.right right)

abbrev pub unless : {X : Type 0} → Option SurveyFault → X → Result X SurveyFault
unless None made = Ok made
unless (Some found) made = Err found

-- what is matched of two images, or the fault of the pair
unfoldable pub prepared : Picture → Picture → Calibration → Result Prepared SurveyFault
prepared left right calib =
    unless (pair_fault (sides_of left) (sides_of right) calib) (prepared_of left right calib)

-- the survey of two images, or the fault of the pair
unfoldable pub surveyed : Picture → Picture → Calibration → Refining → Result Survey SurveyFault
surveyed left right calib refine =
    unless (pair_fault (sides_of left) (sides_of right) calib) (survey_of left right calib refine)
