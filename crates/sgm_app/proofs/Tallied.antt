-- A survey has a tally for each of the calibration's regions.
use Rattle.std.proofs.Common.{◌≡◌, ℕ, List, Option, Some, None, Ok, length, subst}
use Rattle.std.specs.Prelude.{IfSome}
use Rattle.std.proofs.lemmas.List.{length-map}
use Rattle.sgm_base.specs.Picture.{Picture}
use Rattle.sgm_grid.specs.Bridges.{bridged}
use Rattle.sgm_grid.specs.Cells.{Cells}
use Rattle.sgm_rectify.specs.Rectified.{sides_of}
use Rattle.sgm_report.specs.Areas.{Area}
use Rattle.sgm_report.specs.Tallies.{tally_of}
use Rattle.sgm_report.specs.declared.volumes.RegionTally.{RegionTally}
use Rattle.sgm_calib.specs.Calibration.{Calibration}
use Rattle.sgm_base.specs.Refining.{Refining}
use Rattle.sgm_job.specs.Survey.{Survey, final, measured, pair_fault, survey_of, surveyed, tallies_of, unless}
use Rattle.sgm_job.specs.declared.job.SurveyFault.{SurveyFault}

-- there are as many tallies as regions, where there are both
abbrev pub HasEach : Option (List Area) → Option (List RegionTally) → Type 0
HasEach areas tallies = IfSome areas (λ r. IfSome tallies (λ t. length t ≡ length r))

each_tallied : (most : ℕ) (grid : Option Cells) (areas : Option (List Area)) → HasEach areas (tallies_of most grid areas)
each_tallied most None None = tt
each_tallied most None (Some areas) = tt
each_tallied most (Some grid) None = tt
each_tallied most (Some grid) (Some areas) = length-map areas (tally_of (bridged most grid) grid)

tallied_unless : (found : Option SurveyFault) (made survey : Survey) (areas : Option (List Area)) → HasEach areas made.tallies → unless found made ≡ Ok survey → HasEach areas survey.tallies
tallied_unless (Some fault) made survey areas each e = absurd (cc)
tallied_unless None made survey areas each e = let same : made ≡ survey = cc in subst (λ (s : Survey). HasEach areas s.tallies) same each

pub tallied : (left right : Picture) (calib : Calibration) (refine : Refining) (survey : Survey) → surveyed left right calib refine ≡ Ok survey → HasEach calib.regions survey.tallies
unfolding surveyed
tallied left right calib refine survey e =
    tallied_unless (pair_fault (sides_of left) (sides_of right) calib) (survey_of left right calib refine) survey calib.regions
    (each_tallied calib.gridding.bridge (measured calib (final left right calib refine)) calib.regions) e
