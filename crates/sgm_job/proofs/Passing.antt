-- What a pair without a fault keeps.
use Rattle.std.proofs.Common.{◌≡◌, List, Bool, true, false, not, ◌&&◌, if◌then◌else◌, ◌==◌, Option, Some, None, Ok, Err, refl, sym, ap, ◌∙◌}
use Rattle.std.specs.Prelude.{option_map}
use Rattle.std.specs.Option.{option_or}
use Rattle.std.proofs.lemmas.Bool.{eqb-true}
use Rattle.sgm_base.specs.Picture.{Picture}
use Rattle.sgm_base.specs.Sides.{Sides}
use Rattle.sgm_rectify.specs.declared.warp.WarpFault.{WarpFault}
use Rattle.sgm_rectify.specs.declared.warp.Warp.{Warp}
use Rattle.sgm_rectify.specs.Rectified.{rectified_values, sides_of}
use Rattle.sgm_census.specs.Codes.{Codes}
use Rattle.sgm_census.specs.Windows.{WindowSides}
use Rattle.sgm_census.specs.declared.rule.CostRule.{CostRule}
use Rattle.sgm_calib.specs.Calibration.{Calibration}
use Rattle.sgm_job.specs.Matching.{IsMade, Passes}
use Rattle.sgm_job.specs.declared.pair.Coded.{Coded}
use Rattle.sgm_job.specs.declared.job.SurveyFault.{SurveyFault}
use Rattle.sgm_job.specs.declared.job.SurveyFault.TheVariants as fault
use Rattle.sgm_base.specs.declared.side.Side.TheVariants.{Left, Right}
use Rattle.sgm_base.specs.Values.{Values}
use Rattle.sgm_grid.specs.Cells.{Cells}
use Rattle.sgm_report.specs.declared.volumes.RegionTally.{RegionTally}
use Rattle.sgm_base.specs.Refining.{Refining}
use Rattle.sgm_job.specs.Survey.{final, ground, tallies, cells_of, is_too_large, pair_fault, Prepared, prepared, prepared_of, same_sides, side_fault, Survey, survey_of, surveyed, unless}

all_none : (same large : Bool) (a b : SurveyFault) (l r : Option SurveyFault) → (if not same then Some a else if large then Some b else option_or l r) ≡ None
    → (same ≡ true) × (l ≡ None) × (r ≡ None)
all_none false large a b l r e = absurd (cc)
all_none true true a b l r e = absurd (cc)
all_none true false a b (Some f) r e = absurd (cc)
all_none true false a b None r e = (refl, refl, e)

map_none : (f : WarpFault → SurveyFault) (o : Option WarpFault) → option_map f o ≡ None → o ≡ None
map_none f None e = refl
map_none f (Some x) e = absurd (cc)

both : (a b : Bool) → (a && b) ≡ true → (a ≡ true) × (b ≡ true)
both true true e = (refl, refl)
both true false e = absurd (cc)
both false b e = absurd (cc)

same_from : (left right : Sides) → same_sides left right ≡ true → left ≡ right
same_from left right e =
    let parts = both (left.width == right.width) (left.height == right.height) e in
    ap (λ w. let s : Sides = record { width = w; height = left.height } in s) (eqb-true _ _ parts.0)
    ∙ ap (λ h. let s : Sides = record { width = right.width; height = h } in s) (eqb-true _ _ parts.1)

passes : (left right : Sides) (calib : Calibration) → pair_fault left right calib ≡ None → Passes left right calib
unfolding pair_fault
passes left right calib e =
    let none =
    all_none (same_sides left right) (is_too_large calib.rule (cells_of left calib.span.count)) (fault.SizesDiffer left right) (fault.VolumeTooLarge (cells_of left calib.span.count))
    (side_fault Left calib.left left) (side_fault Right calib.right right) e in
    record {
      same = same_from left right none.0;
      left_faultless = map_none _ _ none.1;
      right_faultless = map_none _ _ none.2;
    }

-- the sides that a size shows are those of its image
pub sides_are : (sides : Sides) (image : Picture) → sides.width ≡ image.width → sides.height ≡ image.height → sides ≡ sides_of image
sides_are sides image ew eh =
    ap (λ w. let s : Sides = record { width = w; height = sides.height } in s) ew ∙ ap (λ h. let s : Sides = record { width = image.width; height = h } in s) eh

-- images whose sizes have no fault pass
pub images_pass : (left right : Picture) (calib : Calibration) (a b : Sides) → a ≡ sides_of left
    → b ≡ sides_of right → None ≡ pair_fault a b calib
    → Passes (sides_of left) (sides_of right) calib
images_pass left right calib a b ea eb e =
    passes (sides_of left) (sides_of right) calib
    (ap (λ s. pair_fault s (sides_of right) calib) (sym ea)
    ∙ ap (λ s. pair_fault a s calib) (sym eb) ∙ sym e)

pub fault_answered : (left right : Picture) (calib : Calibration) (refine : Refining) (a b : Sides) (found : SurveyFault) → a ≡ sides_of left → b ≡ sides_of right
    → Some found ≡ pair_fault a b calib → surveyed left right calib refine ≡ Err found
unfolding surveyed
fault_answered left right calib refine a b found ea eb e =
    ap (λ o. unless o (survey_of left right calib refine)) (ap (λ s. pair_fault s (sides_of right) calib) (sym ea) ∙ ap (λ s. pair_fault a s calib) (sym eb) ∙ sym e)

pub fault_prepared : (left right : Picture) (calib : Calibration) (a b : Sides) (found : SurveyFault) → a ≡ sides_of left → b ≡ sides_of right
    → Some found ≡ pair_fault a b calib → prepared left right calib ≡ Err found
unfolding prepared
fault_prepared left right calib a b found ea eb e =
    ap (λ o. unless o (prepared_of left right calib)) (ap (λ s. pair_fault s (sides_of right) calib) (sym ea) ∙ ap (λ s. pair_fault a s calib) (sym eb) ∙ sym e)

pub scene_prepared : (left right : Picture) (calib : Calibration) (a b : Sides) (matched : Prepared) → a ≡ sides_of left → b ≡ sides_of right
    → None ≡ pair_fault a b calib → matched ≡ prepared_of left right calib → prepared left right calib ≡ Ok matched
unfolding prepared
scene_prepared left right calib a b matched ea eb e is =
    ap (λ o. unless o (prepared_of left right calib)) (ap (λ s. pair_fault s (sides_of right) calib) (sym ea) ∙ ap (λ s. pair_fault a s calib) (sym eb) ∙ sym e)
    ∙ ap (λ (m : Prepared). Ok m) (sym is)

pub survey_answered : (left right : Picture) (calib : Calibration) (refine : Refining) (a b : Sides) (survey : Survey) → a ≡ sides_of left → b ≡ sides_of right
    → None ≡ pair_fault a b calib → survey ≡ survey_of left right calib refine → surveyed left right calib refine ≡ Ok survey
unfolding surveyed
survey_answered left right calib refine a b survey ea eb e is =
    ap (λ o. unless o (survey_of left right calib refine)) (ap (λ s. pair_fault s (sides_of right) calib) (sym ea) ∙ ap (λ s. pair_fault a s calib) (sym eb) ∙ sym e)
    ∙ ap (λ (s : Survey). Ok s) (sym is)

-- ---- the parts of a survey

-- a rectified image has the sides of the image
pub plane_width : (image : Picture) (warp : Warp) (plane : Values) → plane ≡ rectified_values image warp → plane.width ≡ image.width
unfolding rectified_values
plane_width image warp plane e = ap (λ (p : Values). p.width) e

pub plane_height : (image : Picture) (warp : Warp) (plane : Values) → plane ≡ rectified_values image warp → plane.height ≡ image.height
unfolding rectified_values
plane_height image warp plane e = ap (λ (p : Values). p.height) e

-- and so have its codes
pub coded_width : (image : Picture) (warp : Warp) (window : WindowSides) (rule : CostRule) (made : Coded) → IsMade image warp window rule made → made.codes.width ≡ image.width
coded_width image warp window rule made is = ap (λ (c : Codes). c.width) is.coded ∙ plane_width image warp made.plane is.rectified

pub coded_height : (image : Picture) (warp : Warp) (window : WindowSides) (rule : CostRule) (made : Coded) → IsMade image warp window rule made → made.codes.height ≡ image.height
coded_height image warp window rule made is = ap (λ (c : Codes). c.height) is.coded ∙ plane_height image warp made.plane is.rectified

pub survey_is : (left right : Picture) (calib : Calibration) (refine : Refining) (disp : Values) (grid : Option Cells) (found : Option (List RegionTally)) → disp ≡ final left right calib refine
    → grid ≡ ground calib disp → found ≡ tallies calib disp
    → (let survey : Survey = record { disp = disp; grid = grid; tallies = found } in survey) ≡ survey_of left right calib refine
survey_is left right calib refine disp grid found ed eg et =
    ap (λ t. let survey : Survey = record { disp = disp; grid = grid; tallies = t } in survey) et
    ∙ ap (λ g. let survey : Survey = record { disp = disp; grid = g; tallies = tallies calib disp } in survey) eg
    ∙ ap (λ d. let survey : Survey = record { disp = d; grid = ground calib d; tallies = tallies calib d } in survey) ed
