use Rattle.std.proofs.Common.{◌≡◌, sym, subst, Result, Ok, MatchResult}
use Rattle.sgm_grid.specs.Asc.{asc_reading}
use Rattle.sgm_outcome.specs.declared.outcome.Refusal.{Refusal}
use Rattle.sgm_stages.specs.Changing.{GridTexts}
use Rattle.sgm_stages.specs.Judge.{StopsFor}
use Rattle.sgm_stages.specs.Made.{change_texts_in}
use Rattle.sgm_stages.proofs.Steps.{handed_on}
use Rattle.sgm_stages.proofs.Ground.{to_ground, stop_earlier, stop_later}
use Rattle.sgm_stages.proofs.change_pipeline.change_texts.Goals as goal

pub returns-in_err-earlier : goal.returns-in_err-earlier
returns-in_err-earlier c =
    handed_on _ _ c.from_residual.result c.in_err-earlier.field-0.0 c.from_residual.ensures.1
    (stop_earlier (asc_reading c.args.earlier.now) (asc_reading c.args.later.now) c.in_err-earlier.field-0.0 c.in_err-earlier.ensures)

pub returns-in_err-later : goal.returns-in_err-later
returns-in_err-later c =
    handed_on _ _ c.from_residual-in_err-later.result c.in_err-later.field-0.0 c.from_residual-in_err-later.ensures.1
    (stop_later (asc_reading c.args.earlier.now) (asc_reading c.args.later.now) c.in_err-later.field-0.0 c.in_ok-earlier.earlier c.in_ok-earlier.ensures c.in_err-later.ensures)

pub returns : goal.returns
returns c =
    let same = to_ground (asc_reading c.args.earlier.now) (asc_reading c.args.later.now) c.in_ok-earlier.earlier c.in_ok-later.later c.in_ok-earlier.ensures c.in_ok-later.ensures in
    let P : Result GridTexts Refusal → Type 0 = λ w. MatchResult c.grid_texts.result (λ made. w ≡ Ok (change_texts_in made)) (StopsFor w) in
    subst P (sym same) c.grid_texts.ensures
