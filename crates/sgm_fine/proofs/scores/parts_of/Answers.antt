use Rattle.std.proofs.Common.{rules, FitsSigned, w32, ◌∙◌}
use Rattle.sgm_fine.specs.Scores.{HoldsParts}
use Rattle.sgm_fine.specs.Windows.{number, over, products}
use Rattle.sgm_fine.proofs.Parts.{covariance_parts, narrow_kept, part_kept}
use Rattle.sgm_fine.proofs.scores.parts_of.Goals as goal

pub returns-clause-holds : goal.returns-clause-holds
unfolding HoldsParts
returns-clause-holds c w held =
    let sums = c.args.sums.now in
    let l = number w.left in
    let h = number w.here in
    let in_left : FitsSigned w32 sums.left = search rules in
    let in_here : FitsSigned w32 sums.here.sum = search rules in
    let in_alone : FitsSigned w32 sums.square = search rules in
    let in_square : FitsSigned w32 sums.here.square = search rules in
    let in_after : FitsSigned w32 sums.with_after = search rules in
    let in_before : FitsSigned w32 sums.with_before = search rules in
    let left = narrow_kept sums.left in_left ∙ held.left in
    let here = narrow_kept sums.here.sum in_here ∙ held.here.sum in
    record {
      alone = part_kept c.covariance_from.result c.covariance_from.ensures.small ∙ c.covariance_from.ensures.value
          ∙ covariance_parts _ _ _ (products l l) (over l) (over l) (narrow_kept sums.square in_alone ∙ held.square) left left;
      here = c.part_of.ensures.holds l h h left here held.here (narrow_kept sums.here.square in_square ∙ held.here.square);
      after = c.part_of-2.ensures.holds l h (number w.after) left here held.after (narrow_kept sums.with_after in_after ∙ held.with_after);
      before = c.part_of-3.ensures.holds l h (number w.before) left here held.before (narrow_kept sums.with_before in_before ∙ held.with_before);
    }
