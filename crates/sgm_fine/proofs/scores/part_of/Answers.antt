use Rattle.std.proofs.Common.{rules, FitsSigned, w32, ◌∙◌}
use Rattle.sgm_fine.specs.Windows.{over, products}
use Rattle.sgm_fine.proofs.Parts.{covariance_parts, narrow_kept, part_kept}
use Rattle.sgm_fine.proofs.scores.part_of.Goals as goal

pub returns-clause-holds : goal.returns-clause-holds
returns-clause-holds c l h s left here side cross =
    let in_left : FitsSigned w32 c.args.left = search rules in
    let in_here : FitsSigned w32 c.args.here = search rules in
    let in_sum : FitsSigned w32 c.args.side.sum = search rules in
    let in_product : FitsSigned w32 c.args.side.left = search rules in
    let in_square : FitsSigned w32 c.args.side.square = search rules in
    let in_cross : FitsSigned w32 c.args.cross = search rules in
    let sum = narrow_kept c.args.side.sum in_sum ∙ side.sum in
    record {
      left = part_kept c.covariance_from.result c.covariance_from.ensures.small ∙ c.covariance_from.ensures.value
          ∙ covariance_parts _ _ _ (products l s) (over l) (over s) (narrow_kept c.args.side.left in_product ∙ side.left) (narrow_kept c.args.left in_left ∙ left) sum;
      cross = part_kept c.covariance_from-2.result c.covariance_from-2.ensures.small ∙ c.covariance_from-2.ensures.value
          ∙ covariance_parts _ _ _ (products h s) (over h) (over s) (narrow_kept c.args.cross in_cross ∙ cross) (narrow_kept c.args.here in_here ∙ here) sum;
      own = part_kept c.covariance_from-3.result c.covariance_from-3.ensures.small ∙ c.covariance_from-3.ensures.value
          ∙ covariance_parts _ _ _ (products s s) (over s) (over s) (narrow_kept c.args.side.square in_square ∙ side.square) sum sum;
    }
