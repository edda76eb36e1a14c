use Rattle.std.proofs.Common.{ap, ◌∙◌}
use Rattle.sgm_fine.specs.declared.means.Tally.{Tally}
use Rattle.sgm_fine.proofs.Nearby.{mean_from}
use Rattle.sgm_fine.proofs.means.mean_at.Goals as goal
use Rattle.sgm_fine.proofs.means.mean_at.Goals.{then-has_square, else-has_square}

pub returns : goal.returns
returns c =
    elim c.if-has_square.branch [
      | then-has_square w ↦
          mean_from c.args.map.now c.args.x c.args.y c.args.m c.if-has_square.sum.sum c.if-has_square.sum.number
          (ap (λ (t : Tally). t.sum) w.sum-is ∙ w.tally_near.ensures.sum) (ap (λ (t : Tally). t.number) w.sum-is ∙ w.tally_near.ensures.number)
      | else-has_square w ↦
          mean_from c.args.map.now c.args.x c.args.y c.args.m c.if-has_square.sum.sum c.if-has_square.sum.number
          (ap (λ (t : Tally). t.sum) w.sum-is ∙ w.tally_near-else-has_square.ensures.sum)
          (ap (λ (t : Tally). t.number) w.sum-is ∙ w.tally_near-else-has_square.ensures.number)
    ]
