use Rattle.std.proofs.Common.{pos, ◌+ℤ◌, ◌*ℤ◌, ap₂, ◌∙◌}
use Rattle.sgm_fine.specs.Scores.{covariance, distances}
use Rattle.sgm_fine.proofs.Walks.{more_further, right_further, sum_kept, together_further, wide_kept}
use Rattle.sgm_fine.proofs.scores.advanced.Goals as goal

pub returns : goal.returns
returns c l h s n few is =
    let w = c.args.walk in
    let r = c.requires in
    record {
      together = sum_kept w.fit.together w.further r.together r.further ∙ ap₂ (λ y z. y +ℤ z) is.together is.further ∙ together_further l h s n few;
      right = sum_kept w.fit.right w.more r.right r.more ∙ ap₂ (λ y z. y +ℤ z) is.right is.more ∙ right_further h s n few;
      further = wide_kept w.further r.further ∙ is.further;
      more = sum_kept w.more w.bend r.more r.bend ∙ ap₂ (λ y z. y +ℤ z) is.more is.bend
          ∙ more_further (pos 16 *ℤ covariance h (distances h s)) (covariance (distances h s) (distances h s)) n;
      bend = wide_kept w.bend r.bend ∙ is.bend;
    }
