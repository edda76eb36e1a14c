use Rattle.std.proofs.Common.{◌∙◌, ℕ, sym, ap, subst, arith}
use Rattle.sgm_base.specs.Sides.{Sides}
use Rattle.sgm_base.specs.Values.{AtMost, Values}
use Rattle.sgm_census.specs.Codes.{Codes}
use Rattle.sgm_rectify.proofs.Bounds.{values_low}
use Rattle.sgm_job.proofs.Passing.{coded_height, coded_width}
use Rattle.sgm_job.proofs.planes.paired.Goals as goal

pub invariant_of-result : goal.invariant_of-result
invariant_of-result c =
    let left = c.args.left in
    let right = c.args.right in
    let image = c.args.left_image.now in
    let other = c.args.right_image.now in
    let calib = c.args.calib.now in
    let kept = c.samples-samples.ensures.kept in
    record {
      same_width = coded_width image calib.left calib.window calib.rule left c.requires.left
          ∙ ap (λ (s : Sides). s.width) c.requires.same
          ∙ sym (coded_width other calib.right calib.window calib.rule right c.requires.right);
      same_height = coded_height image calib.left calib.window calib.rule left c.requires.left
          ∙ ap (λ (s : Sides). s.height) c.requires.same
          ∙ sym (coded_height other calib.right calib.window calib.rule right c.requires.right);
      same_window = ap (λ (codes : Codes). codes.window) c.requires.left.coded ∙ sym (ap (λ (codes : Codes). codes.window) c.requires.right.coded);
      same_rule = ap (λ (codes : Codes). codes.rule) c.requires.left.coded ∙ sym (ap (λ (codes : Codes). codes.rule) c.requires.right.coded);
      some = omega (arith, c.maxval.ensures, kept.maxval_in_range);
      values = subst (λ (n : ℕ). AtMost n left.plane.entries) (sym c.maxval.ensures)
          (subst (λ (p : Values). AtMost image.maxval p.entries) (sym c.requires.left.rectified) (values_low image calib.left kept));
    }
