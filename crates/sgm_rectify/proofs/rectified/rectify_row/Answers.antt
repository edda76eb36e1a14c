use Rattle.std.proofs.Common.{sym, ap, ◌∙◌}
use Rattle.sgm_rectify.specs.declared.warp.Warp.{Warp}
use Rattle.sgm_rectify.specs.Rectified.{rectified}
use Rattle.sgm_rectify.proofs.Rows.{rectified-identity}
use Rattle.sgm_rectify.proofs.rectified.rectify_row.Goals as goal

pub returns-in-Identity : goal.returns-in-Identity
returns-in-Identity c = λ x h.
    c.copy_row.ensures x h ∙ sym (rectified-identity c.args.image.now x c.args.y h c.requires.row)
    ∙ sym (ap (λ (w : Warp). rectified c.args.image.now w x c.args.y) c.in-Identity.is)
