use Rattle.std.proofs.Common.{refl, ◌∙◌}
use Rattle.sgm_census.specs.Codes.{middle_at}
use Rattle.sgm_census.proofs.SmoothedRows.{middle_of-same}
use Rattle.sgm_census.proofs.smoothed.middle_near.Goals as goal

pub returns : goal.returns
unfolding middle_at
returns c =
    let own = c.args.own in
    c.middle.ensures
    ∙ middle_of-same own c.beside-right.result c.beside-left.result c.beside-below.result c.beside-above.result own _ _ _ _
    refl c.beside-right.ensures c.beside-left.ensures c.beside-below.ensures c.beside-above.ensures
