use Rattle.sgm_threads.proofs.Pieces.{if_ok}
use Rattle.sgm_map.proofs.StripRows.{made_both}
use Rattle.sgm_map.proofs.fining.finer_map.Goals as goal

pub returns : goal.returns
returns g c =
    let planes = c.args.planes.now in
    if_ok c.made_map-2.result
    (λ m e. made_both c.args.fine planes.left planes.right c.args.map c.in_ok-finer.finer m planes.scene.span c.if-not-fine.false c.in_ok-finer.ensures e)
    c.made_map-2.ensures
