use Rattle.sgm_work.proofs.Making.{ready}
use Rattle.sgm_work.proofs.parcels.complete_parcels.Goals as goal

pub match_all-requires-clause-ready : goal.match_all-requires-clause-ready
match_all-requires-clause-ready g c lifetimes lives =
    let scene = c.args.scene.now in
    (scene, c.even-cut.result, ready scene c.even-cut.result c.in_ok-parcels.parcels.items c.in_ok-fronts.fronts.items c.in_ok-parcels.ensures.strips c.in_ok-parcels.ensures.level c.in_ok-fronts.ensures)

pub returns : goal.returns
returns g c =
    let scene = c.args.scene.now in
    c.in_ok-matched.ensures.complete scene c.even-cut.result
    (ready scene c.even-cut.result c.in_ok-parcels.parcels.items c.in_ok-fronts.fronts.items c.in_ok-parcels.ensures.strips c.in_ok-parcels.ensures.level c.in_ok-fronts.ensures)
