use Rattle.sgm_board_tests.proofs.Making.{ready}
use Rattle.sgm_board_tests.proofs.tests.making.board_of.Goals as goal

pub start-requires-clause-ready : goal.start-requires-clause-ready
start-requires-clause-ready c =
    let parcels = c.in_ok-parcels.ensures in
    let fronts = c.in_ok-fronts.ensures in
    (c.args.scene.now, c.even-cut.result, ready c.args.scene.now c.even-cut.result c.in_ok-parcels.parcels.items c.in_ok-fronts.fronts.items parcels.strips parcels.level fronts.six fronts.new)

pub returns-clause-scene : goal.returns-clause-scene
returns-clause-scene c =
    let parcels = c.in_ok-parcels.ensures in
    let fronts = c.in_ok-fronts.ensures in
    (c.in_ok-start.ensures.board c.args.scene.now c.even-cut.result (ready c.args.scene.now c.even-cut.result c.in_ok-parcels.parcels.items c.in_ok-fronts.fronts.items parcels.strips parcels.level fronts.six fronts.new)).0
