use Rattle.std.proofs.Common.{◌<◌, length, not, ne_eqb, ap, arith}
use Rattle.sgm_lanes.proofs.Bounds.{step_le}
use Rattle.sgm_lanes.proofs.recurrence.advance.Goals as goal

pub add_rest-requires-clause-fits : goal.add_rest-requires-clause-fits
add_rest-requires-clause-fits g c k le lt =
    let t = c.args.terms.now in
    let adds = ap not (ne_eqb g.row.ADD 0 c.if-this-ne0.true) in
    let inside : k < length t.prev.now = omega (arith, lt, c.step_chunks.auto.sums, c.requires.sums_length adds, c.requires.same_length) in
    omega (
      arith,
      step_le t.prev.now t.floor t.cost.now t.p1 t.p2 k _ t.can.penalties (t.can.costs k 0 (omega (arith, inside, t.can.cost_length))) (c.step_rest.ensures.each k le (omega arith)),
      c.step_chunks.ensures.rest adds k (omega (arith, le)),
      c.requires.room adds k (omega (arith, inside, c.requires.sums_length adds, c.requires.same_length)),
    )
