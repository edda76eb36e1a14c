use Rattle.std.proofs.Common.{◌+◌, arith, rules}
use Rattle.sgm_energy.specs.Step.{carried}
use Rattle.sgm_lanes.specs.declared.recurrence.TheConstants.{ABSENT}
use Rattle.sgm_lanes.proofs.Pads.{left_low, right_low}
use Rattle.sgm_lanes.proofs.recurrence.chunk.Goals as goal

pub minus-requires-clause-fits : goal.minus-requires-clause-fits
minus-requires-clause-fits c i lt =
    let prev = c.args.terms.now.prev.now in
    omega (
      arith,
      c.repeated-2.ensures.each i lt,
      c.plus-value.ensures.each i lt,
      c.lesser-lowest.ensures.each i lt,
      c.lesser-2.ensures.each i lt,
      c.repeated-far.ensures.each i lt,
      c.load.ensures.each i lt,
      c.args.terms.now.can.floor_least (c.args.at + i) 0 (omega arith),
      c.plus-beside.ensures.each i lt,
      c.lesser.ensures.each i lt,
      c.requires.left i lt,
      left_low prev c.args.terms.now.floor ABSENT (c.args.at + i) c.args.terms.now.can.floor_least (omega arith) (omega arith),
      c.requires.right i lt,
      right_low prev c.args.terms.now.floor ABSENT (c.args.at + i) c.args.terms.now.can.floor_least (omega arith),
    )

pub returns-clause-each : goal.returns-clause-each
unfolding carried
returns-clause-each c = search rules
