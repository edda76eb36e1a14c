use Rattle.std.proofs.Common.{◌≡◌, ◌+◌, ◌-◌, ◌∙◌, ap, slice_index, arith}
use Rattle.std.proofs.lemmas.Bool.Decides.{nat_tests}
use Rattle.sgm_lanes.specs.declared.recurrence.TheConstants.{ABSENT}
use Rattle.sgm_lanes.proofs.Pads.{left_is}
use Rattle.sgm_lanes.proofs.recurrence.lefts.Goals as goal

pub returns-then-at-gt0-clause-each : goal.returns-then-at-gt0-clause-each
returns-then-at-gt0-clause-each c i lt =
    let prev = c.args.prev.now in
    let at = c.args.at in
    let same : at - 1 + i ≡ at + i - 1 = omega (arith, c.if-at-gt0.true) in
    grind (arith, nat_tests, c.load.ensures.each i lt, ap (slice_index prev) same, c.if-at-gt0.true)

pub returns-clause-each : goal.returns-clause-each
returns-clause-each c i lt =
    left_is c.repeated.result c.neighbours_left.result c.args.prev.now c.args.at ABSENT i c.neighbours_left.ensures.first
    (grind (arith, nat_tests, c.repeated.ensures.each 15 (omega arith), c.if-at-gt0.false))
    (λ k h. c.neighbours_left.ensures.others k h ∙ c.load-2.ensures.each k (omega (arith, h))) lt
