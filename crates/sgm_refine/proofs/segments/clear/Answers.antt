use Rattle.std.proofs.Common.{◌<◌, length, get_or, arith}
use Rattle.std.proofs.lemmas.List.Elements.{Contains-get_or}
use Rattle.sgm_refine.proofs.Floods.{clearing_end}
use Rattle.sgm_refine.proofs.segments.clear.Goals as goal

pub bounds-kept-at : goal.bounds-kept-at
bounds-kept-at c =
    omega (arith, c.loop-at.invariant.full, c.requires.inside _ (Contains-get_or c.args.segment.now c.loop-at.at-index 0 c.loop-at-test.true))

pub offset_bounds-kept-at : goal.offset_bounds-kept-at
offset_bounds-kept-at c =
    let inside : get_or c.args.segment.now c.loop-at.at-index 0 < length c.loop-at.kept =
    omega (arith, c.loop-at.invariant.full, c.requires.inside _ (Contains-get_or c.args.segment.now c.loop-at.at-index 0 c.loop-at-test.true)) in
    omega arith

pub returns-clause-cleared : goal.returns-clause-cleared
returns-clause-cleared c = clearing_end c.args.segment.now c.args.kept.now c.loop-at.kept c.loop-at.at-index c.loop-at.invariant c.loop-at-test.false
