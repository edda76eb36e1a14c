use Rattle.std.proofs.Common.{◌+◌, arith, subst}
use Rattle.sgm_strip.specs.Cuts.{IsCut}
use Rattle.sgm_strip.proofs.CutLemmas.{first_more, first_within}
use Rattle.sgm_strip.proofs.cut.Cut.rows.Goals as goal

pub overflow_sub-result : goal.overflow_sub-result
overflow_sub-result c =
    omega (arith, first_more c.args.self.now c.args.strip (subst IsCut c.self.view_is c.self.invariant))

pub returns-clause-some : goal.returns-clause-some
returns-clause-some c =
    omega (arith, first_more c.args.self.now c.args.strip (subst IsCut c.self.view_is c.self.invariant))

pub returns-clause-inside : goal.returns-clause-inside
returns-clause-inside c =
    let kept = subst IsCut c.self.view_is c.self.invariant in
    omega (arith, first_more c.args.self.now c.args.strip kept, first_within c.args.self.now (c.args.strip + 1) kept (omega arith))
