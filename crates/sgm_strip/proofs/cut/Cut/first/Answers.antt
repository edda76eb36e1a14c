use Rattle.std.proofs.Common.{arith, subst}
use Rattle.sgm_strip.specs.Cuts.{IsCut}
use Rattle.sgm_strip.proofs.CutLemmas.{first_inside}
use Rattle.sgm_strip.proofs.cut.Cut.first.Goals as goal

pub returns-clause-inside : goal.returns-clause-inside
returns-clause-inside c =
    omega (arith, c.start.ensures, first_inside c.args.self.now c.args.strip (subst IsCut c.self.view_is c.self.invariant) c.requires)
