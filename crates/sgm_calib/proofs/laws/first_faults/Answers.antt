use Rattle.std.proofs.Common.{ap, ◌∙◌}
use Rattle.sgm_calib.specs.Checks.{first_of}
use Rattle.sgm_calib.proofs.Firsts.{IsFirst-from_first_of, first_of-past}
use Rattle.sgm_calib.proofs.laws.first_faults.Goals as goal

pub returns : goal.returns
returns c checks fault =
    (IsFirst-from_first_of checks fault, λ first. ap first_of first.2 ∙ first_of-past first.0 first.1 fault first.3)
