use Rattle.std.proofs.Common.{◌*◌, ap, sym}
use Rattle.std.specs.Prelude.{option_map}
use Rattle.sgm_select.proofs.matching.sixteen_times.Goals as goal

pub returns-in-Some : goal.returns-in-Some
returns-in-Some c = sym (ap (option_map (λ d. 16 * d)) c.in-Some.is)
