use Rattle.std.proofs.lemmas.Simd.{get_or-chunk}
use Rattle.sgm_lanes.proofs.codes.load.Goals as goal

pub returns-clause-each : goal.returns-clause-each
returns-clause-each c i lt = get_or-chunk c.args.at 16 c.args.words.now i 0 lt
