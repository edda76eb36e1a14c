use Rattle.std.proofs.Common.{take, drop, ◌∙◌, arith}
use Rattle.std.proofs.lemmas.Simd.{get_or-chunk, length-chunk}
use Rattle.std.proofs.lemmas.List.{get_or-map}
use Rattle.sgm_lanes.proofs.lane.load_bytes.Goals as goal

pub returns-clause-each : goal.returns-clause-each
returns-clause-each c i lt =
    let long = length-chunk c.args.at 16 c.args.bytes.now c.requires in
    get_or-map _ (take 16 (drop c.args.at c.args.bytes.now)) i 0 0 (omega (arith, long)) ∙ get_or-chunk c.args.at 16 c.args.bytes.now i 0 lt
