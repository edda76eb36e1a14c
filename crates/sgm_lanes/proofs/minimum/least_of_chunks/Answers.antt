use Rattle.std.proofs.Common.{Contains, arith}
use Rattle.std.proofs.lemmas.List.Elements.{All-contains, All-from_get_or}
use Rattle.sgm_lanes.proofs.minimum.least_of_chunks.Goals as goal

pub returns-clause-contained : goal.returns-clause-contained
returns-clause-contained c =
    let v = c.args.v.now in
    let lanes = c.least_by_lane.result in
    All-contains (Contains v) lanes c.least_of_few.result (All-from_get_or (Contains v) lanes 0 (λ i h. c.least_by_lane.ensures.contained i (omega arith))) c.least_of_few.ensures.contained
