use Rattle.std.proofs.Common.{arith, ⊎_elim, ◌<◌, ◌≤◌, ◌+◌}
use Rattle.std.proofs.lemmas.Simd.{get_or-put_chunk_at, get_or-put_chunk_below, get_or-put_chunk_above}
use Rattle.sgm_lanes.proofs.codes.store.Goals as goal

pub returns-clause-inside : goal.returns-clause-inside
returns-clause-inside c i lt = get_or-put_chunk_at c.args.at c.args.into.now c.args.lanes i 0 (omega arith) (omega arith)

pub returns-clause-outside : goal.returns-clause-outside
returns-clause-outside c k out = ⊎_elim (λ (x : k < c.args.at). get_or-put_chunk_below c.args.at c.args.into.now c.args.lanes k 0 x)
    (λ (x : c.args.at + 16 ≤ k). get_or-put_chunk_above c.args.at c.args.into.now c.args.lanes k 0 (omega arith)) out
