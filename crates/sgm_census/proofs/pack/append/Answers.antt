use Rattle.std.proofs.Common.{◌+◌, ◌*◌, ◌^◌, ◌≤◌, arith, subst, sym}
use Rattle.sgm_census.proofs.pack.append.Goals as goal

pub appended-requires-clause-room : goal.appended-requires-clause-room
appended-requires-clause-room c =
    subst (λ w. (w + 1) * 2 ^ c.args.by ≤ 2 ^ 63) (sym (c.loop-k.invariant.left c.loop-k.k (omega arith))) (c.requires.room c.loop-k.k (omega arith))
