use Rattle.std.proofs.Common.{◌≡◌, Some, map}
use Rattle.sgm_threads.proofs.sharing.all_of.Given as goal

abbrev pub invariant-loop-place : goal.invariant-loop-place
invariant-loop-place g l = map Some l.all.items ≡ l.yielded
