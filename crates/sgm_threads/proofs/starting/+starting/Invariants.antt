use Rattle.std.proofs.Common.{length, ◌+◌, ◌*◌}
use Rattle.sgm_threads.proofs.starting.+starting.Given as goal

abbrev pub decreases-in_threads : goal.decreases-in_threads
decreases-in_threads g l = 4 * length l.s.now

abbrev pub decreases-last_and_rest : goal.decreases-last_and_rest
decreases-last_and_rest g l = 4 * length l.rest.now + 2

abbrev pub decreases-last_and_rest-ours : goal.decreases-last_and_rest-ours
decreases-last_and_rest-ours g l = 4 * length l.rest.now + 1
