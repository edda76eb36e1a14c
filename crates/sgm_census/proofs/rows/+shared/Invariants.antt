use Rattle.std.proofs.Common.{◌+◌, ◌*◌}
use Rattle.sgm_census.proofs.rows.+shared.Given as goal

abbrev pub decreases-shared_rows : goal.decreases-shared_rows
decreases-shared_rows g l = 2 * l.threads

abbrev pub decreases-first : goal.decreases-first
decreases-first g l = 2 * l.few + 1

abbrev pub decreases-second : goal.decreases-second
decreases-second g l = 2 * l.others + 1
