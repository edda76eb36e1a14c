use Rattle.std.proofs.Common.{arith, ◌+◌}
use Rattle.sgm_stages.specs.Merging.{entry_for}
use Rattle.sgm_stages.specs.Readings.{grid_reading}
use Rattle.sgm_stages.specs.Verdict.{unless_refused}
use Rattle.sgm_stages.proofs.VerdictLaws.{none_judged}
use Rattle.sgm_stages.proofs.entries.add_entry.Goals as goal

pub returns-in-Err-clause-entry : goal.returns-in-Err-clause-entry
returns-in-Err-clause-entry g c = λ told next none.
    let k = c.args.number in
    let spec = c.args.merge.now.spec in
    let reading = grid_reading (g.S.Shelf.held c.args.shelf.now c.args.name.now) in
    rw c.outcome.ensures (c.in-Err.ensures.bytes told (unless_refused (entry_for spec k reading) next) (none_judged (k + 7) k spec reading next (omega arith) none))
