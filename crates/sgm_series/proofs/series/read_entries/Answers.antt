use Rattle.sgm_series.proofs.ListEnds.{few, unfetched_counts, unfetched_end, unfetched_kind}
use Rattle.sgm_series.proofs.NoClash.{no_clash}
use Rattle.sgm_series.proofs.series.read_entries.Goals as goal

pub returns-in-Err-clause-end : goal.returns-in-Err-clause-end
returns-in-Err-clause-end g c = λ told. rw c.unfetched.ensures (unfetched_end c.args.list.now _ _ c.in-Err.error (c.in-Err.ensures.bytes told))

pub returns-in-Err-clause-kind : goal.returns-in-Err-clause-kind
returns-in-Err-clause-kind g c = rw c.unfetched.ensures (unfetched_kind c.in-Err.error)

pub returns-in-Err-clause-counts : goal.returns-in-Err-clause-counts
returns-in-Err-clause-counts g c = λ out. rw c.unfetched.ensures (unfetched_counts c.args.list.now c.in-Err.error _ _ _ _ out c.in-Err.ensures.reads c.in-Err.ensures.writes)

pub returns-in-Ok-read_list-clause-apart : goal.returns-in-Ok-read_list-clause-apart
returns-in-Ok-read_list-clause-apart g c =
    (c.args.list.now, rw c.in-Ok-read_list.ensures.entries (no_clash c.args.list.now c.deref.result.now c.in-Ok-read_list.ensures.sound))

pub returns-in-Ok-read_list-clause-few : goal.returns-in-Ok-read_list-clause-few
returns-in-Ok-read_list-clause-few g c = rw c.in-Ok-read_list.ensures.entries (few c.args.list.now c.deref.result.now c.in-Ok-read_list.ensures.sound)
