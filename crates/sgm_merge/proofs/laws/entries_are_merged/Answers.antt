use Rattle.sgm_merge.proofs.Entries.{entries_are_merged}
use Rattle.sgm_merge.proofs.laws.entries_are_merged.Goals as goal

pub returns : goal.returns
returns c = entries_are_merged
