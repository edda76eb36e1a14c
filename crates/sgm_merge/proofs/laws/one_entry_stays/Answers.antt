use Rattle.sgm_merge.proofs.Entries.{one_entry_stays}
use Rattle.sgm_merge.proofs.laws.one_entry_stays.Goals as goal

pub returns : goal.returns
returns c = one_entry_stays
