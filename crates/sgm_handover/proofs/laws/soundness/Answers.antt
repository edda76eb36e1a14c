use Rattle.sgm_handover.proofs.Soundness.{fresh-sound, after-sound}
use Rattle.sgm_handover.proofs.laws.soundness.Goals as goal

pub returns-clause-fresh : goal.returns-clause-fresh
returns-clause-fresh c = fresh-sound

pub returns-clause-kept : goal.returns-clause-kept
returns-clause-kept c = after-sound
