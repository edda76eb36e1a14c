use Rattle.sgm_handover.proofs.Runs.{one_refusal}
use Rattle.sgm_handover.proofs.laws.refusals.Goals as goal

pub returns-clause-one : goal.returns-clause-one
returns-clause-one c = one_refusal

pub returns-clause-not_all : goal.returns-clause-not_all
returns-clause-not_all c m events at refused all = refused.illegal (all at refused.inside)
