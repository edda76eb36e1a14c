use Rattle.sgm_select.proofs.Rows.{base_in-is, matched_in-is}
use Rattle.sgm_select.proofs.laws.choices.Goals as goal

pub returns-clause-base : goal.returns-clause-base
returns-clause-base c = base_in-is

pub returns-clause-matched : goal.returns-clause-matched
returns-clause-matched c = matched_in-is
