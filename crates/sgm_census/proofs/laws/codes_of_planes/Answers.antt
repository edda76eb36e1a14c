use Rattle.sgm_census.proofs.CodeLists.{code_in-codes_of, codes_of-kept}
use Rattle.sgm_census.proofs.laws.codes_of_planes.Goals as goal

pub returns-clause-pixel : goal.returns-clause-pixel
returns-clause-pixel c = code_in-codes_of

pub returns-clause-kept : goal.returns-clause-kept
returns-clause-kept c = codes_of-kept
