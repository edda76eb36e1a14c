use Rattle.sgm_census.proofs.Limits.{matching-within, within-keeps}
use Rattle.sgm_census.specs.Matching.{matching_problem}
use Rattle.sgm_census.proofs.laws.limits.Goals as goal

pub returns-clause-within : goal.returns-clause-within
returns-clause-within c = matching-within

pub returns-clause-kept : goal.returns-clause-kept
returns-clause-kept c =
    λ left right span penalties guide k ordered limited.
    within-keeps (matching_problem left right span penalties guide) (matching-within left right span penalties guide k ordered limited)
