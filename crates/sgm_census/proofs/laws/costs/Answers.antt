use Rattle.std.proofs.Common.{arith}
use Rattle.sgm_census.proofs.CostRows.{census_cost-le, greatest-le}
use Rattle.sgm_census.proofs.laws.costs.Goals as goal

pub returns-clause-greatest : goal.returns-clause-greatest
returns-clause-greatest c = census_cost-le

pub returns-clause-most : goal.returns-clause-most
returns-clause-most c = λ left right first x y d k. omega (arith, census_cost-le left right first x y d k, greatest-le left.window k.window_in_range)
