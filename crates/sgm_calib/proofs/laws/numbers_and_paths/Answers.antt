use Rattle.std.proofs.Common.{◌≡◌, ◌+◌, append_assoc, arith, refl, rules}
use Rattle.sgm_calib.specs.Numbers.{numbers}
use Rattle.sgm_calib.specs.Paths.{path_of, row_of}
use Rattle.sgm_calib.specs.Table.{keys}
use Rattle.sgm_calib.specs.declared.place.TheConstants.{PLAIN}
use Rattle.sgm_calib.proofs.laws.numbers_and_paths.Goals as goal

pub returns-clause-in_this_order : goal.returns-clause-in_this_order
unfolding numbers keys
returns-clause-in_this_order c = refl

pub returns-clause-paths : goal.returns-clause-paths
unfolding path_of row_of keys
returns-clause-paths c = refl

pub returns-clause-regions : goal.returns-clause-regions
unfolding path_of row_of keys
returns-clause-regions c index = record {
  itself = refl;
  keys = search (rules, append_assoc);
}

pub returns-clause-plain : goal.returns-clause-plain
returns-clause-plain c row = let n : row.number + PLAIN.shift ≡ row.number = omega arith in cc

pub returns-clause-right : goal.returns-clause-right
returns-clause-right c row = refl
