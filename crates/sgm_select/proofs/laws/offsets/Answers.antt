use Rattle.sgm_energy.specs.Energies.{path_sum}
use Rattle.sgm_select.specs.Selection.{base}
use Rattle.sgm_select.proofs.Greatest.{base_least_at}
use Rattle.sgm_select.proofs.Offsets.{refined_is}
use Rattle.sgm_select.proofs.laws.offsets.Goals as goal

pub returns-clause-near : goal.returns-clause-near
returns-clause-near c g p some = (refined_is (path_sum g p) g.count (base g p) (base_least_at g p some)).near

pub returns-clause-whole : goal.returns-clause-whole
returns-clause-whole c g p some = (refined_is (path_sum g p) g.count (base g p) (base_least_at g p some)).whole

pub returns-clause-most : goal.returns-clause-most
returns-clause-most c g p some = (refined_is (path_sum g p) g.count (base g p) (base_least_at g p some)).most
