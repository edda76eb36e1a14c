use Rattle.sgm_energy.proofs.SumLemmas.{done_all}
use Rattle.sgm_strip.specs.Parcels.{is_done}
use Rattle.sgm_strip.proofs.laws.complete_sums.Goals as goal

pub returns : goal.returns
returns c done g p d all = done_all (is_done done) g p d all
