use Rattle.std.proofs.Common.{ap, ◌∙◌, map}
use Rattle.serde_json.specs.View.{view}
use Rattle.sgm_calib.proofs.ListLemmas.{elements-items}
use Rattle.sgm_calib.proofs.lists.elements.Goals as goal

pub returns-in-Some-clause-items : goal.returns-in-Some-clause-items
returns-in-Some-clause-items c = ap (map view) c.as_slice.ensures.value ∙ elements-items _ _ c.in-Some.ensures
