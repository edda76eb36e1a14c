use Rattle.std.proofs.Common.{◌∙◌, List, Vec, Global, ap, sym}
use Rattle.std.specs.Prelude.{slice_get}
use Rattle.sgm_grid.specs.declared.placed.Placed.{Placed}
use Rattle.sgm_ground.proofs.placing.add_shared.Goals as goal

pub add_rows-requires-clause-placed : goal.add_rows-requires-clause-placed
add_rows-requires-clause-placed g c y places at =
    c.in_ok-rows.ensures.placed y places (ap (λ (rows : List (Vec Placed Global)). slice_get rows y) (sym c.deref.ensures.value) ∙ at)
