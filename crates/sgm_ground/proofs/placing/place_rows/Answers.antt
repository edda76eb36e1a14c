use Rattle.std.proofs.Common.{rules}
use Rattle.sgm_ground.specs.Heights.{IsPlacedRow}
use Rattle.sgm_threads.proofs.Pieces.{each_at, if_ok_two}
use Rattle.sgm_ground.proofs.placing.place_rows.Goals as goal

pub returns-clause-placed : goal.returns-clause-placed
returns-clause-placed g c =
    let shown = c.args.shown.now in
    if_ok_two c.side_by_side.result
    (λ v count made. each_at (λ y places. IsPlacedRow shown.station.now shown.spec shown.span.first shown.map.now y places.items) v.items (λ k d h. let given = made k d h in search rules))
    c.side_by_side.ensures.count c.side_by_side.ensures.made
