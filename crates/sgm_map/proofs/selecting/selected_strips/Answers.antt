use Rattle.std.proofs.Common.{◌≡◌, get_or, rules}
use Rattle.sgm_select.specs.Strips.{rows_of_strip}
use Rattle.sgm_map.specs.Selecting.{AreSelected}
use Rattle.sgm_threads.proofs.Pieces.{each_at, if_ok_two}
use Rattle.sgm_map.proofs.StripRows.{are_rows, map_of}
use Rattle.sgm_map.proofs.selecting.selected_strips.Goals as goal

pub returns : goal.returns
returns g c cut strips =
    let planes = c.args.planes.now in
    let parcels = c.args.parcels.now in
    let whole = map_of planes.scene planes.left planes.right in
    if_ok_two c.side_by_side.result
    (λ v count made. are_rows (λ rows. rows.items) planes.scene cut planes.left planes.right parcels v.items strips count
    (each_at (λ k rows. rows.items ≡ rows_of_strip whole cut k) v.items
    (λ k d h.
    let given = made k d h in
    let found : AreSelected planes.scene planes.left planes.right parcels k (get_or v.items k d).items = search rules in
    found.each cut strips)))
    c.side_by_side.ensures.count c.side_by_side.ensures.made
