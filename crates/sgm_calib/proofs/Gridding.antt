-- What a grid without a fault says of how points become heights.
use Rattle.std.proofs.Common.{◌≡◌, pos, ◌≤◌, Bool, true, false, cond, [], ◌∷◌, Some, None, lit≤, refl, ap, sym, ◌∙◌}
use Rattle.serde_json.specs.Data.{Data}
use Rattle.serde_json.specs.Find.{get}
use Rattle.sgm_base.specs.Ranges.{IsFromTo}
use Rattle.sgm_grid.specs.declared.limits.TheConstants.{MAX_BRIDGE}
use Rattle.sgm_calib.specs.declared.place.TheConstants.{PLAIN}
use Rattle.sgm_calib.specs.declared.sort.Sort.{Sort}
use Rattle.sgm_calib.specs.Rows.{Row, IsCount, number_of, count_of, is_since}
use Rattle.sgm_calib.specs.Checks.{keys_fault, sort_of}
use Rattle.sgm_calib.specs.Judge.{itself_fault, held_fault, section_fault}
use Rattle.sgm_calib.specs.Table as table
use Rattle.sgm_calib.specs.Table.{given_rows, rows_in}
use Rattle.sgm_calib.proofs.KeyLemmas.{fault-behind}
use Rattle.sgm_calib.proofs.Numbers.{both-right, count_between, count_from_to, from_to, parted}
use Rattle.sgm_calib.proofs.Objects.{rows_in-grid}

given-by : (b : Bool) (x y : Row) → b ≡ true → cond b (x ∷ cond b (y ∷ []) []) (cond b (y ∷ []) []) ≡ x ∷ y ∷ []
given-by true x y e = refl
given-by false x y e = absurd (cc)

-- both keys are given from version 3 on
given-both : (sort : Sort) → is_since 3 sort ≡ true → given_rows sort table.gridding_keys ≡ table.gridding_keys
given-both sort since = given-by (is_since 3 sort) table.keep table.bridge since

-- the keys of a grid without a fault have none
held-right : (top d : Data) → section_fault top table.grid ≡ None → get table.grid.name top ≡ Some d → keys_fault PLAIN d (rows_in table.grid (sort_of top)) ≡ None
unfolding section_fault
held-right top d right there =
    ap (held_fault table.grid (sort_of top)) (sym there)
    ∙ (both-right (itself_fault top table.grid) (held_fault table.grid (sort_of top) (get table.grid.name top)) right).1

pub bridge_in_range : (top d : Data) → section_fault top table.grid ≡ None → get table.grid.name top ≡ Some d → is_since 3 (sort_of top) ≡ true
    → IsFromTo (pos 0) (pos MAX_BRIDGE) (number_of table.bridge d)
bridge_in_range top d right there since =
    let sort = sort_of top in
    let all : keys_fault PLAIN d (rows_in table.grid sort) ≡ None = held-right top d right there in
    let apart = sym (fault-behind PLAIN d table.place_keys (given_rows sort table.gridding_keys)) ∙ ap (keys_fault PLAIN d) (sym (rows_in-grid sort)) ∙ all in
    let given = (both-right (keys_fault PLAIN d table.place_keys) (keys_fault PLAIN d (given_rows sort table.gridding_keys)) apart).1 in
    let two : keys_fault PLAIN d table.gridding_keys ≡ None = ap (keys_fault PLAIN d) (sym (given-both sort since)) ∙ given in
    let later = parted PLAIN d table.keep (table.bridge ∷ []) two in
    from_to PLAIN d table.bridge (parted PLAIN d table.bridge [] later.1).0

pub bridge_counted : (top d : Data) → section_fault top table.grid ≡ None → get table.grid.name top ≡ Some d → is_since 3 (sort_of top) ≡ true
    → IsCount (number_of table.bridge d)
bridge_counted top d right there since =
    count_between (number_of table.bridge d) 0 MAX_BRIDGE (bridge_in_range top d right there since) (lit≤ tt)

pub bridge_kept : (top d : Data) → section_fault top table.grid ≡ None → get table.grid.name top ≡ Some d → is_since 3 (sort_of top) ≡ true
    → count_of table.bridge d ≤ MAX_BRIDGE
bridge_kept top d right there since =
    (count_from_to (number_of table.bridge d) 0 MAX_BRIDGE (bridge_in_range top d right there since)).1
