-- The rows of the code and the rows that they are.
use Rattle.std.proofs.Common.{◌≡◌, Bool, true, false, ◌||◌, cond, List, [], ◌∷◌, map, Option, Some, None, option_map, Bor, refl, ap}
use Rattle.std.specs.List.{list_any, find}
use Rattle.sgm_calib.specs.declared.table.Row.{Row as CodeRow}
use Rattle.sgm_calib.specs.Rows.{Row, meant}

pub list_any-meant : (p : Row → Bool) (rows : List CodeRow) → list_any p (map meant rows) ≡ list_any (λ row. p (meant row)) rows
list_any-meant p [] = refl
list_any-meant p (row ∷ rows) = ap (λ b. p (meant row) || b) (list_any-meant p rows)

pub find-meant : (p : Row → Bool) (rows : List CodeRow) → option_map meant (find (λ row. p (meant row)) rows) ≡ find p (map meant rows)
find-meant p [] = refl
find-meant p (row ∷ rows) =
    elim (p (meant row)) as (λ b. option_map meant (cond b (Some row) (find (λ r. p (meant r)) rows)) ≡ cond b (Some (meant row)) (find p (map meant rows)))
    [ true ↦ refl | false ↦ find-meant p rows ]

pub option_map-meant : (found : Option (Bor CodeRow)) → option_map (λ row. meant row.now) found ≡ option_map meant (option_map (λ row. row.now) found)
option_map-meant None = refl
option_map-meant (Some row) = refl
