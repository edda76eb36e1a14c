-- No path of the table is longer than 40 bytes.
use Rattle.std.proofs.Common.{◌≡◌, ℕ, ◌≤◌, List, [], ◌∷◌, length, Bool, true, false, ◌&&◌, ◌==◌, nat_le, Some, if◌then◌else◌, refl, arith}
use Rattle.std.specs.List.{find, list_all}
use Rattle.std.specs.Option.{option_map_or}
use Rattle.std.proofs.lemmas.Bool.Decides.{nat_tests}
use Rattle.sgm_calib.specs.Paths.{row_of, part_of}
use Rattle.sgm_calib.specs.Rows.{Row}
use Rattle.sgm_calib.specs.Table.{keys}

and_left : (a b : Bool) → (a && b) ≡ true → a ≡ true
and_left true b e = refl
and_left false b e = absurd (cc)

and_right : (a b : Bool) → (a && b) ≡ true → b ≡ true
and_right true b e = e
and_right false b e = absurd (cc)

found_short : (p : Row → Bool) (rows : List Row) → list_all (λ row. nat_le (length row.path) 40) rows ≡ true → length (option_map_or (λ row. row.path) (find p rows) []) ≤ 40
found_short p [] all = omega arith
found_short p (row ∷ rows) all = elim (p row) as (λ t. length (option_map_or (λ row. row.path) (if t then Some row else find p rows) []) ≤ 40) [
  | true ↦ (let here = and_left (nat_le (length row.path) 40) (list_all (λ row. nat_le (length row.path) 40) rows) all in grind (arith, nat_tests))
  | false ↦ found_short p rows (and_right (nat_le (length row.path) 40) (list_all (λ row. nat_le (length row.path) 40) rows) all)
]

pub part_short : (n : ℕ) → length (part_of n) ≤ 40
unfolding row_of keys
part_short n = found_short (λ row. row.number == n) keys refl
