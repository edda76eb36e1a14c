-- The table, row by row.
use Rattle.std.proofs.Common.{◌≡◌, ℕ, ◌+◌, ◌<◌, ◌≤◌, ◌++◌, List, [], ◌∷◌, length, take, get_or, refl, sym, ap, ◌∙◌, arith, append-nil, append_assoc}
use Rattle.std.specs.Prelude.{flat_map, zip}
use Rattle.std.proofs.lemmas.Grind.{flat_map-append}
use Rattle.std.proofs.lemmas.List.{length-take-le, take_all, take_more}
use Rattle.sgm_report.specs.Areas.{Area}
use Rattle.sgm_report.specs.Table.{fields_line, head_line, region_fields, table_text}
use Rattle.sgm_report.specs.declared.table.Columns.{Columns}
use Rattle.sgm_report.specs.declared.volumes.RegionTally.{RegionTally}

zip_push : {A B : Type 0} (xs : List A) (ys : List B) (x : A) (y : B) → length xs ≡ length ys
    → zip (xs ++ x ∷ []) (ys ++ y ∷ []) ≡ zip xs ys ++ (x, y) ∷ []
zip_push [] [] x y e = refl
zip_push [] (b ∷ ys) x y e = absurd (omega (arith, e))
zip_push (a ∷ xs) [] x y e = absurd (omega (arith, e))
zip_push {A} {B} (a ∷ xs) (b ∷ ys) x y e = ap (λ (t : List (A × B)). (a, b) ∷ t) (zip_push xs ys x y (omega (arith, e)))

-- the table of all regions
pub table_all : (columns : Columns) (areas : List Area) (tallies : List RegionTally) (k : ℕ) → length areas ≤ k → length tallies ≤ k
    → table_text columns (take k areas) (take k tallies) ≡ table_text columns areas tallies
table_all columns areas tallies k la lt =
    ap (λ (a : List Area). table_text columns a (take k tallies)) (take_all k areas la) ∙ ap (table_text columns areas) (take_all k tallies lt)

-- one region more
pub table_more : (columns : Columns) (areas : List Area) (tallies : List RegionTally) (k : ℕ) (a : Area) (t : RegionTally) → k < length areas
    → k < length tallies → a ≡ get_or areas k a → t ≡ get_or tallies k t
    → table_text columns (take (k + 1) areas) (take (k + 1) tallies)
    ≡ table_text columns (take k areas) (take k tallies) ++ fields_line (region_fields columns a t)
table_more columns areas tallies k a t la lt ea et =
    let head = head_line columns in
    let row : Area × RegionTally → List ℕ = λ (p : Area × RegionTally). fields_line (region_fields columns p.0 p.1) in
    let first : take (k + 1) areas ≡ take k areas ++ a ∷ [] = take_more areas k a la ∙ ap (λ (x : Area). take k areas ++ x ∷ []) (sym ea) in
    let second : take (k + 1) tallies ≡ take k tallies ++ t ∷ [] = take_more tallies k t lt ∙ ap (λ (x : RegionTally). take k tallies ++ x ∷ []) (sym et) in
    let short : length (take k areas) ≡ length (take k tallies) = omega (arith, length-take-le k areas (omega arith), length-take-le k tallies (omega arith)) in
    let pairs : zip (take (k + 1) areas) (take (k + 1) tallies) ≡ zip (take k areas) (take k tallies) ++ (a, t) ∷ [] =
    ap (λ (x : List Area). zip x (take (k + 1) tallies)) first ∙ ap (λ (y : List RegionTally). zip (take k areas ++ a ∷ []) y) second
    ∙ zip_push (take k areas) (take k tallies) a t short in
    ap (λ (p : List (Area × RegionTally)). head ++ flat_map row p) pairs
    ∙ ap (λ (b : List ℕ). head ++ b) (flat_map-append row (zip (take k areas) (take k tallies)) ((a, t) ∷ [])
    ∙ ap (λ (b : List ℕ). flat_map row (zip (take k areas) (take k tallies)) ++ b) (append-nil (row (a, t))))
    ∙ sym (append_assoc head (flat_map row (zip (take k areas) (take k tallies))) (row (a, t)))

-- a row that was written after those of the regions before it
pub text_more : (old sofar new line all : List ℕ) (table : List ℕ) → sofar ≡ old ++ table → new ≡ sofar ++ line → all ≡ table ++ line → new ≡ old ++ all
text_more old sofar new line all table p q r =
    q ∙ ap (λ (t : List ℕ). t ++ line) p ∙ append_assoc old table line ∙ ap (λ (t : List ℕ). old ++ t) (sym r)
