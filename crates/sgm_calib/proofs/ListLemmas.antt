-- Lists of whole numbers, as lists of values and as their data.
use Rattle.std.proofs.Common.{◌≡◌, ℕ, ◌/◌, ◌%◌, ◌==◌, nat_le, ℤ, eqb-true, leb-true, pos, Bool, true, ◌&&◌, not, if◌then◌else◌, List, [], ◌∷◌, map, length, Some, None, is_some, unwrap_or, refl, ap, sym, ◌∙◌}
use Rattle.std.specs.List.{list_all}
use Rattle.std.proofs.lemmas.Bool.{and_parts}
use Rattle.std.proofs.lemmas.List.{length-map}
use Rattle.std.proofs.lemmas.List.Folds.{list_all-map}
use Rattle.serde_json.specs.Data.{Data, null}
use Rattle.serde_json.specs.Find.{get, as_array}
use Rattle.serde_json.specs.View.{view, items_of, items_view}
use Rattle.serde_json.specs.declared.value.Value.{Value}
use Rattle.sgm_calib.specs.declared.keys.CalibFault.TheVariants.{Type_, Range}
use Rattle.sgm_calib.specs.declared.lists.Amount.{Amount}
use Rattle.sgm_calib.specs.declared.lists.Amount.TheVariants.{Exactly, Corners}
use Rattle.sgm_report.specs.declared.outline.TheConstants.{MAX_CORNERS, MIN_CORNERS}
use Rattle.sgm_calib.specs.declared.place.Place.{Place}
use Rattle.sgm_calib.specs.Rows.{Row, whole, key_at, is_in_range}
use Rattle.sgm_calib.specs.Checks.{Allows, list_of, list_or_none, elements, numbers, is_number_list, is_full, may_have, numbers_fault_of, numbers_fault, value_of}

-- the whole number of a value, and 0 where it is none
abbrev pub amount : Data → ℤ
amount d = unwrap_or (whole d) (pos 0)

pub map_of_map : {A B C : Type 0} (g : B → C) (f : A → B) (xs : List A) → map g (map f xs) ≡ map (λ x. g (f x)) xs
map_of_map g f [] = refl
map_of_map g f (x ∷ xs) = ap (λ ys. g (f x) ∷ ys) (map_of_map g f xs)

list_of-items_of : (ds : List Data) → list_of (items_of ds) ≡ ds
list_of-items_of [] = refl
list_of-items_of (d ∷ ds) = ap (λ es. d ∷ es) (list_of-items_of ds)

pub elements-items : (d : Data) (vs : List Value) → Some (items_view vs) ≡ as_array d → map view vs ≡ elements d
unfolding elements
elements-items d vs is_list = sym (list_of-items_of (map view vs)) ∙ ap list_or_none is_list

pub numbers-items : (d : Data) (vs : List Value) → map view vs ≡ elements d → map (λ v. amount (view v)) vs ≡ numbers d
numbers-items d vs are = sym (map_of_map amount view vs) ∙ ap (map amount) are

-- the tests of a list's values: each is a whole number; there are so many, each in range
abbrev pub are_whole : List Value → Bool
are_whole vs = list_all (λ v. is_some (whole (view v))) vs

abbrev pub are_full : List Value → Amount → (ℤ → Bool) → Bool
are_full vs count range = may_have count (length vs) && list_all (λ v. range (amount (view v))) vs

is_number_list-items : (d : Data) (vs : List Value) → is_some (as_array d) ≡ true → map view vs ≡ elements d → is_number_list d ≡ are_whole vs
is_number_list-items d vs is_list are =
    ap (λ b. b && list_all (λ e. is_some (whole e)) (elements d)) is_list
    ∙ ap (list_all (λ e. is_some (whole e))) (sym are)
    ∙ list_all-map (λ e. is_some (whole e)) view vs

is_full-items : (d : Data) (vs : List Value) (count : Amount) (range : ℤ → Bool) → map view vs ≡ elements d
    → is_full count range (numbers d) ≡ are_full vs count range
is_full-items d vs count range are =
    ap (is_full count range) (sym (numbers-items d vs are))
    ∙ ap (λ n. may_have count n && list_all range (map (λ v. amount (view v)) vs)) (length-map vs (λ v. amount (view v)))
    ∙ ap (λ b. may_have count (length vs) && b) (list_all-map range (λ v. amount (view v)) vs)

-- what is wrong with a list of numbers that is there, by the tests of its values
pub numbers_fault-items : (place : Place) (holder d : Data) (row : Row) (count : Amount) (vs : List Value) (tested full : Bool)
    → Some d ≡ get row.name holder → is_some (as_array d) ≡ true → map view vs ≡ elements d
    → tested ≡ are_whole vs → full ≡ are_full vs count (is_in_range row.form place holder)
    → numbers_fault place holder row count ≡ (if not tested then Some (Type_ (key_at place row)) else if not full then Some (Range (key_at place row)) else None)
unfolding numbers_fault
numbers_fault-items place holder d row count vs tested full is_there is_list are is_tested is_counted =
    ap (numbers_fault_of (key_at place row) count (is_in_range row.form place holder)) (sym is_there)
    ∙ ap (λ b. if not b then Some (Type_ (key_at place row)) else if not (is_full count (is_in_range row.form place holder) (numbers d)) then Some (Range (key_at place row)) else None) (is_number_list-items d vs is_list are ∙ sym is_tested)
    ∙ ap (λ b. if not tested then Some (Type_ (key_at place row)) else if not b then Some (Range (key_at place row)) else None) (is_full-items d vs count (is_in_range row.form place holder) are ∙ sym is_counted)

-- the numbers of a key, where they are there
pub numbers-there : (holder d : Data) (row : Row) (vs : List Value) → Some d ≡ get row.name holder → map view vs ≡ elements d
    → map (λ v. amount (view v)) vs ≡ numbers (value_of row holder)
numbers-there holder d row vs is_there are = numbers-items d vs are ∙ ap (λ o. numbers (unwrap_or o null)) is_there

-- what a list has that may have so many
pub allowed : (amount : Amount) (count : ℕ) → may_have amount count ≡ true → Allows amount count
allowed (Exactly wanted) count right = eqb-true count wanted right
allowed Corners count right =
    let ends = and_parts (count % 2 == 0 && nat_le MIN_CORNERS (count / 2)) (nat_le (count / 2) MAX_CORNERS) right in
    let first = and_parts (count % 2 == 0) (nat_le MIN_CORNERS (count / 2)) ends.0 in
    (eqb-true (count % 2) 0 first.0, leb-true MIN_CORNERS (count / 2) first.1, leb-true (count / 2) MAX_CORNERS ends.1)

-- a list that is full has as many as it may have
pub full_allows : (vs : List Value) (amount : Amount) (range : ℤ → Bool) → true ≡ are_full vs amount range → Allows amount (length vs)
full_allows vs amount range full =
    allowed amount (length vs) (and_parts (may_have amount (length vs)) (list_all (λ v. range (unwrap_or (whole (view v)) (pos 0))) vs) (sym full)).0
