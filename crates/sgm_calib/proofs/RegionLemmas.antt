-- The regions of the elements of a list, one element on.
use Rattle.std.proofs.Common.{◌≡◌, Bool, true, false, if◌then◌else◌, pos, refl, Vec, ℕ, suc, ◌+◌, ◌<◌, ◌≤◌, List, [], ◌∷◌, ◌++◌, map, length, drop, get_or, Option, Some, None, option_map, unwrap_or, ap, sym, ◌∙◌, append_assoc, append-nil, add-one}
use Rattle.std.specs.Option.{option_or}
use Rattle.std.specs.Prelude.{IfSome}
use Rattle.std.specs.declared.alloc.Global.{Global}
use Rattle.std.proofs.lemmas.List.{drop_all, drop_more}
use Rattle.serde_json.specs.Data.{Data, null}
use Rattle.serde_json.specs.Find.{get}
use Rattle.sgm_grid.specs.declared.grid_spec.GridSpec.{GridSpec}
use lib.Signed.{le_z_yes}
use Rattle.sgm_grid.specs.Cells.{IsHeight}
use Rattle.sgm_report.specs.Areas.{has_base}
use Rattle.sgm_report.specs.Bases.{IsBasePlane, IsRise}
use Rattle.sgm_report.specs.Outlines.{Corner, IsOutline}
use Rattle.sgm_calib.specs.declared.keys.CalibError.{CalibError}
use Rattle.sgm_calib.specs.declared.keys.CalibFault.{CalibFault}
use Rattle.sgm_calib.specs.declared.keys.CalibFault.TheVariants.{Range}
use Rattle.sgm_calib.specs.declared.place.Place.{Place}
use Rattle.sgm_calib.specs.declared.regions.RegionNumbers.{RegionNumbers}
use Rattle.sgm_calib.specs.declared.keys.CalibError.TheVariants.{Fault, NoMemory}
use Rattle.sgm_calib.specs.Table as table
use Rattle.sgm_calib.specs.declared.sort.Sort.{Sort}
use Rattle.sgm_calib.specs.Rows.{key_at, number_of, is_since}
use Rattle.sgm_calib.specs.Checks.{first_of, keys_fault, sort_of, value_of, IsFaultOf}
use Rattle.sgm_calib.specs.RegionKeys.{region_place, base_of, rises_fault, area_of, area_in, numbers_of, parts_fault, base_fault, outline_fault, region_fault, region_faults, regions_fault_of, regions_fault}
use Rattle.sgm_calib.specs.Table.{grid_of}
use Rattle.sgm_calib.proofs.Numbers.{from_to, parted}
use Rattle.sgm_calib.specs.Judge.{grid_in}

-- what is left of a list from an element on is that element and what is left after it
at_element : {X : Type 0} (xs : List X) (i : ℕ) (x : X) → i < length xs → x ≡ get_or xs i x → drop i xs ≡ x ∷ drop (i + 1) xs
at_element xs i x within is_element = drop_more xs i x within ∙ ap (λ y. y ∷ drop (i + 1) xs) (sym is_element)

-- an element without a fault leaves the first fault to the later ones
pub passed-more : {X : Type 0} (data_of : X → Data) (sort : Sort) (grid : GridSpec) (xs : List X) (i : ℕ) (x : X)
    → i < length xs → x ≡ get_or xs i x → region_fault sort grid (region_place grid i) (data_of x) ≡ None
    → first_of (region_faults sort grid i (map data_of (drop i xs)))
    ≡ first_of (region_faults sort grid (i + 1) (map data_of (drop (i + 1) xs)))
passed-more data_of sort grid xs i x within is_element right =
    ap (λ rest. first_of (region_faults sort grid i (map data_of rest))) (at_element xs i x within is_element)
    ∙ ap (λ fault. option_or fault (first_of (region_faults sort grid (suc i) (map data_of (drop (i + 1) xs))))) right
    ∙ ap (λ n. first_of (region_faults sort grid n (map data_of (drop (i + 1) xs)))) (sym (add-one i))

-- an element with a fault has the first one
pub stopped-here : {X : Type 0} (data_of : X → Data) (sort : Sort) (grid : GridSpec) (xs : List X) (i : ℕ) (x : X) (error : CalibError)
    → i < length xs → x ≡ get_or xs i x → IsFaultOf (region_fault sort grid (region_place grid i) (data_of x)) error
    → IsFaultOf (first_of (region_faults sort grid i (map data_of (drop i xs)))) error
stopped-here data_of sort grid xs i x NoMemory within is_element wrong = tt
stopped-here data_of sort grid xs i x (Fault fault) within is_element wrong =
    ap (λ rest. first_of (region_faults sort grid i (map data_of rest))) (at_element xs i x within is_element)
    ∙ ap (λ found. option_or found (first_of (region_faults sort grid (suc i) (map data_of (drop (i + 1) xs))))) wrong

-- past the last element there is no fault, and the values are all
pub passed-all : {X : Type 0} (data_of : X → Data) (sort : Sort) (grid : GridSpec) (xs : List X) (i : ℕ) → length xs ≤ i
    → first_of (region_faults sort grid i (map data_of (drop i xs))) ≡ None
passed-all data_of sort grid xs i past = ap (λ rest. first_of (region_faults sort grid i (map data_of rest))) (drop_all i xs past)

pub value-all : {X Y Z : Type 0} (data_of : X → Y) (value_of : Y → Z) (got : List Z) (xs : List X) (i : ℕ) → length xs ≤ i
    → got ++ map value_of (map data_of (drop i xs)) ≡ map value_of (map data_of xs) → got ≡ map value_of (map data_of xs)
value-all data_of value_of got xs i past kept =
    sym (append-nil got) ∙ ap (λ rest. got ++ map value_of (map data_of rest)) (sym (drop_all i xs past)) ∙ kept

-- the value of an element goes behind those of the earlier ones
pub value-more : {X Y Z : Type 0} (data_of : X → Y) (value_of : Y → Z) (got : List Z) (xs : List X) (i : ℕ) (x : X)
    → i < length xs → x ≡ get_or xs i x
    → (got ++ value_of (data_of x) ∷ []) ++ map value_of (map data_of (drop (i + 1) xs)) ≡ got ++ map value_of (map data_of (drop i xs))
value-more data_of value_of got xs i x within is_element =
    append_assoc got (value_of (data_of x) ∷ []) (map value_of (map data_of (drop (i + 1) xs)))
    ∙ ap (λ rest. got ++ map value_of (map data_of rest)) (sym (at_element xs i x within is_element))

grid-there : (found : Option Data) (grid : GridSpec) → Some grid ≡ option_map grid_of found → grid ≡ grid_of (unwrap_or found null)
grid-there None grid is = absurd (cc)
grid-there (Some d) grid is = cc

-- the regions of a value that has them, and a grid
pub regions_fault-there : (top list : Data) (grid : GridSpec) → Some grid ≡ grid_in top → Some list ≡ get table.region_list.name top
    → regions_fault top ≡ regions_fault_of (sort_of top) grid (Some list)
unfolding regions_fault grid_in grid_of
regions_fault-there top list grid is_grid is_list =
    ap (λ found. regions_fault_of (sort_of top) (grid_of (value_of table.grid top)) found) (sym is_list)
    ∙ ap (λ (spec : GridSpec). regions_fault_of (sort_of top) spec (Some list)) (sym (grid-there (get table.grid.name top) grid is_grid))

-- a check that is made
pub when : (b : Bool) (fault : Option CalibFault) → b ≡ true → (if b then fault else None) ≡ fault
when true fault made = refl
when false fault made = absurd (cc)

-- a region's base rests neither on its name nor on its outline
pub same_base : (grid : GridSpec) (sort : Sort) (d : Data) (name : List ℕ) (numbers : RegionNumbers) (outline : Option (List Corner))
    → numbers ≡ numbers_of sort d → has_base grid (area_of name numbers outline) ≡ has_base grid (area_in sort d)
unfolding has_base area_in
same_base grid sort d name numbers outline are = ap (λ (n : RegionNumbers). has_base grid (area_of name n outline)) are

-- a region whose numbers have no fault, and whose base leaves its range
pub base-wrong : (sort : Sort) (grid : GridSpec) (place : Place) (d : Data) → parts_fault sort place d ≡ None → has_base grid (area_in sort d) ≡ false
    → region_fault sort grid place d ≡ Some (Range (key_at place table.region_rise_north))
unfolding region_fault base_fault
base-wrong sort grid place d right leaves =
    let outline = outline_fault place d in
    let base : Bool → Option CalibFault = λ (b : Bool). if b then None else Some (Range (key_at place table.region_rise_north)) in
    ap (λ (f : Option CalibFault). option_or f (option_or (base (has_base grid (area_in sort d))) (option_or outline None))) right
    ∙ ap (λ (b : Bool). option_or (base b) (option_or outline None)) leaves

or-nothing : (f : Option CalibFault) → option_or f None ≡ f
or-nothing None = refl
or-nothing (Some fault) = refl

-- one whose base doesn't has the fault of its outline
pub base-right : (sort : Sort) (grid : GridSpec) (place : Place) (d : Data) → parts_fault sort place d ≡ None → has_base grid (area_in sort d) ≡ true
    → region_fault sort grid place d ≡ outline_fault place d
unfolding region_fault base_fault
base-right sort grid place d right stays =
    let outline = outline_fault place d in
    let base : Bool → Option CalibFault = λ (b : Bool). if b then None else Some (Range (key_at place table.region_rise_north)) in
    ap (λ (f : Option CalibFault). option_or f (option_or (base (has_base grid (area_in sort d))) (option_or outline None))) right
    ∙ ap (λ (b : Bool). option_or (base b) (option_or outline None)) stays
    ∙ or-nothing outline

-- an outline as a vector and as its corners
pub outlined : (found : Option (Vec Corner Global)) → IfSome found (λ v. IsOutline v.items) → IfSome (option_map (λ v. v.items) found) IsOutline
outlined None kept = tt
outlined (Some v) kept = kept

-- the first fault of two checks
pub both-pass : (first later : Option CalibFault) → first ≡ None → later ≡ None → first_of (first ∷ later ∷ []) ≡ None
both-pass first later right right_too = ap (λ (f : Option CalibFault). option_or f (option_or later None)) right ∙ ap (λ (f : Option CalibFault). option_or f None) right_too

pub first-fails : (first later : Option CalibFault) (fault : CalibFault) → first ≡ Some fault → first_of (first ∷ later ∷ []) ≡ Some fault
first-fails first later fault wrong = ap (λ (f : Option CalibFault). option_or f (option_or later None)) wrong

pub later-fails : (first later : Option CalibFault) (fault : CalibFault) → first ≡ None → later ≡ Some fault → first_of (first ∷ later ∷ []) ≡ Some fault
later-fails first later fault right wrong = ap (λ (f : Option CalibFault). option_or f (option_or later None)) right ∙ ap (λ (f : Option CalibFault). option_or f None) wrong

-- the rises of a region without a fault: 0 where its sort knows none
rises : (knows : Bool) (place : Place) (d : Data) → (if knows then keys_fault place d table.rise_keys else None) ≡ None
    → IsRise (if knows then number_of table.region_rise_east d else pos 0) × IsRise (if knows then number_of table.region_rise_north d else pos 0)
rises true place d right =
    let east = parted place d table.region_rise_east (table.region_rise_north ∷ []) right in
    let north = parted place d table.region_rise_north [] east.1 in
    (from_to place d table.region_rise_east east.0, from_to place d table.region_rise_north north.0)
rises false place d right = ((le_z_yes tt, le_z_yes tt), (le_z_yes tt, le_z_yes tt))

-- so its base keeps its ranges
pub based : (sort : Sort) (place : Place) (d : Data) → IsHeight (number_of table.region_base d) → rises_fault sort place d ≡ None
    → IsBasePlane (base_of sort d)
based sort place d height right =
    let both = rises (is_since 3 sort) place d right in
    record { height_in_range = height; rise_east_in_range = both.0; rise_north_in_range = both.1 }
