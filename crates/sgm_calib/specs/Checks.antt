-- The checks of one key, of one object and of one list. For a key the order is that it is missing,
-- its type, its range; for an object its type, an unknown name, its keys.
use Rattle.std.specs.Prelude.{◌≡◌, ⊤, ℕ, ◌≤◌, ◌==◌, ◌*◌, ◌/◌, ◌%◌, nat_le, ℤ, pos, Bool, true}
use Rattle.std.specs.Prelude.{false, ◌&&◌, not, if◌then◌else◌, List, [], ◌∷◌, ◌++◌, length, IsTrue}
use Rattle.std.specs.Prelude.{is_none, is_some, map, Option, Some, None, unwrap_or, Result, Ok, Err}
use Rattle.std.specs.List.{list_all}
use Rattle.std.specs.Option.{option_or}
use Rattle.std.specs.Result.{result_err}
use Rattle.serde_json.specs.Data.{Data, null, Items, no_items, item, Members, no_members, member}
use Rattle.serde_json.specs.Find.{get, as_array, as_bool, as_object, as_str}
use Rattle.sgm_height.specs.Pose.{axes_of, is_nearly_rotation}
use Rattle.sgm_calib.specs.declared.keys.Key.{Key}
use Rattle.sgm_calib.specs.declared.keys.CalibFault.{CalibFault}
use Rattle.sgm_calib.specs.declared.keys.CalibFault.TheVariants.{Missing, Unknown, Type_, Range}
use Rattle.sgm_calib.specs.declared.keys.CalibError.{CalibError}
use Rattle.sgm_calib.specs.declared.keys.CalibError.TheVariants.{Fault, NoMemory}
use Rattle.sgm_calib.specs.declared.place.Place.{Place}
use Rattle.sgm_calib.specs.declared.sort.Sort.{Sort}
use Rattle.sgm_calib.specs.declared.sort.Sort.TheVariants.{Version}
use Rattle.sgm_calib.specs.Keeps.{is_keep}
use Rattle.sgm_calib.specs.Kinds.{is_kind}
use Rattle.sgm_calib.specs.Rows.{Row, Form, object as object_form, warps, kind, name as name_form}
use Rattle.sgm_calib.specs.Rows.{keep as keep_form, truth, regions, matrix, rotation, nodes, key_at}
use Rattle.sgm_calib.specs.Rows.{corners, whole, count_of, is_in_range}
use Rattle.sgm_calib.specs.declared.lists.Amount.{Amount}
use Rattle.sgm_calib.specs.declared.lists.Amount.TheVariants.{Exactly, Corners}
use Rattle.sgm_report.specs.Areas.{is_region_name}
use Rattle.sgm_report.specs.declared.outline.TheConstants.{MAX_CORNERS, MIN_CORNERS}
use Rattle.sgm_calib.specs.Table.{is_known, mesh_cols, mesh_rows, version}

-- the first fault of some checks
abbrev pub first_of : List (Option CalibFault) → Option CalibFault
first_of [] = None
first_of (fault ∷ later) = option_or fault (first_of later)

-- every check before this fault passes
abbrev pub IsFirst : List (Option CalibFault) → CalibFault → Type 0
IsFirst checks fault =
    (before : List (Option CalibFault)) × (after : List (Option CalibFault))
    × (checks ≡ before ++ Some fault ∷ after) × IsTrue (list_all is_none before)

-- ---- one key

abbrev pub or_wrong_type : {A : Type 0} → Key → Option A → Result A CalibFault
or_wrong_type key None = Err (Type_ key)
or_wrong_type key (Some a) = Ok a

abbrev pub or_missing : {A : Type 0} → Key → (Data → Option A) → Option Data → Result A CalibFault
or_missing key read None = Err (Missing key)
or_missing key read (Some d) = or_wrong_type key (read d)

-- what a key's value is, or what is wrong: it is missing, or its type
abbrev pub typed_in : {A : Type 0} → (Data → Option A) → Place → Data → Row → Result A CalibFault
typed_in read place holder row = or_missing (key_at place row) read (get row.name holder)

-- the fault where a value is out of range
abbrev pub or_out_of_range : {A : Type 0} → CalibFault → (A → Bool) → Result A CalibFault
    → Result A CalibFault
or_out_of_range fault range (Err earlier) = Err earlier
or_out_of_range fault range (Ok a) = if range a then Ok a else Err fault

-- the whole number of a key in its object, or what is wrong: it is missing, its type, its range
unfoldable pub number_in : Place → Data → Row → Result ℤ CalibFault
number_in place holder row =
    or_out_of_range (Range (key_at place row)) (is_in_range row.form place holder)
    (typed_in whole place holder row)

-- ---- objects

-- whether an object of that sort has no name but those that the table gives it
abbrev pub has_only : Row → Sort → Members → Bool
has_only holder sort no_members = true
has_only holder sort (member key d ms) = is_known holder sort key && has_only holder sort ms

abbrev pub unknown_fault : Key → Bool → Option CalibFault
unknown_fault key true = None
unknown_fault key false = Some (Unknown key)

abbrev pub members_fault : Key → Row → Sort → Option Members → Option CalibFault
members_fault key holder sort None = Some (Type_ key)
members_fault key holder sort (Some ms) = unknown_fault key (has_only holder sort ms)

-- what is wrong with an object itself: its type, or a name that the table doesn't give an object of
-- that sort
unfoldable pub object_fault : Place → Row → Sort → Data → Option CalibFault
object_fault place holder sort d = members_fault (key_at place holder) holder sort (as_object d)

abbrev pub type_fault : {A : Type 0} → Key → Option A → Option CalibFault
type_fault key None = Some (Type_ key)
type_fault key (Some a) = None

-- ---- lists

abbrev pub list_of : Items → List Data
list_of no_items = []
list_of (item d ds) = d ∷ list_of ds

abbrev pub list_or_none : Option Items → List Data
list_or_none None = []
list_or_none (Some ds) = list_of ds

-- the elements of a list, none of another value
unfoldable pub elements : Data → List Data
elements d = list_or_none (as_array d)

-- the whole numbers of a list
abbrev pub numbers : Data → List ℤ
numbers d = map (λ e. unwrap_or (whole e) (pos 0)) (elements d)

-- whether a value is a list of whole numbers
abbrev pub is_number_list : Data → Bool
is_number_list d = is_some (as_array d) && list_all (λ e. is_some (whole e)) (elements d)

-- whether a list may have so many numbers: exactly those, or two for each corner of an outline
abbrev pub may_have : Amount → ℕ → Bool
may_have (Exactly wanted) count = count == wanted
may_have Corners count =
    (count % 2 == 0) && nat_le MIN_CORNERS (count / 2) && nat_le (count / 2) MAX_CORNERS

-- a list that may have so many
abbrev pub Allows : Amount → ℕ → Type 0
Allows (Exactly wanted) count = count ≡ wanted
Allows Corners count = (count % 2 ≡ 0) × (MIN_CORNERS ≤ count / 2) × (count / 2 ≤ MAX_CORNERS)

-- whether a list has as many numbers as it may have, all in their range
abbrev pub is_full : Amount → (ℤ → Bool) → List ℤ → Bool
is_full amount range zs = may_have amount (length zs) && list_all range zs

abbrev pub numbers_fault_of : Key → Amount → (ℤ → Bool) → Option Data → Option CalibFault
numbers_fault_of key amount range None = Some (Missing key)
numbers_fault_of key amount range (Some d) =
    if not (is_number_list d) then Some (Type_ key)
    else if not (is_full amount range (numbers d)) then Some (Range key)
    else None

-- What is wrong with a list of so many whole numbers in its object: it is missing, its type or an
-- element's, its count or an element's range.
unfoldable pub numbers_fault : Place → Data → Row → Amount → Option CalibFault
numbers_fault place holder row amount =
    numbers_fault_of (key_at place row) amount (is_in_range row.form place holder)
    (get row.name holder)

-- ---- keys whose values have no keys of their own

-- the value of a key in its object
abbrev pub value_of : Row → Data → Data
value_of row d = unwrap_or (get row.name d) null

-- the text of a key in its object
abbrev pub text_of : Row → Data → List ℕ
text_of row d = unwrap_or (as_str (value_of row d)) []

-- the whole numbers of a key in its object
abbrev pub numbers_at : Row → Data → List ℤ
numbers_at row d = numbers (value_of row d)

-- the text of a key in its object, or what is wrong: it is missing, its type, its range
unfoldable pub text_in : (List ℕ → Bool) → Place → Data → Row → Result (List ℕ) CalibFault
text_in range place holder row =
    or_out_of_range (Range (key_at place row)) range (typed_in as_str place holder row)

-- how many numbers the nodes of a mesh are: two for each
abbrev pub node_numbers : Data → ℕ
node_numbers side = 2 * count_of mesh_cols side * count_of mesh_rows side

-- what is wrong with the axes that nine numbers are: they aren't nearly those of a rotation
abbrev pub axes_fault : Place → Data → Row → Option CalibFault
axes_fault place holder row =
    if is_nearly_rotation (axes_of (numbers_at row holder)) then None
    else Some (Range (key_at place row))

-- what is wrong with nine numbers that are to be nearly a rotation
unfoldable pub rotation_fault : Place → Data → Row → Option CalibFault
rotation_fault place holder row =
    option_or (numbers_fault place holder row (Exactly 9)) (axes_fault place holder row)

abbrev pub key_fault_of : Form → Place → Data → Row → Option CalibFault
key_fault_of object_form place holder row = None
key_fault_of warps place holder row = None
key_fault_of regions place holder row = None
key_fault_of kind place holder row = result_err (text_in is_kind place holder row)
key_fault_of name_form place holder row = result_err (text_in is_region_name place holder row)
key_fault_of keep_form place holder row = result_err (text_in is_keep place holder row)
key_fault_of truth place holder row = result_err (typed_in as_bool place holder row)
key_fault_of (matrix low high) place holder row = numbers_fault place holder row (Exactly 9)
key_fault_of (rotation low high) place holder row = rotation_fault place holder row
key_fault_of (nodes low high) place holder row =
    numbers_fault place holder row (Exactly (node_numbers holder))
key_fault_of (corners low high) place holder row = numbers_fault place holder row Corners
key_fault_of _ place holder row = result_err (number_in place holder row)

-- what is wrong with a key of an object
abbrev pub key_fault : Place → Data → Row → Option CalibFault
key_fault place holder row = key_fault_of row.form place holder row

-- the first fault of some keys of an object
abbrev pub keys_fault : Place → Data → List Row → Option CalibFault
keys_fault place holder rows = first_of (map (key_fault place holder) rows)

-- the first fault of some keys of an object that are whole numbers
abbrev pub wholes_fault : Place → Data → List Row → Option CalibFault
wholes_fault place holder rows =
    first_of (map (λ row. result_err (number_in place holder row)) rows)

-- ---- values

-- a value and its objects go by its version
unfoldable pub sort_of : Data → Sort
sort_of top = Version (count_of version top)

-- ---- answers

-- the fault is this one, unless memory was wanting
abbrev pub IsFaultOf : Option CalibFault → CalibError → Type 0
IsFaultOf found (Fault fault) = found ≡ Some fault
IsFaultOf found NoMemory = ⊤
