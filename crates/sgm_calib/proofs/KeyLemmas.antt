-- The checks of an object's keys, and of an object of the value itself.
use Rattle.std.proofs.Common.{◌≡◌, ℕ, ◌+◌, ◌≤◌, ℤ, pos, negsuc, nat_abs, ◌-ℤ◌, ◌≤ℤ◌, arith, Bool, true, false, if◌then◌else◌, List, [], ◌∷◌, ◌++◌, Option, Some, None, Ok, Err, option_map, Bor, refl, ap, sym, ◌∙◌}
use Rattle.std.proofs.lemmas.Int.{ints}
use Rattle.std.specs.Option.{option_or}
use Rattle.std.specs.Result.{result_err}
use Rattle.serde_json.specs.Data.{Data}
use Rattle.serde_json.specs.Find.{get, as_str}
use Rattle.serde_json.specs.View.{view}
use Rattle.serde_json.specs.declared.value.Value.{Value}
use Rattle.sgm_calib.specs.declared.keys.CalibFault.{CalibFault}
use Rattle.sgm_calib.specs.declared.keys.CalibFault.TheVariants.{Missing, Range}
use Rattle.sgm_calib.specs.declared.kind.Kind.TheVariants.{Mesh}
use Rattle.sgm_calib.specs.declared.place.Place.{Place}
use Rattle.sgm_calib.specs.declared.place.TheConstants.{PLAIN}
use Rattle.sgm_calib.specs.Rows.{Row, key_at, is_required}
use Rattle.sgm_calib.specs.Table as table
use Rattle.sgm_calib.specs.Table.{rows_in}
use Rattle.sgm_calib.specs.Checks.{typed_in, or_out_of_range, text_in, key_fault, keys_fault, sort_of}
use Rattle.sgm_calib.specs.WarpKeys.{rows_of_kind, mesh_fault}
use Rattle.sgm_calib.specs.Judge.{itself_fault_of, itself_fault, held_fault, section_fault}

-- a key that is wrong is the first fault of it and later keys; one that is right leaves the first fault to those
pub fault-here : (place : Place) (d : Data) (row : Row) (rows : List Row) (fault : CalibFault)
    → key_fault place d row ≡ Some fault → keys_fault place d (row ∷ rows) ≡ Some fault
fault-here place d row rows fault wrong = ap (λ found. option_or found (keys_fault place d rows)) wrong

pub fault-later : (place : Place) (d : Data) (row : Row) (rows : List Row)
    → key_fault place d row ≡ None → keys_fault place d (row ∷ rows) ≡ keys_fault place d rows
fault-later place d row rows right = ap (λ found. option_or found (keys_fault place d rows)) right

-- an object of the value that is right itself has the first fault of its keys
pub section_fault-held : (top : Data) (row : Row) (rows : List Row) (found : Option (Bor Value)) (object : Bor Value)
    → itself_fault top row ≡ None → option_map (λ v. view v.now) found ≡ get row.name top → found ≡ Some object → rows_in row (sort_of top) ≡ rows
    → section_fault top row ≡ keys_fault PLAIN (view object.now) rows
unfolding section_fault
section_fault-held top row rows found object right there is_found are =
    ap (λ fault. option_or fault (held_fault row (sort_of top) (get row.name top))) right
    ∙ ap (held_fault row (sort_of top)) (sym there ∙ ap (option_map (λ v. view v.now)) is_found)
    ∙ ap (keys_fault PLAIN (view object.now)) are

-- one that is wrong itself has that fault
pub section_fault-itself : (top : Data) (row : Row) (fault : CalibFault) → itself_fault top row ≡ Some fault → section_fault top row ≡ Some fault
unfolding section_fault
section_fault-itself top row fault wrong = ap (λ found. option_or found (held_fault row (sort_of top) (get row.name top))) wrong

-- an object that must be there and isn't
pub itself_fault-missing : (top : Data) (row : Row) → None ≡ get row.name top → true ≡ is_required row.presence top
    → itself_fault top row ≡ Some (Missing (key_at PLAIN row))
unfolding itself_fault
itself_fault-missing top row absent required =
    ap (itself_fault_of row (sort_of top) (is_required row.presence top)) (sym absent)
    ∙ ap (λ asked. itself_fault_of row (sort_of top) asked None) (sym required)

-- what is wrong with a text that is there, by its test
if-result : {A : Type 0} (b : Bool) (a : A) (fault : CalibFault) → result_err (if b then Ok a else Err fault) ≡ (if b then None else Some fault)
if-result true a fault = refl
if-result false a fault = refl

pub text-tested : (range : List ℕ → Bool) (place : Place) (d : Data) (row : Row) (text : List ℕ) (tested : Bool)
    → typed_in as_str place d row ≡ Ok text → tested ≡ range text
    → result_err (text_in range place d row) ≡ (if tested then None else Some (Range (key_at place row)))
unfolding text_in
text-tested range place d row text tested typed is =
    ap (λ r. result_err (or_out_of_range (Range (key_at place row)) range r)) typed
    ∙ ap (λ b. result_err (if b then Ok text else Err (Range (key_at place row)))) (sym is)
    ∙ if-result tested text (Range (key_at place row))

pub text-wrong : (range : List ℕ → Bool) (place : Place) (d : Data) (row : Row) (fault : CalibFault)
    → typed_in as_str place d row ≡ Err fault → result_err (text_in range place d row) ≡ Some fault
unfolding text_in
text-wrong range place d row fault typed = ap (λ r. result_err (or_out_of_range (Range (key_at place row)) range r)) typed

-- the last of four checks apart from the other ones
last-of_four : (a b c d : Option CalibFault)
    → option_or a (option_or b (option_or c (option_or d None))) ≡ option_or (option_or a (option_or b (option_or c None))) (option_or d None)
last-of_four (Some a) b c d = refl
last-of_four None (Some b) c d = refl
last-of_four None None (Some c) d = refl
last-of_four None None None d = refl

-- the keys that a mesh requires are those of its shape and its nodes
pub keys_fault-mesh : (place : Place) (d : Data) → keys_fault place d (rows_of_kind Mesh) ≡ mesh_fault place d
unfolding mesh_fault
keys_fault-mesh place d =
    last-of_four (key_fault place d table.mesh_step) (key_fault place d table.mesh_cols) (key_fault place d table.mesh_rows) (key_fault place d table.mesh_nodes)

-- columns or rows from one of the grid's on, of which no more than are left
pub lines_inside : (first count : ℤ) (lines : ℕ) → pos 0 ≤ℤ first → pos 1 ≤ℤ count → count ≤ℤ (pos lines -ℤ first)
    → (1 ≤ nat_abs count) × (nat_abs first + nat_abs count ≤ lines)
lines_inside (pos a) (pos b) lines low some high =
    (first_of (omega (arith, ints), grind (arith, ints)), first_of (omega (arith, ints), grind (arith, ints)))
lines_inside (pos a) (negsuc b) lines low some high = absurd (first_of (omega (arith, ints), grind (arith, ints)))
lines_inside (negsuc a) count lines low some high = absurd (first_of (omega (arith, ints), grind (arith, ints)))

or-joined : (a b c : Option CalibFault) → option_or a (option_or b c) ≡ option_or (option_or a b) c
or-joined None b c = refl
or-joined (Some fault) b c = refl

-- keys behind others have the first fault where those have none, and else it is that of those
pub fault-behind : (place : Place) (d : Data) (rows later : List Row) → keys_fault place d (rows ++ later) ≡ option_or (keys_fault place d rows) (keys_fault place d later)
fault-behind place d [] later = refl
fault-behind place d (row ∷ rows) later =
    ap (option_or (key_fault place d row)) (fault-behind place d rows later)
    ∙ or-joined (key_fault place d row) (keys_fault place d rows) (keys_fault place d later)
