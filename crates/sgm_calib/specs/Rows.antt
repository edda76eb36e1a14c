-- The rows of the key table: what a row says, and what the code's rows mean.
use Rattle.std.specs.Prelude.{ℕ, ◌+◌, ◌%◌, ◌==◌, nat_le, ℤ, pos, ◌-ℤ◌, unsigned_abs, int_le, Bool}
use Rattle.std.specs.Prelude.{true, false, ◌&&◌, ◌||◌, List, Option, option_and_then, unwrap_or}
use Rattle.std.specs.Prelude.{is_some}
use Rattle.std.specs.Str.{bytes_eq}
use Rattle.serde_json.specs.Data.{Data}
use Rattle.serde_json.specs.Find.{get, as_bool, as_number, as_i64}
use Rattle.sgm_base.specs.Ranges.{IsFromTo}
use Rattle.sgm_calib.specs.declared.keys.Key.{Key}
use Rattle.sgm_calib.specs.declared.place.Place.{Place}
use Rattle.sgm_calib.specs.declared.sort.Sort.{Sort}
use Rattle.sgm_calib.specs.declared.sort.Sort.TheVariants.{Side, Version}
use Rattle.sgm_calib.specs.Kinds.{kind_name}
use Rattle.sgm_calib.specs.declared.table.Row.{Row as CodeRow}
use Rattle.sgm_calib.specs.declared.table.Form.{Form as CodeForm}
use Rattle.sgm_calib.specs.declared.table.Form.TheVariants as code
use Rattle.sgm_calib.specs.declared.table.Presence.{Presence as CodePresence}
use Rattle.sgm_calib.specs.declared.table.Presence.TheVariants as code_presence

-- What the value of a key is, and which numbers are in range: an object; the object of the warps;
-- the name of a kind of warp, or of a region, or what a cell keeps; a truth value; the list of the
-- regions; a whole number, which is between two, odd and between two, from that of another key of
-- the object on, a column or a row of the grid, or so many of them as are left from another key's
-- on; nine numbers, nine that are nearly a rotation, two for each node of a mesh, or two for each
-- corner of an outline, each between two.
pub data Form : Type 0 where
  object : Form
  warps : Form
  kind : Form
  name : Form
  keep : Form
  truth : Form
  regions : Form
  between : ℤ → ℤ → Form
  odd : ℤ → ℤ → Form
  from : List ℕ → ℤ → Form
  column : Form
  line : Form
  columns_from : List ℕ → Form
  lines_from : List ℕ → Form
  matrix : ℤ → ℤ → Form
  rotation : ℤ → ℤ → Form
  nodes : ℤ → ℤ → Form
  corners : ℤ → ℤ → Form

-- whether a key has to be there: always, never, where another key stands in the object, or either
-- of two, or in the sides of one kind or the objects from one version on, to which alone it is
-- given, or never there either
pub data Presence : Type 0 where
  required : Presence
  optional : Presence
  with : List ℕ → Presence
  with_either : List ℕ → List ℕ → Presence
  of_kind : List ℕ → Presence
  since : ℕ → Presence
  optional_since : ℕ → Presence

-- a key's number, the number of the object that has it, its name there, its path as it is printed
-- (of a region's what follows the place in the list), and what is asked of it
pub record Row : Type 0 where
  pub number : ℕ
  pub object : ℕ
  pub name : List ℕ
  pub path : List ℕ
  pub form : Form
  pub presence : Presence

abbrev pub form_meant : CodeForm → Form
form_meant code.Object = object
form_meant code.Warps = warps
form_meant code.Kind = kind
form_meant code.Name = name
form_meant code.Keep = keep
form_meant code.Truth = truth
form_meant code.Regions = regions
form_meant (code.Between low high) = between low high
form_meant (code.Odd low high) = odd low high
form_meant (code.From key high) = from key.now high
form_meant code.Column = column
form_meant code.Line = line
form_meant (code.ColumnsFrom key) = columns_from key.now
form_meant (code.LinesFrom key) = lines_from key.now
form_meant (code.Matrix low high) = matrix low high
form_meant (code.Rotation low high) = rotation low high
form_meant (code.Nodes low high) = nodes low high
form_meant (code.Corners low high) = corners low high

abbrev pub presence_meant : CodePresence → Presence
presence_meant code_presence.Required = required
presence_meant code_presence.Optional = optional
presence_meant (code_presence.With key) = with key.now
presence_meant (code_presence.WithEither key other) = with_either key.now other.now
presence_meant (code_presence.OfKind key) = of_kind key.now
presence_meant (code_presence.Since version) = since version
presence_meant (code_presence.OptionalSince version) = optional_since version

-- the row that a row of the code is
abbrev pub meant : CodeRow → Row
meant row = record {
  number = row.number;
  object = row.object;
  name = row.name.now;
  path = row.path.now;
  form = form_meant row.form;
  presence = presence_meant row.presence;
}

-- the key that a row is at a place
abbrev pub key_at : Place → Row → Key
key_at place row = record { number = row.number + place.shift; index = place.index }

-- ---- values

-- the whole number that a value is: a JSON number whose `as_i64` gives one
abbrev pub whole : Data → Option ℤ
whole d = option_and_then as_i64 (as_number d)

-- the whole number under a name of an object, and 0 where there is none
abbrev pub whole_at : List ℕ → Data → ℤ
whole_at key d = unwrap_or (option_and_then whole (get key d)) (pos 0)

-- the whole number of a key in its object
abbrev pub number_of : Row → Data → ℤ
number_of row d = whole_at row.name d

-- the number of a key that isn't negative
abbrev pub count_of : Row → Data → ℕ
count_of row d = unsigned_abs (number_of row d)

-- whether a number fits a count, which has 32 bits
abbrev pub IsCount : ℤ → Type 0
IsCount z = IsFromTo (pos 0) (pos 4294967295) z

-- the truth value under a name of an object, and false where there is none
abbrev pub truth_at : List ℕ → Data → Bool
truth_at key d = unwrap_or (option_and_then as_bool (get key d)) false

-- the truth value of a key in its object
abbrev pub truth_of : Row → Data → Bool
truth_of row d = truth_at row.name d

-- ---- ranges of numbers; some rest on the object that has the key

abbrev pub least : Form → Data → ℤ
least (between low high) d = low
least (odd low high) d = low
least (from key high) d = whole_at key d
least (matrix low high) d = low
least (rotation low high) d = low
least (nodes low high) d = low
least (corners low high) d = low
least column d = pos 0
least line d = pos 0
least _ d = pos 1

abbrev pub greatest : Form → Place → Data → ℤ
greatest (between low high) place d = high
greatest (odd low high) place d = high
greatest (from key high) place d = high
greatest (matrix low high) place d = high
greatest (rotation low high) place d = high
greatest (nodes low high) place d = high
greatest (corners low high) place d = high
greatest column place d = pos place.cols -ℤ pos 1
greatest line place d = pos place.rows -ℤ pos 1
greatest (columns_from key) place d = pos place.cols -ℤ whole_at key d
greatest (lines_from key) place d = pos place.rows -ℤ whole_at key d
greatest _ place d = pos 0

abbrev pub has_parity : Form → ℤ → Bool
has_parity (odd low high) z = unsigned_abs z % 2 == 1
has_parity _ z = true

abbrev pub is_in_range : Form → Place → Data → ℤ → Bool
is_in_range form place d z =
    int_le (least form d) z && int_le z (greatest form place d) && has_parity form z

-- ---- presence

-- whether a key has to be there, where its object is as given
abbrev pub is_required : Presence → Data → Bool
is_required required d = true
is_required optional d = false
is_required (with key) d = is_some (get key d)
is_required (with_either key other) d = is_some (get key d) || is_some (get other d)
is_required (of_kind key) d = true
is_required (since version) d = true
is_required (optional_since version) d = false

abbrev pub is_side_of : List ℕ → Sort → Bool
is_side_of key (Side side) = bytes_eq key (kind_name side)
is_side_of key _ = false

-- whether an object of that sort goes by that version or a later one
abbrev pub is_since : ℕ → Sort → Bool
is_since first (Version version) = nat_le first version
is_since first _ = false

-- whether an object of that sort is given the key
abbrev pub is_given : Presence → Sort → Bool
is_given (of_kind key) sort = is_side_of key sort
is_given (since version) sort = is_since version sort
is_given (optional_since version) sort = is_since version sort
is_given _ sort = true
