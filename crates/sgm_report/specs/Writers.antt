-- What is known of the csv writer between two rows.
use Rattle.std.specs.Prelude.{◌≡◌, ℕ, ◌==◌, false, List, ◌++◌, ◌∷◌, flat_map, Vec, IsTrue}
use Rattle.std.specs.Prelude.{if◌then◌else◌}
use Rattle.std.specs.List.{list_all}
use Rattle.std.specs.declared.alloc.Global.{Global}
use Rattle.csv.specs.Writing.{default_writer, fields_written, has_written, writer_pending}
use Rattle.csv.specs.Writing.{writer_setup, writer_under}
use Rattle.csv.specs.declared.writer.Writer.{Writer}
use Rattle.sgm_report.specs.Areas.{is_name_byte}

-- a writer as it is made, which has begun no row
pub record IsBetweenRows (writer : Writer (Vec ℕ Global)) : Type 0 where
  pub setup : writer_setup writer ≡ default_writer
  pub no_field : fields_written writer ≡ 0
  pub no_byte : has_written writer ≡ false

-- all that was written
abbrev pub text_of : Writer (Vec ℕ Global) → List ℕ
text_of writer = (writer_under writer).items ++ writer_pending writer

-- a field of bytes that may stand in a region's name, which needs no quotes
abbrev pub IsPlain : List ℕ → Type 0
IsPlain field = IsTrue (list_all is_name_byte field)

-- what a field adds to a row that has that many: a comma, but at the front, and the field
abbrev pub next_field : ℕ → List ℕ → List ℕ
next_field count field = if count == 0 then field else 44 ∷ field

-- what fields add to a row that has some: a comma before each
abbrev pub later_fields : List (List ℕ) → List ℕ
later_fields fields = flat_map (λ field. 44 ∷ field) fields
