-- The table of the regions and their tallies.
use Rattle.std.specs.Prelude.{ℕ, ◌==◌, ℤ, List, [], ◌∷◌, ◌++◌, codes, decimal, flat_map, zip}
use Rattle.std.specs.Prelude.{Option, Some, None, if◌then◌else◌}
use Rattle.std.specs.Fmt.{signed_decimal}
use Rattle.std.specs.List.{join_with_byte}
use Rattle.sgm_text.specs.Texts.{line}
use Rattle.sgm_report.specs.Areas.{Area}
use Rattle.sgm_report.specs.declared.table.Columns.{Columns}
use Rattle.sgm_report.specs.declared.table.Columns.TheVariants.{Plain, Bridged}
use Rattle.sgm_report.specs.declared.volumes.RegionTally.{RegionTally}

-- the line that stands before the regions
abbrev pub head_line : Columns → List ℕ
head_line Plain = line (codes "region,cells,empty,fill,cut,lowest,highest")
head_line Bridged = line (codes "region,cells,bridged,empty,fill,cut,lowest,highest")

-- a height, or nothing where there is none
abbrev pub height_field : Option ℤ → List ℕ
height_field None = []
height_field (Some height) = signed_decimal height

-- the lowest or highest of that many cells: nothing where there are none
abbrev pub end_field : ℕ → Option ℤ → List ℕ
end_field cells height = if cells == 0 then [] else height_field height

-- the field of the bridged cells, where there is a column for it
abbrev pub bridged_field : Columns → RegionTally → List (List ℕ)
bridged_field Plain tally = []
bridged_field Bridged tally = decimal tally.bridged ∷ []

-- what is said of a region, field by field
abbrev pub region_fields : Columns → Area → RegionTally → List (List ℕ)
region_fields columns area tally =
    area.name ∷ decimal tally.cells ∷ bridged_field columns tally
    ++ decimal tally.empty ∷ decimal tally.fill ∷ decimal tally.cut
    ∷ end_field tally.cells tally.lowest ∷ end_field tally.cells tally.highest ∷ []

-- a line: the fields with a comma between each two
abbrev pub fields_line : List (List ℕ) → List ℕ
fields_line fields = line (join_with_byte 44 fields)

-- the head, and a line for each region with its tally, in order
abbrev pub table_text : Columns → List Area → List RegionTally → List ℕ
table_text columns areas tallies =
    head_line columns
    ++ flat_map (λ row. fields_line (region_fields columns row.0 row.1)) (zip areas tallies)
