-- What is marked of a row of a region.
use Rattle.std.proofs.Common.{◌≡◌, ℕ, ◌+◌, ◌<◌, Bool, true, List, map, Option, None, Some, IfSome, refl, sym, ap, subst, ◌∙◌, arith}
use Rattle.std.specs.Prelude.{replicate}
use Rattle.std.specs.List.{range_with_len}
use Rattle.std.proofs.lemmas.List.{ext_get_or, get_or-replicate, length-replicate}
use Rattle.std.proofs.lemmas.List.FromFn.{get_or-map-range_with_len, length-map-range_with_len}
use Rattle.sgm_grid.specs.declared.grid_spec.GridSpec.{GridSpec}
use Rattle.sgm_report.specs.Areas.{lies_inside}
use Rattle.sgm_report.specs.Outlines.{Corner, IsOutline, centre_east, centre_north, encloses}

-- whether each of some cells of a row lies inside
abbrev pub marks_of : GridSpec → Option (List Corner) → ℕ → ℕ → ℕ → List Bool
marks_of spec outline row col cols =
    map (λ c. lies_inside spec outline c row) (range_with_len col cols)

all_true : (col cols : ℕ) → replicate cols true ≡ map (λ (c : ℕ). true) (range_with_len col cols)
all_true col cols =
    let f : ℕ → Bool = λ (c : ℕ). true in
    ext_get_or true (replicate cols true) (map f (range_with_len col cols))
    (length-replicate cols true ∙ sym (length-map-range_with_len f col cols))
    (λ i lt.
    let within : i < cols = omega (arith, length-replicate cols true) in
    get_or-replicate cols i true true within
    ∙ sym (get_or-map-range_with_len f col cols i (col + i) true within refl))

-- without an outline all cells lie inside
pub none_outside : (spec : GridSpec) (outline : Option (List Corner)) (row col cols many : ℕ)
    (marks : List Bool)
    → outline ≡ None → many ≡ cols
    → marks ≡ replicate many true → marks ≡ marks_of spec outline row col cols
none_outside spec outline row col cols many marks none same is =
    is ∙ ap (λ (n : ℕ). replicate n true) same ∙ all_true col cols
    ∙ ap (λ (o : Option (List Corner)). marks_of spec o row col cols) (sym none)

-- with one, those that it encloses
pub enclosed : (spec : GridSpec) (outline : Option (List Corner)) (corners items : List Corner)
    (row own_col col cols many : ℕ) (marks : List Bool)
    → outline ≡ Some items → corners ≡ items → own_col ≡ col → many ≡ cols
    → marks ≡ map (λ c. encloses corners (centre_east spec c) (centre_north spec row))
    (range_with_len own_col many)
    → marks ≡ marks_of spec outline row col cols
enclosed spec outline corners items row own_col col cols many marks some same same_col same_cols is =
    is ∙ ap (λ (cs : List Corner). marks_of spec (Some cs) row own_col many) same
    ∙ ap (λ (n : ℕ). marks_of spec (Some items) row n many) same_col
    ∙ ap (λ (n : ℕ). marks_of spec (Some items) row col n) same_cols
    ∙ ap (λ (o : Option (List Corner)). marks_of spec o row col cols) (sym some)

-- an outline that there is is one
pub outlined : (outline : Option (List Corner)) (corners items : List Corner)
    → IfSome outline IsOutline → outline ≡ Some items → corners ≡ items
    → IsOutline corners
outlined outline corners items whole some same =
    let of_items : IfSome (Some items) IsOutline =
    subst (λ (o : Option (List Corner)). IfSome o IsOutline) some whole in
    subst IsOutline (sym same) of_items
