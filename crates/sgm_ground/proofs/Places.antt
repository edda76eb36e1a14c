-- The places of points, pixel by pixel and row by row.
use Rattle.std.proofs.Common.{◌≡◌, ℕ, ◌+◌, ◌*◌, ◌<◌, ◌≤◌, List, [], ◌∷◌, ◌++◌, length, get_or, Option, Some, None, Vec, Global, Result, Ok, Err, ℤ, refl, sym, ap, subst, ◌∙◌, arith, length-append}
use Rattle.std.specs.Prelude.{IfOk, IfSome, fold, option_and_then, slice_get}
use Rattle.std.specs.Result.{result_ok}
use Rattle.std.specs.List.{cons_option, filter_map, flat_map, range_with_len}
use Rattle.std.proofs.lemmas.List.Elements.{filter_map-append}
use Rattle.std.proofs.lemmas.Option.{slice_get-get_or}
use Rattle.sgm_base.specs.Values.{Values}
use Rattle.sgm_base.specs.declared.point.Point.{Point}
use Rattle.sgm_height.specs.declared.station.Station.{Station}
use Rattle.sgm_grid.specs.declared.grid_spec.GridSpec.{GridSpec}
use Rattle.sgm_grid.specs.declared.placed.Placed.{Placed}
use Rattle.sgm_grid.specs.Binning.{Binned, HasRoom, with_point}
use Rattle.sgm_grid.specs.Placing.{placed, spec_in, with_placed}
use Rattle.sgm_grid.proofs.Placing.{points_placed}
use Rattle.sgm_grid.proofs.Room.{room_for_fewer}
use Rattle.sgm_ground.specs.Heights.{IsPlacedRow, points_of_row}
use Rattle.sgm_ground.proofs.Pointing.{append_none, below_more, rows_more}

-- ---- one pixel more

-- the places of the points that the first pixels show
abbrev pub places_below : GridSpec → (ℕ → Option Point) → ℕ → List Placed
places_below spec f n = filter_map (placed spec) (filter_map f (range_with_len 0 n))

one_place : (spec : GridSpec) (o : Option Point) → filter_map (placed spec) (cons_option o []) ≡ cons_option (option_and_then (placed spec) o) []
one_place spec None = refl
one_place spec (Some p) = refl

places_more : (spec : GridSpec) (f : ℕ → Option Point) (n : ℕ)
    → places_below spec f (n + 1) ≡ places_below spec f n ++ cons_option (option_and_then (placed spec) (f n)) []
places_more spec f n =
    ap (λ xs. filter_map (placed spec) (filter_map f xs)) (below_more n)
    ∙ ap (filter_map (placed spec)) (filter_map-append f (range_with_len 0 n) (n ∷ []))
    ∙ filter_map-append (placed spec) (filter_map f (range_with_len 0 n)) (filter_map f (n ∷ []))
    ∙ ap (λ ys. places_below spec f n ++ ys) (one_place spec (f n))

-- the loop over a row goes on past a pixel whose point falls into the grid, and past another
pub place_some : (spec : GridSpec) (f : ℕ → Option Point) (n : ℕ) (now new : List Placed) (fallen : Placed)
    → now ≡ places_below spec f n → Some fallen ≡ option_and_then (placed spec) (f n) → new ≡ now ++ fallen ∷ []
    → new ≡ places_below spec f (n + 1)
place_some spec f n now new fallen before here is =
    is
    ∙ ap (λ xs. xs ++ fallen ∷ []) before
    ∙ ap (λ o. places_below spec f n ++ cons_option o []) here
    ∙ sym (places_more spec f n)

pub place_none : (spec : GridSpec) (f : ℕ → Option Point) (n : ℕ) (now : List Placed)
    → now ≡ places_below spec f n → None ≡ option_and_then (placed spec) (f n)
    → now ≡ places_below spec f (n + 1)
place_none spec f n now before here =
    before
    ∙ sym (append_none (places_below spec f n))
    ∙ ap (λ o. places_below spec f n ++ cons_option o []) here
    ∙ sym (places_more spec f n)

pub few_more : (places : List Placed) (fallen : Placed) (n : ℕ) → length places ≤ n → length (places ++ fallen ∷ []) ≤ n + 1
few_more places fallen n few = omega (arith, length-append places (fallen ∷ []))

-- what three clauses say of an answer, of the answer or none
pub if_ok_three : {V E : Type 0} {P Q R S : V → Type 0} (r : Result V E) → ((v : V) → P v → Q v → R v → S v)
    → IfOk r P → IfOk r Q → IfOk r R → IfSome (result_ok r) S
if_ok_three (Ok v) f p q s = f v p q s
if_ok_three (Err e) f p q s = tt

-- ---- one height more

-- ---- one row more

-- what is said of each row is said of this one
pub row_held : (station : Station) (spec : GridSpec) (first : ℤ) (map : Values) (rows : List (Vec Placed Global)) (y : ℕ) (row : Vec Placed Global) (places : List Placed)
    → ((y : ℕ) (row : Vec Placed Global) → slice_get rows y ≡ Some row → IsPlacedRow station spec first map y row.items)
    → y < length rows → row ≡ get_or rows y row → places ≡ row.items → IsPlacedRow station spec first map y places
row_held station spec first map rows y row places each inside is same =
    subst (λ (ps : List Placed). IsPlacedRow station spec first map y ps) (sym same)
    (each y row (slice_get-get_or rows y row inside ∙ ap (λ (v : Vec Placed Global). Some v) (sym is)))

pub row_more : (station : Station) (spec : GridSpec) (first : ℤ) (map : Values) (y : ℕ) (start now new : Binned) (places : List Placed)
    → now ≡ fold with_point start (flat_map (points_of_row station first map) (range_with_len 0 y))
    → spec_in now ≡ spec → IsPlacedRow station spec first map y places → new ≡ fold with_placed now places
    → new ≡ fold with_point start (flat_map (points_of_row station first map) (range_with_len 0 (y + 1)))
row_more station spec first map y start now new places before same row is =
    rows_more (points_of_row station first map) y start now new before
    (is
    ∙ ap (fold with_placed now) row.exact
    ∙ ap (λ (s : GridSpec). fold with_placed now (filter_map (placed s) (points_of_row station first map y))) (sym same)
    ∙ points_placed (points_of_row station first map y) now)

-- a row takes no more room than it has pixels
pub room_after_row : (width y n : ℕ) (start now new : Binned) → n ≤ width
    → ((more : ℕ) → HasRoom start (more + y * width) → HasRoom now more)
    → ((more : ℕ) → HasRoom now (more + n) → HasRoom new more)
    → (more : ℕ) → HasRoom start (more + (y + 1) * width) → HasRoom new more
room_after_row width y n start now new few before after more room =
    let next : more + (y + 1) * width ≡ (more + width) + y * width = omega arith in
    let left = before (more + width) (subst (λ (k : ℕ). HasRoom start k) next room) in
    after more (room_for_fewer now (more + width) (more + n) (omega (arith, few)) left)
