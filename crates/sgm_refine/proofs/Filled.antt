-- The value of a pixel of the filled map, case by case.
use Rattle.std.proofs.Common.{◌≡◌, ℕ, ◌+◌, ◌*◌, ◌/◌, ◌%◌, ◌<◌, ◌∙◌, List, length, get_or, arith, Bool, true, false, Option, Some, None, sym, ap}
use Rattle.std.specs.Prelude.{is_some, option_and_then}
use Rattle.std.specs.Option.{option_or}
use Rattle.std.proofs.lemmas.List.FromFn.{fill_by_all}
use Rattle.std.proofs.lemmas.Nat.{mod_below, div_below}
use Rattle.sgm_base.specs.Values.{Values, value_at, values_of, row_by_row}
use Rattle.sgm_energy.specs.Rays.{Pixel}
use Rattle.sgm_refine.specs.Filling.{filled_value, filling}
use Rattle.sgm_refine.specs.Met.{HoldRows}

pub filled_own : (m left : Values) (mismatched : Bool) (p : Pixel) (own : Option ℕ) → own ≡ value_at m p.x p.y → is_some own ≡ true → own ≡ filled_value m left mismatched p
unfolding filled_value
filled_own m left mismatched p None e t = absurd (cc)
filled_own m left mismatched p (Some v) e t = ap (λ o. option_or o (option_and_then (λ _. filling m mismatched p) (value_at left p.x p.y))) e

pub filled_void : (m left : Values) (mismatched : Bool) (p : Pixel) (own : Option ℕ) → own ≡ value_at m p.x p.y → is_some own ≡ false → value_at left p.x p.y ≡ None → None ≡ filled_value m left mismatched p
unfolding filled_value
filled_void m left mismatched p (Some v) e t n = absurd (cc)
filled_void m left mismatched p None e t n =
    sym (ap (λ o. option_or None (option_and_then (λ _. filling m mismatched p) o)) n)
    ∙ ap (λ o. option_or o (option_and_then (λ _. filling m mismatched p) (value_at left p.x p.y))) e

pub filled_met : (m left : Values) (mismatched : Bool) (p : Pixel) (own : Option ℕ) (there : ℕ) → own ≡ value_at m p.x p.y → is_some own ≡ false → value_at left p.x p.y ≡ Some there
    → filling m mismatched p ≡ filled_value m left mismatched p
unfolding filled_value
filled_met m left mismatched p (Some v) there e t n = absurd (cc)
filled_met m left mismatched p None there e t n =
    sym (ap (λ o. option_or None (option_and_then (λ _. filling m mismatched p) o)) n)
    ∙ ap (λ o. option_or o (option_and_then (λ _. filling m mismatched p) (value_at left p.x p.y))) e

-- entries that hold these values are those of the filled map
pub map_is : (f : ℕ → ℕ → Option ℕ) (width height w h : ℕ) (entries xs : List (Option ℕ)) → w ≡ width → h ≡ height → 0 < width → entries ≡ xs → length xs ≡ width * height
    → HoldRows width f height xs → values_of w h entries ≡ values_of width height (row_by_row width height f)
unfolding row_by_row
map_is f width height w h entries xs ew eh some ex full held =
    ap (λ n. values_of n h entries) ew ∙ ap (λ n. values_of width n entries) eh
    ∙ ap (values_of width height) (ex ∙ fill_by_all (λ k. f (k % width) (k / width)) xs (width * height) None full
    (λ k l. let at : k ≡ k / width * width + k % width = omega arith in
    ap (λ j. get_or xs j None) at ∙ held (k / width) (k % width) (div_below k width height some (omega arith)) (mod_below k width some)))
