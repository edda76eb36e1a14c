-- No value of a refined map is above those of the map.
use Rattle.std.proofs.Common.{ℕ, ◌+◌, ◌*◌, ◌/◌, ◌%◌, ◌≤◌, Bool, leb, ltb, ◌&&◌, List, [], ◌∷◌, length, map, Option, Some, None, IfSome, sym, subst, inl, inr, get_or, option_and_then, ℤ}
use Rattle.std.specs.List.{All, find, flat_map, range_with_len}
use Rattle.std.specs.Option.{option_or, option_to_list}
use Rattle.std.proofs.lemmas.Bool.{cases_lt, cond_both}
use Rattle.std.proofs.lemmas.List.{get_or_past}
use Rattle.std.proofs.lemmas.List.Elements.{All-nil, All-cons, All-head, All-tail, All-append, All-map}
use Rattle.sgm_base.specs.Values.{Values, AtMost, value_at, row_by_row}
use Rattle.sgm_energy.specs.Dirs.{directions}
use Rattle.sgm_energy.specs.Rays.{Pixel, pixel_at, before}
use Rattle.sgm_refine.specs.Filling.{last_value, met_from, is_ranked, ranked, met, entry_taken, is_mismatched, filling, filled_value, filled, pixels_of}
use Rattle.sgm_refine.specs.Refined.{refined}
use Rattle.sgm_base.specs.Refining.{Refining}
use Rattle.sgm_refine.specs.Segments.{places, value_of, segment, kept_at, kept}

-- no value above most
abbrev Low : ℕ → Option ℕ → Type 0
Low most entry = IfSome entry (λ value. value ≤ most)

entry_low : (most : ℕ) (es : List (Option ℕ)) (k : ℕ) → AtMost most es → Low most (get_or es k None)
entry_low most es k h = elim (cases_lt k (length es)) [
  | inl l ↦ h k None l
  | inr l ↦ subst (Low most) (sym (get_or_past es k None l)) tt
]

kept_low : (w : ℕ) (es : List (Option ℕ)) (least most k : ℕ) → AtMost most es → Low most (kept_at w es least k)
unfolding kept_at
kept_low w es least most k h =
    cond_both (leb least (length (segment w es k))) (value_of es k) None (Low most) (λ e. entry_low most es k h) (λ e. tt)

pub kept_most : (m : Values) (least most : ℕ) → AtMost most m.entries → AtMost most (kept m least).entries
unfolding kept
kept_most m least most h =
    All-map (Low most) (kept_at m.width m.entries least) (places m.entries) (λ k d l. kept_low m.width m.entries least most (get_or (places m.entries) k d) h)

-- ---- the values that are met

value_low : (most : ℕ) (m : Values) (x y : ℕ) → AtMost most m.entries → Low most (value_at m x y)
value_low most m x y h =
    cond_both (ltb x m.width && ltb y m.height) (get_or m.entries (y * m.width + x) None) None (Low most) (λ e. entry_low most m.entries (y * m.width + x) h) (λ e. tt)

or_low : (most : ℕ) (a b : Option ℕ) → Low most a → Low most b → Low most (option_or a b)
or_low most None b g h = h
or_low most (Some a) b g h = g

last_low : (most : ℕ) (m : Values) (ps : List Pixel) → AtMost most m.entries → Low most (last_value m ps)
unfolding last_value
last_low most m [] h = tt
last_low most m (p ∷ ps) h = or_low most (last_value m ps) (value_at m p.x p.y) (last_low most m ps h) (value_low most m p.x p.y h)

list_low : (most : ℕ) (entry : Option ℕ) → Low most entry → All (λ v. v ≤ most) (option_to_list entry)
list_low most None h = All-nil (λ v. v ≤ most)
list_low most (Some v) h = All-cons (λ x. x ≤ most) v [] h (All-nil (λ x. x ≤ most))

met_low : {X : Type 0} (most : ℕ) (f : X → Option ℕ) (xs : List X) → ((x : X) → Low most (f x)) → All (λ v. v ≤ most) (flat_map option_to_list (map f xs))
met_low most f [] h = All-nil (λ v. v ≤ most)
met_low most f (x ∷ xs) h =
    All-append (λ v. v ≤ most) (option_to_list (f x)) (flat_map option_to_list (map f xs)) (list_low most (f x) (h x)) (met_low most f xs h)

find_low : (most : ℕ) (p : ℕ → Bool) (xs : List ℕ) → All (λ v. v ≤ most) xs → Low most (find p xs)
find_low most p [] all = tt
find_low most p (x ∷ xs) all =
    cond_both (p x) (Some x) (find p xs) (Low most) (λ e. All-head (λ v. v ≤ most) x xs all) (λ e. find_low most p xs (All-tail (λ v. v ≤ most) x xs all))

ranked_low : (most : ℕ) (xs : List ℕ) (n : ℕ) → All (λ v. v ≤ most) xs → Low most (ranked xs n)
unfolding ranked
ranked_low most xs n all = find_low most (is_ranked xs n) xs all

from_low : (most : ℕ) (m : Values) (p : Pixel) → AtMost most m.entries → All (λ v. v ≤ most) (met m p)
unfolding met met_from
from_low most m p h =
    met_low most (met_from m p) directions (λ dir. last_low most m (before (pixels_of m) dir p) h)

then_low : (most : ℕ) (left value : Option ℕ) → Low most value → Low most (option_and_then (λ _. value) left)
then_low most None value h = tt
then_low most (Some x) value h = h

filled_low : (most : ℕ) (m left : Values) (is_mismatch : Bool) (p : Pixel) → AtMost most m.entries → Low most (filled_value m left is_mismatch p)
unfolding filled_value
filled_low most m left is_mismatch p h =
    or_low most (value_at m p.x p.y) (option_and_then (λ _. filling m is_mismatch p) (value_at left p.x p.y)) (value_low most m p.x p.y h)
    (then_low most (value_at left p.x p.y) (filling m is_mismatch p) (ranked_low most (met m p) (entry_taken is_mismatch (length (met m p))) (from_low most m p h)))

pub filled_most : (m matches left : Values) (first : ℤ) (count most : ℕ) → AtMost most m.entries → AtMost most (filled m matches left first count).entries
unfolding row_by_row
filled_most m matches left first count most h =
    let value : ℕ → Option ℕ = λ k. (let p : Pixel = pixel_at (k % m.width) (k / m.width) in filled_value m left (is_mismatched matches first count p) p) in
    All-map (Low most) value (range_with_len 0 (m.width * m.height))
    (λ k d l. (let n : ℕ = get_or (range_with_len 0 (m.width * m.height)) k d in
    let p : Pixel = pixel_at (n % m.width) (n / m.width) in filled_low most m left (is_mismatched matches first count p) p h))

pub refined_most : (m matches left : Values) (first : ℤ) (count most : ℕ) (refine : Refining) → AtMost most m.entries → AtMost most (refined m matches left first count refine).entries
refined_most m matches left first count most refine h =
    cond_both refine.fill (filled (kept m refine.peak) matches left first count) (kept m refine.peak) (λ (v : Values). AtMost most v.entries)
    (λ e. filled_most (kept m refine.peak) matches left first count most (kept_most m refine.peak most h)) (λ e. kept_most m refine.peak most h)
