-- What is met from a pixel follows from what is met from the one before.
use Rattle.std.proofs.Common.{◌≡◌, ℕ, ◌+◌, ◌-◌, ◌*◌, ◌<◌, ◌≤◌, ◌∙◌, Bool, true, false, ltb, cond, ◌&&◌, List, [], ◌∷◌, ◌++◌, drop, get_or, Option, Some, None, refl, sym, ap, arith}
use Rattle.std.specs.Option.{option_or}
use Rattle.std.proofs.lemmas.Bool.{lt-ltb}
use Rattle.std.proofs.lemmas.List.{get_or-take, get_or-drop}
use Rattle.sgm_base.specs.Values.{Values, row_of, value_at}
use Rattle.sgm_energy.specs.declared.dir.Dir.{Dir}
use Rattle.sgm_energy.specs.declared.dir.Dir.TheVariants.{Right, Left}
use Rattle.sgm_energy.specs.Dirs.{offset}
use Rattle.sgm_energy.specs.Rays.{Pixel, pixel_at, column_before, row_before, predecessor, before}
use Rattle.sgm_energy.proofs.RayLemmas.{minus_zero, minus_one, minus_one_none, minus_up, minus_up_none, minus_small, predecessor_is, no_column, before_first, before_next, before_last}
use Rattle.sgm_refine.specs.Filling.{pixels_of, last_value, met_from}
use Rattle.sgm_refine.specs.Met.{carried_from, HoldsMet}

or_none : (o : Option ℕ) → option_or o None ≡ o
or_none None = refl
or_none (Some v) = refl

or_assoc : (a b c : Option ℕ) → option_or (option_or a b) c ≡ option_or a (option_or b c)
or_assoc None b c = refl
or_assoc (Some v) b c = refl

-- the last of one pixel more
last_value-push : (m : Values) (ps : List Pixel) (q : Pixel) → last_value m (ps ++ q ∷ []) ≡ option_or (value_at m q.x q.y) (last_value m ps)
unfolding last_value
last_value-push m [] q = sym (or_none (value_at m q.x q.y))
last_value-push m (p ∷ ps) q =
    ap (λ o. option_or o (value_at m p.x p.y)) (last_value-push m ps q)
    ∙ or_assoc (value_at m q.x q.y) (last_value m ps) (value_at m p.x p.y)

pub met_first : (m : Values) (dir : Dir) (p : Pixel) → predecessor (pixels_of m) dir p ≡ None → met_from m p dir ≡ None
unfolding met_from last_value
met_first m dir p e = ap (last_value m) (before_first (pixels_of m) dir p e)

pub met_next : (m : Values) (dir : Dir) (p q : Pixel) → predecessor (pixels_of m) dir p ≡ Some q → met_from m p dir ≡ option_or (value_at m q.x q.y) (met_from m q dir)
unfolding met_from
met_next m dir p q e =
    ap (last_value m) (before_next (pixels_of m) dir p q e ∙ sym (before_last (pixels_of m) dir q))
    ∙ last_value-push m (before (pixels_of m) dir q) q

allowed : (a b : Bool) (u d : Option ℕ) → a ≡ true → b ≡ true → cond (a && b) u d ≡ u
allowed true true u d e f = refl
allowed true false u d e f = absurd (cc)
allowed false b u d e f = absurd (cc)

-- the value of a column of a row
pub row_value : (m : Values) (x y : ℕ) → x < m.width → y < m.height → get_or (row_of m y) x None ≡ value_at m x y
row_value m x y hx hy =
    get_or-take m.width (drop (y * m.width) m.entries) x None hx
    ∙ get_or-drop (y * m.width) m.entries x None
    ∙ sym (allowed (ltb x m.width) (ltb y m.height) (get_or m.entries (y * m.width + x) None) None (lt-ltb x m.width hx) (lt-ltb y m.height hy))

-- the values of a row, and what is met from its pixels, give what is met from those of the row that comes next
pub carried_met : (m : Values) (dir : Dir) (x y from : ℕ) (values carried : List (Option ℕ)) → row_before dir m.height y ≡ Some from → from < m.height → values ≡ row_of m from
    → HoldsMet m dir from carried → x < m.width → carried_from values carried (column_before dir m.width x) ≡ met_from m (pixel_at x y) dir
carried_met m dir x y from values carried er hf ev h hx = at (column_before dir m.width x) refl
  where
    at : (o : Option ℕ) → column_before dir m.width x ≡ o → carried_from values carried o ≡ met_from m (pixel_at x y) dir
    at None e = sym (met_first m dir (pixel_at x y) (no_column (pixels_of m) dir (pixel_at x y) e))
    at (Some q) e =
        let hq : q < m.width = minus_small m.width x q (offset dir).0 e in
        ap (λ o. option_or o (get_or carried q None)) (ap (λ vs. get_or vs q None) ev ∙ row_value m q from hq hf)
        ∙ ap (option_or (value_at m q from)) (h q hq)
        ∙ sym (met_next m dir (pixel_at x y) (pixel_at q from) (predecessor_is (pixels_of m) dir (pixel_at x y) (pixel_at q from) (record { across = e; down = er })))

-- ---- along a row
pub right_first : (m : Values) (x y : ℕ) → x ≡ 0 → met_from m (pixel_at x y) Right ≡ None
right_first m x y e = met_first m Right (pixel_at x y) (no_column (pixels_of m) Right (pixel_at x y) (minus_one_none m.width x e))

pub right_next : (m : Values) (x y : ℕ) (values : List (Option ℕ)) → x + 1 < m.width → y < m.height → values ≡ row_of m y
    → option_or (get_or values x None) (met_from m (pixel_at x y) Right) ≡ met_from m (pixel_at (x + 1) y) Right
right_next m x y values hx hy ev =
    let back : x + 1 - 1 ≡ x = omega arith in
    let across : column_before Right m.width (x + 1) ≡ Some x = minus_one m.width (x + 1) (omega arith) (omega arith) ∙ ap (λ n. Some n) back in
    ap (λ o. option_or o (met_from m (pixel_at x y) Right)) (ap (λ vs. get_or vs x None) ev ∙ row_value m x y (omega arith) hy)
    ∙ sym (met_next m Right (pixel_at (x + 1) y) (pixel_at x y) (predecessor_is (pixels_of m) Right (pixel_at (x + 1) y) (pixel_at x y) (record { across = across; down = minus_zero m.height y hy })))

pub left_first : (m : Values) (x y : ℕ) → m.width ≤ x + 1 → met_from m (pixel_at x y) Left ≡ None
left_first m x y e = met_first m Left (pixel_at x y) (no_column (pixels_of m) Left (pixel_at x y) (minus_up_none m.width x e))

pub left_next : (m : Values) (x z y : ℕ) (values : List (Option ℕ)) → z ≡ x + 1 → z < m.width → y < m.height → values ≡ row_of m y
    → option_or (get_or values z None) (met_from m (pixel_at z y) Left) ≡ met_from m (pixel_at x y) Left
left_next m x z y values ez hz hy ev =
    let across : column_before Left m.width x ≡ Some z = minus_up m.width x (omega arith) ∙ ap (λ n. Some n) (sym ez) in
    ap (λ o. option_or o (met_from m (pixel_at z y) Left)) (ap (λ vs. get_or vs z None) ev ∙ row_value m z y hz hy)
    ∙ sym (met_next m Left (pixel_at x y) (pixel_at z y) (predecessor_is (pixels_of m) Left (pixel_at x y) (pixel_at z y) (record { across = across; down = minus_zero m.height y hy })))
