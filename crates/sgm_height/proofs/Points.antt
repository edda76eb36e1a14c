-- From what the code computes in 64 bits to the definition of a point.
use Rattle.std.proofs.Common.{◌≡◌, ℕ, ◌<◌, Bool, true, false, ◌&&◌, if◌then◌else◌, Option, Some, None, ℤ, pos, ◌+ℤ◌, ◌-ℤ◌, ◌*ℤ◌, int_lt, int_le, arith, refl, sym, ap, ◌∙◌, FitsSigned, w32, w64, to_z, of_z}
use Rattle.std.specs.Int.Signed.{lt_z, le_z}
use Rattle.std.proofs.lemmas.Int.{ints, to_z-of_z}
use Rattle.sgm_base.specs.Rounding.{rounded}
use Rattle.sgm_base.specs.declared.point.Point.{Point}
use Rattle.sgm_height.specs.declared.camera.Camera.{Camera}
use Rattle.sgm_height.specs.Camera.{depth_of, placed, shift_of, point_with, point_of}
use Rattle.sgm_base.specs.Ranges.{Within}

-- a point of those coordinates
abbrev pub point : ℤ → ℤ → ℤ → Point
point x y h = record { x = x; y = y; h = h }

not_below : (a b : ℤ) → lt_z a b ≡ false → int_le b a ≡ true
not_below a b e = grind (arith, ints)

is_below : (a b : ℤ) → lt_z a b ≡ true → int_le b a ≡ false
is_below a b e = grind (arith, ints)

above_zero : (a : ℤ) → le_z a (pos 0) ≡ false → int_lt (pos 0) a ≡ true
above_zero a e = grind (arith, ints)

pub shifted : (s : ℤ) → FitsSigned w64 s → le_z (to_z w64 (of_z w64 s)) (pos 0) ≡ false → int_lt (pos 0) s ≡ true
shifted s fs e = above_zero s (simp to_z-of_z at e)

not_above_zero : (a : ℤ) → le_z a (pos 0) ≡ true → int_lt (pos 0) a ≡ false
not_above_zero a e = grind (arith, ints)

pub at_least : (a b : ℤ) → FitsSigned w64 a → FitsSigned w64 b → lt_z (to_z w64 (of_z w64 a)) (to_z w64 (of_z w64 b)) ≡ false → int_le b a ≡ true
at_least a b fa fb e = not_below a b (simp to_z-of_z at e)

pub too_small : (a b : ℤ) → FitsSigned w64 a → FitsSigned w64 b → lt_z (to_z w64 (of_z w64 a)) (to_z w64 (of_z w64 b)) ≡ true → int_le b a ≡ false
too_small a b fa fb e = is_below a b (simp to_z-of_z at e)

-- the three quotients, as the code computes what is divided
pub depth_is : (f b s r : ℤ) → FitsSigned w64 f → FitsSigned w64 b → FitsSigned w64 s
    → r ≡ rounded (to_z w64 (of_z w64 f) *ℤ to_z w64 (of_z w64 b)) (to_z w64 (of_z w64 s)) → r ≡ rounded (f *ℤ b) s
depth_is f b s r ff fb fs e = simp to_z-of_z at e

pub east_is : (x : ℕ) (cx b s r : ℤ) → x < 4096 → Within 16777216 cx → FitsSigned w64 b → FitsSigned w64 s
    → r ≡ rounded (to_z w64 (of_z w64 (to_z w64 (of_z w64 (pos 256 *ℤ to_z w64 x)) -ℤ to_z w64 (of_z w64 cx))) *ℤ to_z w64 (of_z w64 b)) (to_z w64 (of_z w64 s))
    → r ≡ rounded (((pos 256 *ℤ pos x) -ℤ cx) *ℤ b) s
east_is x cx b s r hx hc fb fs e =
    let offset : to_z w64 (of_z w64 (to_z w64 (of_z w64 (pos 256 *ℤ to_z w64 x)) -ℤ to_z w64 (of_z w64 cx))) ≡ (pos 256 *ℤ pos x) -ℤ cx = omega (arith, ints, hc.0, hc.1) in
    simp to_z-of_z at (e ∙ ap (λ (t : ℤ). rounded (t *ℤ to_z w64 (of_z w64 b)) (to_z w64 (of_z w64 s))) offset)

pub north_is : (y : ℕ) (cy b s r : ℤ) → y < 4096 → Within 16777216 cy → FitsSigned w64 b → FitsSigned w64 s
    → r ≡ rounded (to_z w64 (of_z w64 (to_z w64 (of_z w64 cy) -ℤ to_z w64 (of_z w64 (pos 256 *ℤ to_z w64 y)))) *ℤ to_z w64 (of_z w64 b)) (to_z w64 (of_z w64 s))
    → r ≡ rounded ((cy -ℤ (pos 256 *ℤ pos y)) *ℤ b) s
north_is y cy b s r hy hc fb fs e =
    let offset : to_z w64 (of_z w64 (to_z w64 (of_z w64 cy) -ℤ to_z w64 (of_z w64 (pos 256 *ℤ to_z w64 y)))) ≡ cy -ℤ (pos 256 *ℤ pos y) = omega (arith, ints, hc.0, hc.1) in
    simp to_z-of_z at (e ∙ ap (λ (t : ℤ). rounded (t *ℤ to_z w64 (of_z w64 b)) (to_z w64 (of_z w64 s))) offset)

pick_some : (p q r : Bool) (v : Option Point) → p ≡ true → q ≡ true → r ≡ true → v ≡ (if p && q && r then v else None)
pick_some p q r v hp hq hr = rw (hp, hq, hr) refl

pick_first : (p q r : Bool) (v : Option Point) → p ≡ false → None ≡ (if p && q && r then v else None)
pick_first p q r v hp = rw hp refl

pick_none : (p q r : Bool) (v : Option Point) → p ≡ true → q ≡ false → None ≡ (if p && q && r then v else None)
pick_none p q r v hp hq = rw (hp, hq) refl

pick_last : (p q r : Bool) (v : Option Point) → p ≡ true → q ≡ true → r ≡ false → None ≡ (if p && q && r then v else None)
pick_last p q r v hp hq hr = rw (hp, hq, hr) refl

pub no_shift : (camera : Camera) (x y : ℕ) (s : ℤ) → FitsSigned w64 s → le_z (to_z w64 (of_z w64 s)) (pos 0) ≡ true → None ≡ point_with camera x y s
no_shift camera x y s fs e = pick_first _ _ _ _ (not_above_zero s (simp to_z-of_z at e))

pub too_near : (camera : Camera) (x y : ℕ) (s depth : ℤ) → depth ≡ depth_of camera s → int_lt (pos 0) s ≡ true → int_le camera.near depth ≡ false
    → None ≡ point_with camera x y s
too_near camera x y s depth e p q = pick_none _ _ _ _ p (ap (int_le camera.near) (sym e) ∙ q)

pub too_far : (camera : Camera) (x y : ℕ) (s depth : ℤ) → depth ≡ depth_of camera s → int_lt (pos 0) s ≡ true → int_le camera.near depth ≡ true → int_le depth camera.far ≡ false
    → None ≡ point_with camera x y s
too_far camera x y s depth e p q r =
    pick_last _ _ _ _ p (ap (int_le camera.near) (sym e) ∙ q) (ap (λ (t : ℤ). int_le t camera.far) (sym e) ∙ r)

pub found : (camera : Camera) (x y : ℕ) (s depth east north high : ℤ) → depth ≡ depth_of camera s
    → east ≡ rounded (((pos 256 *ℤ pos x) -ℤ camera.cx) *ℤ camera.baseline) s
    → north ≡ rounded ((camera.cy -ℤ (pos 256 *ℤ pos y)) *ℤ camera.baseline) s
    → high ≡ camera.mount -ℤ depth
    → int_lt (pos 0) s ≡ true → int_le camera.near depth ≡ true → int_le depth camera.far ≡ true
    → Some (point east north high) ≡ point_with camera x y s
found camera x y s depth east north high e ee en eh p q r =
    let same : Some (point east north high) ≡ Some (placed camera x y s) = cc in
    same ∙ pick_some _ _ _ _ p (ap (int_le camera.near) (sym e) ∙ q) (ap (λ (t : ℤ). int_le t camera.far) (sym e) ∙ r)

pub point_is : (camera : Camera) (x y : ℕ) (d : ℤ) (r : Option Point) → Within 32768 d → Within 16777216 camera.doffs
    → r ≡ point_with camera x y (to_z w64 (of_z w64 (to_z w64 (of_z w64 (pos 16 *ℤ to_z w64 (of_z w64 (to_z w32 (of_z w32 d))))) +ℤ to_z w64 (of_z w64 camera.doffs))))
    → r ≡ point_of camera x y d
point_is camera x y d r hd ho e =
    let shift : to_z w64 (of_z w64 (to_z w64 (of_z w64 (pos 16 *ℤ to_z w64 (of_z w64 (to_z w32 (of_z w32 d))))) +ℤ to_z w64 (of_z w64 camera.doffs))) ≡ shift_of camera d = omega (arith, ints, hd.0, hd.1, ho.0, ho.1) in
    e ∙ ap (point_with camera x y) shift
