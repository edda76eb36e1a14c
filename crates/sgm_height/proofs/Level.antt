-- What a pose whose axes are those of the site's frame does to points.
use Rattle.std.proofs.Common.{◌≡◌, ◌^◌, Bool, true, if◌then◌else◌, Option, Some, None, ℤ, pos, negsuc, ◌+ℤ◌, ◌*ℤ◌, ap, ◌∙◌, arith, refl}
use Rattle.std.specs.Int.{int_div_euclid}
use Rattle.std.proofs.lemmas.Int.{ints}
use Rattle.sgm_base.specs.Ranges.{Within}
use Rattle.sgm_base.specs.Rounding.{rounded}
use Rattle.sgm_base.specs.declared.point.Point.{Point}
use Rattle.sgm_height.specs.Laws.{unturned}
use Rattle.sgm_height.specs.Pose.{is_level, moved, site_point}
use Rattle.sgm_height.proofs.Points.{point}

-- the quotient of a whole number of units and half a unit
whole_units : (t z : ℤ) → t ≡ (pos (2 ^ 31) *ℤ z) +ℤ pos (2 ^ 30) → int_div_euclid t (pos (2 ^ 31)) ≡ z
whole_units (pos n) z e = omega (arith, ints, e)
whole_units (negsuc n) z e = omega (arith, ints, e)

along_first : (x y h : ℤ) → rounded (((pos (2 ^ 30) *ℤ x) +ℤ (pos 0 *ℤ y)) +ℤ (pos 0 *ℤ h)) (pos (2 ^ 30)) ≡ x
along_first x y h = whole_units _ x (omega (arith, ints))

along_second : (x y h : ℤ) → rounded (((pos 0 *ℤ x) +ℤ (pos (2 ^ 30) *ℤ y)) +ℤ (pos 0 *ℤ h)) (pos (2 ^ 30)) ≡ y
along_second x y h = whole_units _ y (omega (arith, ints))

along_third : (x y h : ℤ) → rounded (((pos 0 *ℤ x) +ℤ (pos 0 *ℤ y)) +ℤ (pos (2 ^ 30) *ℤ h)) (pos (2 ^ 30)) ≡ h
along_third x y h = whole_units _ h (omega (arith, ints))

moved_by : (s a z : ℤ) → a ≡ z → s +ℤ a ≡ z +ℤ s
moved_by s a z e = omega (arith, ints, e)

pub only_moved : (east north up : ℤ) (p : Point) → moved (unturned east north up) p ≡ point (p.x +ℤ east) (p.y +ℤ north) (p.h +ℤ up)
unfolding moved
only_moved east north up p =
    let first = moved_by east _ _ (along_first p.x p.y p.h) in
    let second = moved_by north _ _ (along_second p.x p.y p.h) in
    let third = moved_by up _ _ (along_third p.x p.y p.h) in
    cc

unmoved : (z : ℤ) → z +ℤ pos 0 ≡ z
unmoved z = omega (arith, ints)

stays : (p : Point) → moved (unturned (pos 0) (pos 0) (pos 0)) p ≡ p
stays p =
    let x = unmoved p.x in let y = unmoved p.y in let h = unmoved p.h in
    let same : point (p.x +ℤ pos 0) (p.y +ℤ pos 0) (p.h +ℤ pos 0) ≡ point p.x p.y p.h = cc in
    only_moved (pos 0) (pos 0) (pos 0) p ∙ same

level_is : (z : ℤ) → Within 2000000000 z → is_level z ≡ true
level_is z h = grind (arith, ints)

level_some : (level : Bool) (p : Option Point) → level ≡ true → (if level then p else None) ≡ p
level_some level p e = rw e refl

pub at_rest : (p : Point) → Within 2000000000 p.h → site_point (unturned (pos 0) (pos 0) (pos 0)) p ≡ Some p
at_rest p h =
    ap (λ (q : Point). if is_level q.h then Some q else None) (stays p) ∙ level_some (is_level p.h) (Some p) (level_is p.h h)
