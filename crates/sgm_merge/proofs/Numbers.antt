-- What the code works out in 64 bits.
use Rattle.std.proofs.Common.{◌≡◌, ℕ, ◌+◌, ◌-◌, ◌*◌, ◌<◌, ◌≤◌, Bool, true, false, ◌&&◌, nat_eq, nat_lt, nat_le, if◌then◌else◌, Some, None, ℤ, pos, negsuc, ◌+ℤ◌, ◌*ℤ◌, ◌≤ℤ◌, of_z, w64, mul-le-mul, refl, ap, ◌∙◌, arith}
use Rattle.std.specs.Int.{int_div_euclid}
use Rattle.std.specs.Ordering.{int_eq}
use Rattle.std.proofs.lemmas.Bool.{leb-false, leb-true, ltb-false, ltb-true}
use Rattle.std.proofs.lemmas.Bool.Decides.{Decides-eqb, Decides-int_eq, Decides-like, same_from_decides}
use Rattle.std.proofs.lemmas.Int.{ints}
use Rattle.std.proofs.Math.Nat.{div-le_self}
use Rattle.sgm_base.specs.Ranges.{IsFromTo, Within}
use Rattle.sgm_grid.specs.Points.{index_below}
use Rattle.sgm_merge.proofs.Corners.{index_in, index_out}

-- two numbers of which neither is below 0 are the same where their bits are
pub same_bits : (a b : ℤ) → pos 0 ≤ℤ a → pos 0 ≤ℤ b → nat_eq (of_z w64 a) (of_z w64 b) ≡ int_eq a b
same_bits (pos m) (pos n) ha hb =
    same_from_decides _ _ (Decides-eqb m n) (Decides-like (int_eq (pos m) (pos n)) (λ e. omega (arith, ints, e)) (λ e. ap pos e) (Decides-int_eq (pos m) (pos n)))
same_bits (negsuc m) b ha hb = absurd (omega (arith, ints))
same_bits (pos m) (negsuc n) ha hb = absurd (omega (arith, ints))

-- a quotient lies no further from 0 than what is divided
pub divided_near : (t d : ℤ) (m : ℕ) → Within m t → pos 1 ≤ℤ d → Within m (int_div_euclid t d)
divided_near (pos a) (pos b) m h p = (omega (arith, ints, div-le_self a b), omega (arith, ints, div-le_self a b))
divided_near (negsuc a) (pos b) m h p = (omega (arith, ints, div-le_self a b), omega (arith, ints, div-le_self a b))
divided_near (pos a) (negsuc b) m h p = absurd (omega (arith, ints))
divided_near (negsuc a) (negsuc b) m h p = absurd (omega (arith, ints))

-- lines that are shared, and no others
pub line_is : (line first entry_first count entries : ℕ) (z : ℤ)
    → (first ≤ line → line < first + count → (z ≡ pos (line - first + entry_first)) × (line - first + entry_first < entries))
    → (line < first → (m : ℕ) → z ≡ pos m → entries ≤ m)
    → (first + count ≤ line → (m : ℕ) → z ≡ pos m → entries ≤ m)
    → (x y : Bool) → nat_le first line ≡ x → nat_lt line (first + count) ≡ y
    → index_below entries z ≡ (if x && y then Some (line - first + entry_first) else None)
line_is line first entry_first count entries z inside before behind true true ex ey =
    let is = inside (leb-true first line ex) (ltb-true line (first + count) ey) in
    ap (index_below entries) is.0 ∙ index_in (line - first + entry_first) entries is.1
line_is line first entry_first count entries z inside before behind false y ex ey = index_out z entries (before (leb-false first line ex))
line_is line first entry_first count entries z inside before behind true false ex ey = index_out z entries (behind (ltb-false line (first + count) ey))

-- a side is no further away than the widest grid goes
pub side_near : (from cell : ℤ) (line : ℕ) → Within 2000000000 from → IsFromTo (pos 1) (pos 1000000000) cell → line < 4096
    → Within 1000000000000000 (from +ℤ (pos line *ℤ cell)) × Within 1000000000000000 (pos line *ℤ cell)
side_near from (pos k) line hf hc hl =
    let few : line ≤ 4096 = omega arith in
    let short : k ≤ 1000000000 = omega (arith, ints) in
    let product : line * k ≤ 4096 * 1000000000 = mul-le-mul few short in
    ((omega (arith, ints), omega (arith, ints)), (omega (arith, ints), omega (arith, ints)))
side_near from (negsuc k) line hf hc hl = absurd (omega (arith, ints))

-- a test of three parts, the first two of which were tested before
pub all_three : (a b c v r : Bool) → v ≡ (a && b) → v ≡ true → r ≡ c → r ≡ (a && (b && c))
all_three true true c v r is holds last = last
all_three true false c v r is holds last = absurd (cc)
all_three false b c v r is holds last = absurd (cc)

pub not_three : (a b c v : Bool) → v ≡ (a && b) → v ≡ false → v ≡ (a && (b && c))
not_three true true c v is fails = absurd (cc)
not_three true false c v is fails = fails
not_three false b c v is fails = fails

pub first_holds : (a b : Bool) → a ≡ true → b ≡ (a && b)
first_holds true b e = refl
first_holds false b e = absurd (cc)

pub first_fails : (a b v : Bool) → a ≡ false → v ≡ false → v ≡ (a && b)
first_fails true b v e none = absurd (cc)
first_fails false b v e none = none
