-- Where the edges of an outline cross a row of cells' centres.
use Rattle.std.proofs.Common.{◌≡◌, ℕ, ◌+◌, ◌*◌, ◌/◌, ◌^◌, ◌<◌, ◌≤◌, Bool, true, false, not, ◌&&◌, if◌then◌else◌, nat_lt, ℤ, pos, negsuc, ◌+ℤ◌, ◌-ℤ◌, ◌*ℤ◌, ◌≤ℤ◌, ◌<ℤ◌, int_le, int_lt, unsigned_abs, to_z, of_z, w32, w64, FitsSigned, refl, sym, ap, ap₂, ◌∙◌, arith, lit<, mul-le-mul}
use Rattle.std.specs.Int.{int_div_euclid, int_max, int_min, w128}
use Rattle.std.proofs.Math.IntN.{*ℤ_comm}
use Rattle.std.proofs.lemmas.Bool.{false≢true, le-ltb}
use Rattle.std.specs.Cmp.{booleans_Decides}
use mathlib.Core.Bool.{beq}
use borrow.Author.Differences.{up, down}
use Rattle.std.proofs.lemmas.Int.{ints, clamps, by_lt_z, fits_signed_from_abs, fits_signed_mul, unsigned_abs-mul}
use Rattle.std.proofs.Math.Nat.{div-le_self, div-mul-le_self, lt-div-mul-add}
use Rattle.sgm_base.specs.Ranges.{IsFromTo, Within}
use Rattle.sgm_report.specs.Outlines.{Edge, is_reached, passes_east, side_of}

abs_within : (m : ℕ) (z : ℤ) → Within m z → unsigned_abs z ≤ m
abs_within m (pos n) h = omega (arith, ints)
abs_within m (negsuc n) h = omega (arith, ints)

within_abs : (m : ℕ) (z : ℤ) → unsigned_abs z ≤ m → Within m z
within_abs m (pos n) h = (omega (arith, ints), omega (arith, ints))
within_abs m (negsuc n) h = (omega (arith, ints), omega (arith, ints))

-- a product of two bounded numbers
pub product_near : (a b : ℤ) (m n : ℕ) → Within m a → Within n b → Within (m * n) (a *ℤ b)
product_near a b m n ha hb =
    within_abs (m * n) (a *ℤ b) (omega (arith, unsigned_abs-mul a b, mul-le-mul (abs_within m a ha) (abs_within n b hb)))

times_sum : (a b c : ℤ) → a *ℤ (b +ℤ c) ≡ (a *ℤ b) +ℤ (a *ℤ c)
times_sum a b c =
    let e : up (b +ℤ c) + (down b + down c) ≡ down (b +ℤ c) + (up b + up c) = omega (arith, ints) in
    omega (arith, ints, ap (λ (n : ℕ). up a * n) e, ap (λ (n : ℕ). down a * n) e)

times_difference : (a b c : ℤ) → a *ℤ (b -ℤ c) ≡ (a *ℤ b) -ℤ (a *ℤ c)
times_difference a b c =
    let e : up (b -ℤ c) + (down b + up c) ≡ down (b -ℤ c) + (up b + down c) = omega (arith, ints) in
    omega (arith, ints, ap (λ (n : ℕ). up a * n) e, ap (λ (n : ℕ). down a * n) e)

sum_times : (a b c : ℤ) → (a +ℤ b) *ℤ c ≡ (a *ℤ c) +ℤ (b *ℤ c)
sum_times a b c = *ℤ_comm (a +ℤ b) c ∙ times_sum c a b ∙ ap₂ (λ (y z : ℤ). y +ℤ z) (*ℤ_comm c a) (*ℤ_comm c b)

difference_times : (a b c : ℤ) → (a -ℤ b) *ℤ c ≡ (a *ℤ c) -ℤ (b *ℤ c)
difference_times a b c = *ℤ_comm (a -ℤ b) c ∙ times_difference c a b ∙ ap₂ (λ (y z : ℤ). y -ℤ z) (*ℤ_comm c a) (*ℤ_comm c b)

times_twice : (a b : ℤ) → a *ℤ (pos 2 *ℤ b) ≡ pos 2 *ℤ (a *ℤ b)
times_twice a b =
    let e : up (pos 2 *ℤ b) ≡ 2 * up b = omega (arith, ints) in
    let f : down (pos 2 *ℤ b) ≡ 2 * down b = omega (arith, ints) in
    omega (arith, ints, ap (λ (n : ℕ). up a * n) e, ap (λ (n : ℕ). down a * n) e, ap (λ (n : ℕ). up a * n) f, ap (λ (n : ℕ). down a * n) f)

from_0 : (a b : ℤ) → a *ℤ (pos 0 -ℤ b) ≡ pos 0 -ℤ (a *ℤ b)
from_0 a b = omega (arith, ints, times_difference a (pos 0) b)

back : (a b : ℤ) → pos 0 -ℤ ((pos 0 -ℤ a) *ℤ b) ≡ a *ℤ b
back a b = omega (arith, ints, difference_times (pos 0) a b)

-- a product of numbers that aren't negative isn't either
product_from_0 : (a b : ℤ) → pos 0 ≤ℤ a → pos 0 ≤ℤ b → pos 0 ≤ℤ (a *ℤ b)
product_from_0 (pos a) (pos b) ha hb = omega (arith, ints)
product_from_0 (negsuc a) b ha hb = absurd (omega (arith, ints))
product_from_0 (pos a) (negsuc b) ha hb = absurd (omega (arith, ints))

-- a product grows with its first factor
times_more : (a b d : ℤ) → a ≤ℤ b → pos 0 ≤ℤ d → (a *ℤ d) ≤ℤ (b *ℤ d)
times_more a b d h hd = omega (arith, ints, difference_times b a d, product_from_0 (b -ℤ a) d (omega (arith, ints)) hd)

-- between which multiples of the divisor a number lies that is divided
divided_low : (t d : ℤ) → pos 1 ≤ℤ d → (int_div_euclid t d *ℤ d) ≤ℤ t
divided_low (pos a) (pos b) h = omega (arith, ints, div-mul-le_self a b)
divided_low (negsuc a) (pos b) h = omega (arith, ints, lt-div-mul-add {a = a} {b = b} (omega (arith, ints)))
divided_low (pos a) (negsuc b) h = absurd (omega (arith, ints))
divided_low (negsuc a) (negsuc b) h = absurd (omega (arith, ints))

divided_high : (t d : ℤ) → pos 1 ≤ℤ d → t <ℤ ((int_div_euclid t d +ℤ pos 1) *ℤ d)
divided_high (pos a) (pos b) h = omega (arith, ints, lt-div-mul-add {a = a} {b = b} (omega (arith, ints)))
divided_high (negsuc a) (pos b) h = omega (arith, ints, div-mul-le_self a b, sum_times (negsuc (a / b)) (pos 1) (pos b))
divided_high (pos a) (negsuc b) h = absurd (omega (arith, ints))
divided_high (negsuc a) (negsuc b) h = absurd (omega (arith, ints))

-- a quotient lies no further from 0 than what is divided
pub divided_near : (t d : ℤ) (m : ℕ) → Within m t → pos 1 ≤ℤ d → Within m (int_div_euclid t d)
divided_near (pos a) (pos b) m h p = (omega (arith, ints, div-le_self a b), omega (arith, ints, div-le_self a b))
divided_near (negsuc a) (pos b) m h p = (omega (arith, ints, div-le_self a b), omega (arith, ints, div-le_self a b))
divided_near (pos a) (negsuc b) m h p = absurd (omega (arith, ints))
divided_near (negsuc a) (negsuc b) m h p = absurd (omega (arith, ints))

-- a multiple lies below a number if its factor is at most the quotient of the number before that
multiple_below : (i x d : ℤ) → pos 1 ≤ℤ d → i ≤ℤ int_div_euclid (x -ℤ pos 1) d → (i *ℤ d) <ℤ x
multiple_below i x d hd h =
    omega (arith, ints, times_more i (int_div_euclid (x -ℤ pos 1) d) d h (omega (arith, ints)), divided_low (x -ℤ pos 1) d hd)

multiple_above : (i x d : ℤ) → pos 1 ≤ℤ d → int_div_euclid (x -ℤ pos 1) d <ℤ i → x ≤ℤ (i *ℤ d)
multiple_above i x d hd h =
    omega (arith, ints, times_more (int_div_euclid (x -ℤ pos 1) d +ℤ pos 1) i d (omega (arith, ints)) (omega (arith, ints)), divided_high (x -ℤ pos 1) d hd)

-- what the sign of a difference says
pub less_is : (x s : ℤ) → int_lt (pos 0) (x -ℤ s) ≡ int_lt s x
less_is x s = grind (arith, ints)

-- a factor above 0 keeps the sign
scaled_is : (k d : ℤ) → pos 1 ≤ℤ k → int_lt (pos 0) (k *ℤ d) ≡ int_lt (pos 0) d
scaled_is k d h =
    by_lt_z (pos 0) d
    (λ up. let more : pos 0 <ℤ (k *ℤ d) = omega (arith, ints, up, times_more (pos 1) k d h (omega (arith, ints, up))) in grind (arith, ints, up, more))
    (λ down. let less : (k *ℤ d) ≤ℤ pos 0 = omega (arith, ints, times_difference k (pos 0) d, product_from_0 k (pos 0 -ℤ d) (omega (arith, ints, h)) (omega (arith, ints, down))) in grind (arith, ints, down, less))

-- how far a rising edge passes to the east of a place, twice and times its rise, by its southern end and its northern one
abbrev pub passing : (e n f m east north : ℤ) → ℤ
passing e n f m east north = ((pos 2 *ℤ e -ℤ east) *ℤ (m -ℤ n)) +ℤ ((north -ℤ pos 2 *ℤ n) *ℤ (f -ℤ e))

-- the doubled sum of two products, times a doubled number
doubled : (a b r u : ℤ) → ((a *ℤ (pos 2 *ℤ r)) +ℤ (b *ℤ (pos 2 *ℤ u))) *ℤ (pos 2 *ℤ r) ≡ (pos 4 *ℤ r) *ℤ ((a *ℤ r) +ℤ (b *ℤ u))
doubled a b r u =
    let x : ℤ = (a *ℤ r) +ℤ (b *ℤ u) in
    let twice : (a *ℤ (pos 2 *ℤ r)) +ℤ (b *ℤ (pos 2 *ℤ u)) ≡ pos 2 *ℤ x = omega (arith, ints, times_twice a r, times_twice b u) in
    let four : pos 2 *ℤ (pos 2 *ℤ r) ≡ pos 4 *ℤ r = omega (arith, ints) in
    ap (λ (z : ℤ). z *ℤ (pos 2 *ℤ r)) twice
    ∙ *ℤ_comm (pos 2 *ℤ x) (pos 2 *ℤ r)
    ∙ times_twice (pos 2 *ℤ r) x
    ∙ ap (λ (z : ℤ). pos 2 *ℤ z) (*ℤ_comm (pos 2 *ℤ r) x)
    ∙ sym (times_twice x (pos 2 *ℤ r))
    ∙ ap (λ (z : ℤ). x *ℤ z) four
    ∙ *ℤ_comm x (pos 4 *ℤ r)

-- the side of an edge that rises
side_up : (e n f m east north : ℤ) → side_of east north ((e, n), (f, m)) ≡ (pos 4 *ℤ (m -ℤ n)) *ℤ passing e n f m east north
side_up e n f m east north =
    let run : pos 2 *ℤ f -ℤ pos 2 *ℤ e ≡ pos 2 *ℤ (f -ℤ e) = omega (arith, ints) in
    let rise : pos 2 *ℤ m -ℤ pos 2 *ℤ n ≡ pos 2 *ℤ (m -ℤ n) = omega (arith, ints) in
    ap₂ (λ (r u : ℤ). (((pos 2 *ℤ e -ℤ east) *ℤ r) +ℤ ((north -ℤ pos 2 *ℤ n) *ℤ u)) *ℤ r) rise run
    ∙ doubled (pos 2 *ℤ e -ℤ east) (north -ℤ pos 2 *ℤ n) (m -ℤ n) (f -ℤ e)

-- an edge from its other end on passes as far to the west as it passes to the east
turned_back : (a b r u : ℤ) → ((a +ℤ pos 2 *ℤ u) *ℤ r) +ℤ ((b -ℤ pos 2 *ℤ r) *ℤ u) ≡ (a *ℤ r) +ℤ (b *ℤ u)
turned_back a b r u =
    let first : (pos 2 *ℤ u) *ℤ r ≡ pos 2 *ℤ (u *ℤ r) = *ℤ_comm (pos 2 *ℤ u) r ∙ times_twice r u ∙ ap (λ (z : ℤ). pos 2 *ℤ z) (*ℤ_comm r u) in
    let second : (pos 2 *ℤ r) *ℤ u ≡ pos 2 *ℤ (u *ℤ r) = *ℤ_comm (pos 2 *ℤ r) u ∙ times_twice u r in
    omega (arith, ints, sum_times a (pos 2 *ℤ u) r, difference_times b (pos 2 *ℤ r) u, first, second)

passing_back : (e n f m east north : ℤ) → passing f m e n east north ≡ pos 0 -ℤ passing e n f m east north
passing_back e n f m east north =
    let r : ℤ = m -ℤ n in let u : ℤ = f -ℤ e in
    let a : ℤ = pos 2 *ℤ e -ℤ east in let b : ℤ = north -ℤ pos 2 *ℤ n in
    let p : pos 2 *ℤ f -ℤ east ≡ a +ℤ pos 2 *ℤ u = omega (arith, ints) in
    let q : north -ℤ pos 2 *ℤ m ≡ b -ℤ pos 2 *ℤ r = omega (arith, ints) in
    let s : n -ℤ m ≡ pos 0 -ℤ r = omega (arith, ints) in
    let t : e -ℤ f ≡ pos 0 -ℤ u = omega (arith, ints) in
    let left : (pos 2 *ℤ f -ℤ east) *ℤ (n -ℤ m) ≡ pos 0 -ℤ ((a +ℤ pos 2 *ℤ u) *ℤ r) =
    ap₂ (λ (y z : ℤ). y *ℤ z) p s ∙ from_0 (a +ℤ pos 2 *ℤ u) r in
    let right : (north -ℤ pos 2 *ℤ m) *ℤ (e -ℤ f) ≡ pos 0 -ℤ ((b -ℤ pos 2 *ℤ r) *ℤ u) =
    ap₂ (λ (y z : ℤ). y *ℤ z) q t ∙ from_0 (b -ℤ pos 2 *ℤ r) u in
    omega (arith, ints, left, right, turned_back a b r u)

-- the side of an edge that falls
side_down : (e n f m east north : ℤ) → side_of east north ((f, m), (e, n)) ≡ (pos 4 *ℤ (m -ℤ n)) *ℤ passing e n f m east north
side_down e n f m east north =
    let fall : pos 4 *ℤ (n -ℤ m) ≡ pos 0 -ℤ (pos 4 *ℤ (m -ℤ n)) = omega (arith, ints) in
    side_up f m e n east north
    ∙ ap₂ (λ (y z : ℤ). y *ℤ z) fall (passing_back e n f m east north)
    ∙ from_0 (pos 0 -ℤ (pos 4 *ℤ (m -ℤ n))) (passing e n f m east north)
    ∙ back (pos 4 *ℤ (m -ℤ n)) (passing e n f m east north)

-- the number of multiples below
pub below_is : (i count : ℕ) (x d z : ℤ) → pos 1 ≤ℤ d → i < count
    → z ≡ int_max (pos 0) (int_min (int_div_euclid (x -ℤ pos 1) d +ℤ pos 1) (pos count))
    → int_lt (pos i *ℤ d) x ≡ nat_lt i (unsigned_abs z)
below_is i count x d (pos n) hd h is =
    by_lt_z (int_div_euclid (x -ℤ pos 1) d) (pos i)
    (λ above. let no : x ≤ℤ (pos i *ℤ d) = multiple_above (pos i) x d hd above in
    let out : n ≤ i = omega (arith, ints, clamps, is, above) in grind (arith, ints, no, out))
    (λ below. let yes : (pos i *ℤ d) <ℤ x = multiple_below (pos i) x d hd below in
    let in_ : i < n = omega (arith, ints, clamps, is, below, h) in grind (arith, ints, yes, in_))
below_is i count x d (negsuc n) hd h is = absurd (omega (arith, ints, clamps, is))

step_times : (i : ℕ) (cell r : ℤ) → (pos (2 * i) *ℤ cell) *ℤ r ≡ pos i *ℤ ((pos 2 *ℤ cell) *ℤ r)
step_times i cell r =
    let a : up (pos (2 * i) *ℤ cell) ≡ 2 * i * up cell = omega (arith, ints) in
    let b : down (pos (2 * i) *ℤ cell) ≡ 2 * i * down cell = omega (arith, ints) in
    let d : up (pos 2 *ℤ cell) ≡ 2 * up cell = omega (arith, ints) in
    let e : down (pos 2 *ℤ cell) ≡ 2 * down cell = omega (arith, ints) in
    let f : up ((pos 2 *ℤ cell) *ℤ r) ≡ 2 * (up cell * up r + down cell * down r) =
    omega (arith, ints, ap (λ (n : ℕ). n * up r) d, ap (λ (n : ℕ). n * down r) e) in
    let g : down ((pos 2 *ℤ cell) *ℤ r) ≡ 2 * (up cell * down r + down cell * up r) =
    omega (arith, ints, ap (λ (n : ℕ). n * down r) d, ap (λ (n : ℕ). n * up r) e) in
    omega (arith, ints, ap (λ (n : ℕ). n * up r) a, ap (λ (n : ℕ). n * down r) a, ap (λ (n : ℕ). n * up r) b, ap (λ (n : ℕ). n * down r) b, ap (λ (n : ℕ). i * n) f, ap (λ (n : ℕ). i * n) g)

-- how much less far to the east an edge passes of a place that lies that much farther to the east
passing_on : (e n f m east north : ℤ) (i : ℕ) (cell : ℤ) → passing e n f m (east +ℤ (pos (2 * i) *ℤ cell)) north
    ≡ passing e n f m east north -ℤ (pos i *ℤ ((pos 2 *ℤ cell) *ℤ (m -ℤ n)))
passing_on e n f m east north i cell =
    let r : ℤ = m -ℤ n in
    let w : ℤ = pos (2 * i) *ℤ cell in
    let apart : pos 2 *ℤ e -ℤ (east +ℤ w) ≡ (pos 2 *ℤ e -ℤ east) -ℤ w = omega (arith, ints) in
    let first : (pos 2 *ℤ e -ℤ (east +ℤ w)) *ℤ r ≡ ((pos 2 *ℤ e -ℤ east) *ℤ r) -ℤ (w *ℤ r) =
    ap (λ (z : ℤ). z *ℤ r) apart ∙ difference_times (pos 2 *ℤ e -ℤ east) w r in
    omega (arith, ints, first, step_times i cell r)

-- the way to a line of cells, and to the middle of a cell
pub way_near : (line : ℕ) (cell way : ℤ) → line ≤ 4096 → IsFromTo (pos 1) (pos 1000000000) cell
    → way ≡ pos (2 * line + 1) *ℤ to_z w64 (of_z w64 cell) → (way ≡ pos (2 * line + 1) *ℤ cell) × Within 9000000000000 way
way_near line cell way hl hc is =
    let whole : to_z w64 (of_z w64 cell) ≡ cell = omega (arith, ints, hc.0, hc.1) in
    let same : way ≡ pos (2 * line + 1) *ℤ cell = is ∙ ap (λ (z : ℤ). pos (2 * line + 1) *ℤ z) whole in
    let near : Within (8193 * 1000000000) (pos (2 * line + 1) *ℤ cell) =
    product_near (pos (2 * line + 1)) cell 8193 1000000000 (omega (arith, ints, hl), omega (arith, ints, hl)) (omega (arith, ints, hc.0), hc.1) in
    (same, (omega (arith, ints, same, near.0), omega (arith, ints, same, near.1)))

-- a number as the code's 128 bits hold it
abbrev pub held : ℤ → ℤ
held z = to_z w128 (of_z w128 z)

-- how far one end of an edge lies from the other, as the code finds it
pub apart_is : (x y a b : ℤ) → x ≡ to_z w32 (of_z w32 a) → y ≡ to_z w32 (of_z w32 b) → Within 2000000000 a → Within 2000000000 b
    → (held (held x -ℤ held y) ≡ a -ℤ b) × Within 4000000000 (held (held x -ℤ held y))
apart_is x y a b px py ha hb =
    let same : held (held x -ℤ held y) ≡ a -ℤ b = omega (arith, ints, px, py, ha.0, ha.1, hb.0, hb.1) in
    (same, (omega (arith, ints, same, ha.0, hb.1), omega (arith, ints, same, ha.1, hb.0)))

-- how far an end of an edge lies from a doubled place, as the code finds it
pub north_is : (x y a b : ℤ) → x ≡ to_z w64 (of_z w64 a) → y ≡ to_z w32 (of_z w32 b) → Within 10000000000000 a → Within 2000000000 b
    → (held (held x -ℤ held (pos 2 *ℤ held y)) ≡ a -ℤ pos 2 *ℤ b) × Within 20000000000000 (held (held x -ℤ held (pos 2 *ℤ held y)))
north_is x y a b px py ha hb =
    let same : held (held x -ℤ held (pos 2 *ℤ held y)) ≡ a -ℤ pos 2 *ℤ b = omega (arith, ints, px, py, ha.0, ha.1, hb.0, hb.1) in
    (same, (omega (arith, ints, same, ha.0, hb.1), omega (arith, ints, same, ha.1, hb.0)))

pub east_is : (x y a b : ℤ) → x ≡ to_z w32 (of_z w32 a) → y ≡ to_z w64 (of_z w64 b) → Within 2000000000 a → Within 10000000000000 b
    → (held (held (pos 2 *ℤ held x) -ℤ held y) ≡ pos 2 *ℤ a -ℤ b) × Within 20000000000000 (held (held (pos 2 *ℤ held x) -ℤ held y))
east_is x y a b px py ha hb =
    let same : held (held (pos 2 *ℤ held x) -ℤ held y) ≡ pos 2 *ℤ a -ℤ b = omega (arith, ints, px, py, ha.0, ha.1, hb.0, hb.1) in
    (same, (omega (arith, ints, same, ha.0, hb.1), omega (arith, ints, same, ha.1, hb.0)))

-- the products by which the code finds where an edge crosses
pub far_fits : (a b : ℤ) → Within 20000000000000 a → Within 4000000000 b → FitsSigned w128 (a *ℤ b)
far_fits a b ha hb =
    fits_signed_mul w128 a b 20000000000000 4000000000 (abs_within _ a ha) (abs_within _ b hb) (lit< tt)

beyond : 2 ^ 100 < 2 ^ 127
beyond = lit< tt

pub sum_fits : (a b c d : ℤ) → Within 20000000000000 a → Within 4000000000 b → Within 20000000000000 c → Within 4000000000 d
    → FitsSigned w128 (to_z w128 (of_z w128 (a *ℤ b)) +ℤ to_z w128 (of_z w128 (c *ℤ d)))
sum_fits a b c d ha hb hc hd =
    let p = product_near a b _ _ ha hb in let q = product_near c d _ _ hc hd in
    let first : to_z w128 (of_z w128 (a *ℤ b)) ≡ a *ℤ b = omega (arith, ints, p.0, p.1) in
    let second : to_z w128 (of_z w128 (c *ℤ d)) ≡ c *ℤ d = omega (arith, ints, q.0, q.1) in
    let sum : ℤ = to_z w128 (of_z w128 (a *ℤ b)) +ℤ to_z w128 (of_z w128 (c *ℤ d)) in
    let near : Within (2 ^ 100) sum = (omega (arith, ints, first, second, p.0, q.0), omega (arith, ints, first, second, p.1, q.1)) in
    fits_signed_from_abs w128 sum (omega (arith, abs_within (2 ^ 100) sum near, beyond))

pub sum_near : (a b c d : ℤ) → Within 20000000000000 a → Within 4000000000 b → Within 20000000000000 c → Within 4000000000 d
    → Within (2 ^ 100) (to_z w128 (of_z w128 (to_z w128 (of_z w128 (a *ℤ b)) +ℤ to_z w128 (of_z w128 (c *ℤ d)))))
sum_near a b c d ha hb hc hd =
    let p = product_near a b _ _ ha hb in let q = product_near c d _ _ hc hd in
    (omega (arith, ints, p.0, p.1, q.0, q.1), omega (arith, ints, p.0, p.1, q.0, q.1))

pub sum_is : (a b c d e f g h : ℤ) → a ≡ e → b ≡ f → c ≡ g → d ≡ h
    → Within 20000000000000 a → Within 4000000000 b → Within 20000000000000 c → Within 4000000000 d
    → to_z w128 (of_z w128 (to_z w128 (of_z w128 (a *ℤ b)) +ℤ to_z w128 (of_z w128 (c *ℤ d)))) ≡ (e *ℤ f) +ℤ (g *ℤ h)
sum_is a b c d e f g h pa pb pc pd ha hb hc hd =
    let p = product_near a b _ _ ha hb in let q = product_near c d _ _ hc hd in
    let whole : to_z w128 (of_z w128 (to_z w128 (of_z w128 (a *ℤ b)) +ℤ to_z w128 (of_z w128 (c *ℤ d)))) ≡ (a *ℤ b) +ℤ (c *ℤ d) =
    omega (arith, ints, p.0, p.1, q.0, q.1) in
    whole ∙ ap₂ (λ (y z : ℤ). y +ℤ z) (ap₂ (λ (y z : ℤ). y *ℤ z) pa pb) (ap₂ (λ (y z : ℤ). y *ℤ z) pc pd)

-- and by which it finds the step
pub step_is : (a b e f : ℤ) → a ≡ e → b ≡ f → IsFromTo (pos 1) (pos 2000000000) a → IsFromTo (pos 1) (pos 4000000000) b
    → (to_z w128 (of_z w128 (a *ℤ b)) ≡ e *ℤ f) × IsFromTo (pos 1) (pos (2 ^ 100)) (to_z w128 (of_z w128 (a *ℤ b)))
step_is a b e f pa pb ha hb =
    let p = product_near a b 2000000000 4000000000 (omega (arith, ints, ha.0), ha.1) (omega (arith, ints, hb.0), hb.1) in
    let more : pos 1 ≤ℤ (a *ℤ b) = omega (arith, ints, times_more (pos 1) a b ha.0 (omega (arith, ints, hb.0)), hb.0) in
    let whole : to_z w128 (of_z w128 (a *ℤ b)) ≡ a *ℤ b = omega (arith, ints, p.0, p.1) in
    (whole ∙ ap₂ (λ (y z : ℤ). y *ℤ z) pa pb, (omega (arith, ints, whole, more), omega (arith, ints, whole, p.1)))

west_is : (e n f m start north : ℤ) (i : ℕ) (cell far : ℤ) → n <ℤ m → far ≡ passing e n f m start north
    → int_lt (pos 0) ((pos 4 *ℤ (m -ℤ n)) *ℤ passing e n f m (start +ℤ (pos (2 * i) *ℤ cell)) north)
    ≡ int_lt (pos i *ℤ ((pos 2 *ℤ cell) *ℤ (m -ℤ n))) far
west_is e n f m start north i cell far rises is =
    let east : ℤ = start +ℤ (pos (2 * i) *ℤ cell) in
    let s : ℤ = pos i *ℤ ((pos 2 *ℤ cell) *ℤ (m -ℤ n)) in
    scaled_is (pos 4 *ℤ (m -ℤ n)) (passing e n f m east north) (omega (arith, ints, rises))
    ∙ ap (λ (z : ℤ). int_lt (pos 0) z) (passing_on e n f m start north i cell)
    ∙ less_is (passing e n f m start north) s
    ∙ ap (λ (z : ℤ). int_lt s z) (sym is)

-- the columns whose centres lie to the west of a rising edge, and of a falling one
pub west_of_rising : (e n f m start north : ℤ) (i : ℕ) (cell far : ℤ) → n <ℤ m → far ≡ passing e n f m start north
    → int_lt (pos 0) (side_of (start +ℤ (pos (2 * i) *ℤ cell)) north ((e, n), (f, m))) ≡ int_lt (pos i *ℤ ((pos 2 *ℤ cell) *ℤ (m -ℤ n))) far
west_of_rising e n f m start north i cell far rises is =
    let east : ℤ = start +ℤ (pos (2 * i) *ℤ cell) in
    ap (λ (z : ℤ). int_lt (pos 0) z) (side_up e n f m east north) ∙ west_is e n f m start north i cell far rises is

pub west_of_falling : (e n f m start north : ℤ) (i : ℕ) (cell far : ℤ) → n <ℤ m → far ≡ passing e n f m start north
    → int_lt (pos 0) (side_of (start +ℤ (pos (2 * i) *ℤ cell)) north ((f, m), (e, n))) ≡ int_lt (pos i *ℤ ((pos 2 *ℤ cell) *ℤ (m -ℤ n))) far
west_of_falling e n f m start north i cell far rises is =
    let east : ℤ = start +ℤ (pos (2 * i) *ℤ cell) in
    ap (λ (z : ℤ). int_lt (pos 0) z) (side_down e n f m east north) ∙ west_is e n f m start north i cell far rises is

-- whether an edge straddles, as the code finds it
pub level : (a b : Bool) → beq a b ≡ true → (if a then not b else b) ≡ false
level true true h = refl
level true false h = absurd (false≢true h)
level false true h = absurd (false≢true h)
level false false h = refl

pub straddled : (a b : Bool) → beq a b ≡ false → (if a then not b else b) ≡ true
straddled true true h = absurd (false≢true (sym h))
straddled true false h = refl
straddled false true h = refl
straddled false false h = absurd (false≢true (sym h))

-- an edge that straddles and doesn't rise falls
pub falls : (north e n f m : ℤ) (x y : Bool) → x ≡ is_reached north (e, n) → y ≡ is_reached north (f, m) → beq x y ≡ false
    → m ≤ℤ n → m <ℤ n
falls north e n f m x y px py apart le =
    by_lt_z m n (λ lt. lt)
    (λ ge. let same : n ≡ m = omega (arith, ints, le, ge) in
    let equal : x ≡ y = px ∙ ap (λ (z : ℤ). int_le (pos 2 *ℤ z) north) same ∙ sym py in
    absurd (false≢true (sym apart ∙ (booleans_Decides x y).1 equal)))

-- the centre of a column farther on
pub centre_on : (west cell : ℤ) (col i : ℕ) → (pos 2 *ℤ west) +ℤ (pos (2 * (col + i) + 1) *ℤ cell)
    ≡ ((pos 2 *ℤ west) +ℤ (pos (2 * col + 1) *ℤ cell)) +ℤ (pos (2 * i) *ℤ cell)
centre_on west cell col i =
    let split : pos (2 * (col + i) + 1) ≡ pos (2 * col + 1) +ℤ pos (2 * i) = omega (arith, ints) in
    omega (arith, ints, ap (λ (z : ℤ). z *ℤ cell) split, sum_times (pos (2 * col + 1)) (pos (2 * i)) cell)

-- an edge that doesn't straddle passes nowhere
pub passes_not : (a b x y s : Bool) (i : ℕ) → x ≡ a → y ≡ b → beq x y ≡ true → ((if a then not b else b) && s) ≡ nat_lt i 0
passes_not a b x y s i px py same =
    ap (λ (t : Bool). t && s) (ap₂ (λ (p q : Bool). if p then not q else q) (sym px) (sym py) ∙ level x y same) ∙ sym (le-ltb i 0 (omega arith))

-- one that does passes to the east of the columns before its crossing
pub passes_where : (a b x y s : Bool) (i r : ℕ) → x ≡ a → y ≡ b → beq x y ≡ false → s ≡ nat_lt i r → ((if a then not b else b) && s) ≡ nat_lt i r
passes_where a b x y s i r px py apart is =
    ap (λ (t : Bool). t && s) (ap₂ (λ (p q : Bool). if p then not q else q) (sym px) (sym py) ∙ straddled x y apart) ∙ is

pub passes_unless : (east north : ℤ) (edge : Edge) (x y : Bool) (i : ℕ) → x ≡ is_reached north edge.0 → y ≡ is_reached north edge.1 → beq x y ≡ true
    → passes_east east north edge ≡ nat_lt i 0
unfolding passes_east
passes_unless east north edge x y i px py same =
    passes_not (is_reached north edge.0) (is_reached north edge.1) x y (int_lt (pos 0) (side_of east north edge)) i px py same

pub passes_by : (east north : ℤ) (edge : Edge) (x y : Bool) (i r : ℕ) → x ≡ is_reached north edge.0 → y ≡ is_reached north edge.1 → beq x y ≡ false
    → int_lt (pos 0) (side_of east north edge) ≡ nat_lt i r → passes_east east north edge ≡ nat_lt i r
unfolding passes_east
passes_by east north edge x y i r px py apart is =
    passes_where (is_reached north edge.0) (is_reached north edge.1) x y (int_lt (pos 0) (side_of east north edge)) i r px py apart is

-- a place and a number as the code holds them
pub held_place : (z : ℤ) → Within 10000000000000 z → to_z w64 (of_z w64 z) ≡ z
held_place z near = omega (arith, ints, near.0, near.1)

pub held_crossing : (z : ℤ) → Within (2 ^ 100) z → held z ≡ z
held_crossing z near = omega (arith, ints, near.0, near.1)

pub held_step : (z : ℤ) → IsFromTo (pos 1) (pos (2 ^ 100)) z → held z ≡ z
held_step z near = omega (arith, ints, near.0, near.1)

pub held_cell : (z : ℤ) → IsFromTo (pos 1) (pos 1000000000) z → to_z w64 (of_z w64 z) ≡ z
held_cell z near = omega (arith, ints, near.0, near.1)

-- that the code finds one end to lie to the south of the other
pub rises : (n m : ℤ) → Within 2000000000 n → Within 2000000000 m → int_lt (to_z w32 (of_z w32 n)) (to_z w32 (of_z w32 m)) ≡ true → n <ℤ m
rises n m hn hm is = omega (arith, ints, is, hn.0, hn.1, hm.0, hm.1)

pub rises_not : (n m : ℤ) → Within 2000000000 n → Within 2000000000 m → int_lt (to_z w32 (of_z w32 n)) (to_z w32 (of_z w32 m)) ≡ false → m ≤ℤ n
rises_not n m hn hm is = omega (arith, ints, is, hn.0, hn.1, hm.0, hm.1)

-- the multiples of a step by which the code counts columns
pub counted_by : (i : ℕ) (d step far held_far : ℤ) → step ≡ d → held_far ≡ far → int_lt (pos i *ℤ d) far ≡ int_lt (pos i *ℤ step) held_far
counted_by i d step far held_far same same_far = ap₂ (λ (y z : ℤ). int_lt (pos i *ℤ y) z) (sym same) (sym same_far)
