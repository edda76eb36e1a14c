use Rattle.std.proofs.Common.{◌≡◌, ◌≤◌, ap, arith, pos, ◌+ℤ◌, ◌*ℤ◌, to_z, of_z, unsigned_abs}
use Rattle.std.proofs.Math.Facts.{Fits-of_lt}
use Rattle.std.proofs.lemmas.Int.{ints, fits_signed_from_abs}
use Rattle.std.specs.Int.{w32}
use Rattle.sgm_select.specs.Rows.{sum_in}
use Rattle.sgm_select.specs.Selection.{in_sixteenths}
use Rattle.sgm_select.proofs.Offsets.{base_least, refined_is}
use Rattle.sgm_select.proofs.check.refined.Goals as goal

-- the sum that is cast is what the index is in sixteenths
record IsSum (c : goal.After-offset_at) : Type 0 where
  sum : to_z w32 (of_z w32 (pos 16 *ℤ to_z w32 (of_z w32 c.from.result))) +ℤ to_z w32 (of_z w32 c.offset_at.result)
      ≡ pos (in_sixteenths (sum_in c.args.sums.now c.args.count c.args.x) c.args.count c.args.base)
  low : in_sixteenths (sum_in c.args.sums.now c.args.count c.args.x) c.args.count c.args.base ≤ 4080

is_sum : (c : goal.After-offset_at) → IsSum c
is_sum c =
    let f = sum_in c.args.sums.now c.args.count c.args.x in
    let least = base_least c.args.sums.now c.args.count c.args.x c.args.base c.requires.count.0 c.requires.base in
    let is = refined_is f c.args.count c.args.base least in
    let low : in_sixteenths f c.args.count c.args.base ≤ 4080 = omega (arith, is.most, c.requires.count) in
    record { sum = omega (arith, ints, is.near, is.whole, least.inside, c.from.ensures, c.offset_at.ensures); low = low }

pub overflow_add-result : goal.overflow_add-result
overflow_add-result c =
    let is = is_sum c in
    rw is.sum (fits_signed_from_abs w32 (pos (in_sixteenths (sum_in c.args.sums.now c.args.count c.args.x) c.args.count c.args.base)) (omega (arith, is.low)))

whole : (c : goal.After-offset_at) → to_z w32 (of_z w32 (to_z w32 (of_z w32 (pos 16 *ℤ to_z w32 (of_z w32 c.from.result))) +ℤ to_z w32 (of_z w32 c.offset_at.result)))
    ≡ pos (in_sixteenths (sum_in c.args.sums.now c.args.count c.args.x) c.args.count c.args.base)
whole c = let is = is_sum c in omega (arith, ints, is.sum, is.low)

pub overflow_cast-result : goal.overflow_cast-result
overflow_cast-result c =
    let is = is_sum c in
    rw (whole c) (tt, Fits-of_lt (omega (arith, is.low)))

pub returns : goal.returns
returns c = ap (λ z. unsigned_abs z) (whole c)
