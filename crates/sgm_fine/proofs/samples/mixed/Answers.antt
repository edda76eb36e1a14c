use Rattle.std.proofs.Common.{◌≡◌, ◌*◌, ℤ, pos, ◌*ℤ◌, to_z, of_z, w32, arith}
use Rattle.std.proofs.lemmas.Int.{ints}
use Rattle.sgm_base.specs.Ranges.{IsFromTo, Within}
use Rattle.sgm_fine.proofs.Totals.{product_kept, product_within}
use Rattle.sgm_fine.proofs.samples.mixed.Goals as goal

product : (f step : ℤ) → IsFromTo (pos 0) (pos 15) f → Within 65535 step → (to_z w32 (of_z w32 (to_z w32 (of_z w32 f) *ℤ to_z w32 (of_z w32 step))) ≡ f *ℤ step) × Within (15 * 65535) (f *ℤ step)
product f step few near =
    let part : Within 15 f = (omega (arith, ints, few.0), few.1) in
    (product_kept 15 65535 f step (to_z w32 (of_z w32 f)) (to_z w32 (of_z w32 step)) (omega arith) (omega (arith, ints, few.0, few.1)) (omega (arith, ints, near.0, near.1)) part near, product_within 15 65535 f step part near)

pub returns-clause-value : goal.returns-clause-value
returns-clause-value c =
    let p = product c.args.f c.args.step c.requires.part c.requires.step in
    let here = c.requires.here in
    omega (arith, ints, p.0, p.1.0, p.1.1, here.0, here.1)

pub returns-clause-small : goal.returns-clause-small
returns-clause-small c =
    let p = product c.args.f c.args.step c.requires.part c.requires.step in
    let here = c.requires.here in
    (omega (arith, ints, p.0, p.1.0, p.1.1, here.0, here.1), omega (arith, ints, p.0, p.1.0, p.1.1, here.0, here.1))
