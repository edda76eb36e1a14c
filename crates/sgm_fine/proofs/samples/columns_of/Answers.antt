use Rattle.std.proofs.Common.{◌<◌, length, ◌^◌, pos, ◌+ℤ◌, ◌-ℤ◌, ◌*ℤ◌, to_z, of_z, w32, length-set, arith, ap, subst, sym, ◌∙◌}
use Rattle.std.proofs.lemmas.Int.{ints}
use Rattle.sgm_base.specs.Ranges.{Within}
use Rattle.sgm_fine.specs.Windows.{number}
use Rattle.sgm_fine.proofs.Numbers.{number_more, within_more}
use Rattle.sgm_fine.proofs.PlaceSamples.{lowered}
use Rattle.sgm_fine.proofs.samples.columns_of.Goals as goal

pub loop-i-preserved : goal.loop-i-preserved
loop-i-preserved c =
    let i = c.loop-i.i in
    let columns = c.loop-i.columns in
    let inv = c.loop-i.invariant in
    let across = number c.args.across.now in
    let level = c.level_place.ensures.small in
    let rise = c.requires.across i c.loop-i-test.true in
    let inside : i < length columns = omega (arith, inv.len, c.loop-i-test.true) in
    let value = lowered c.level_place.result (across i) (omega (arith, ints, level.0), omega (arith, ints, level.1)) rise in
    let v = to_z w32 (of_z w32 (to_z w32 (of_z w32 c.level_place.result) -ℤ to_z w32 (of_z w32 (across i)))) in
    record {
      len = omega (arith, length-set columns i v, inv.len);
      few = omega (arith, c.loop-i-test.true);
      each = number_more (λ j. ((pos 16 *ℤ ((pos c.args.at.x +ℤ (pos j -ℤ pos 2)) -ℤ c.args.at.first)) -ℤ pos c.args.at.value) -ℤ across j) columns i _ inside
          (value ∙ ap (λ z. z -ℤ across i) c.level_place.ensures.value) inv.each;
      small = within_more (2 ^ 22) columns i _ inside (subst (Within (2 ^ 22)) (sym value)
          (omega (arith, ints, level.0, level.1, rise.0, rise.1), omega (arith, ints, level.0, level.1, rise.0, rise.1))) inv.small;
    }
