use Rattle.std.proofs.Common.{◌≡◌, ◌+◌, ◌-◌, ◌*◌, ◌%◌, ◌<◌, ◌∙◌, sym, ap, subst, arith, length, get_or, drop, None}
use Rattle.std.proofs.lemmas.List.{length-take, length-drop, with_items_is}
use Rattle.std.proofs.lemmas.Nat.{mul-add-lt, mul-le}
use Rattle.sgm_base.specs.Sides.{Sides}
use Rattle.sgm_energy.specs.declared.dir.Dir.TheVariants.{Right}
use Rattle.sgm_energy.specs.Rays.{pixel_at}
use Rattle.sgm_refine.specs.declared.met.TheConstants.{LEVEL, DOWNWARDS, UPWARDS}
use Rattle.sgm_refine.specs.Filling.{met_from}
use Rattle.sgm_refine.specs.Met.{HoldAllMet}
use Rattle.sgm_refine.proofs.MetRows.{met_first_down, part_at}
use Rattle.sgm_refine.proofs.filling.fill_rows.Goals as goal

pub loop-y-init : goal.loop-y-init
loop-y-init c = record {
  done = λ r x h. absurd (omega arith);
  next = λ h i x hi hx. c.requires.down (i * c.args.from.now.map.now.width + x) (omega (arith, c.args.room.now.down_length, c.requires.room_width, mul-add-lt i c.args.from.now.map.now.width x 3 hi hx))
      ∙ sym (met_first_down c.args.from.now.map.now x i hi);
  wide = c.requires.room_width;
}

pub fill_row_at-requires-clause-met : goal.fill_row_at-requires-clause-met
fill_row_at-requires-clause-met c =
    let m = c.args.from.now.map.now in
    let y = c.loop-y.y in
    let ww = c.size.inside.width in
    let hh = c.size.inside.height in
    let wide : ww ≡ m.width = ap (λ (s : Sides). s.width) c.size.view_is ∙ c.size-size.ensures.width in
    let tall : hh ≡ m.height = ap (λ (s : Sides). s.height) c.size.view_is ∙ c.size-size.ensures.height in
    let low : y < m.height = omega (arith, c.loop-y-test.true, tall) in
    let u = m.height - 1 - y in
    let same : hh - 1 - y ≡ u = omega (arith, tall) in
    let at = 3 * ww * (hh - 1 - y) in
    let is : at ≡ 3 * m.width * u = ap (λ n. 3 * n * (hh - 1 - y)) wide ∙ ap (λ n. 3 * m.width * n) same in
    let level : c.deref.result.now ≡ c.meet_level.new.into = c.deref.ensures.value ∙ with_items_is c.loop-y.room.level c.meet_level.new.into (omega (arith, c.meet_level.auto.into, c.deref_mut.ensures.len)) in
    record {
      inside = low;
      level_length = ap length level ∙ c.meet_level.auto.into ∙ ap length c.deref_mut.ensures.value ∙ c.loop-y.room.level_length ∙ ap (λ n. 2 * n) c.loop-y.invariant.wide;
      down_length = ap length c.deref-in-loop-y.ensures.value ∙ c.loop-y.room.down_length ∙ ap (λ n. 3 * n) c.loop-y.invariant.wide;
      up_length = omega (
        arith,
        length-take (at + 3 * ww - at) (drop at c.args.up.now),
        length-drop at c.args.up.now,
        is,
        wide,
        c.requires.up_length,
        mul-le (u + 1) (3 * m.width) m.height (3 * m.width) (omega (arith, low)) (omega arith),
      );
      level_met = subst (λ vs. HoldAllMet m LEVEL y vs) (sym level) c.meet_level.ensures;
      down_met = subst (λ vs. HoldAllMet m DOWNWARDS y vs) (sym c.deref-in-loop-y.ensures.value) (c.loop-y.invariant.next low);
      up_met = λ i x hi hx.
          let place : at + (i * m.width + x) ≡ (3 * u + i) * m.width + x = omega (arith, is) in
          let inside : i * m.width + x < 3 * m.width = omega (arith, mul-add-lt i m.width x 3 hi hx) in
          part_at c.args.up.now at (at + 3 * ww - at) (i * m.width + x) (omega (arith, inside, wide))
          ∙ ap (λ n. get_or c.args.up.now n None) place
          ∙ c.requires.up (3 * u + i) x (omega (arith, low)) hx
          ∙ ap (λ n. met_from m (pixel_at x n) (get_or UPWARDS ((3 * u + i) % 3) Right)) (omega (arith, low))
          ∙ ap (λ n. met_from m (pixel_at x y) (get_or UPWARDS n Right)) (omega arith);
    }

pub loop-y-preserved : goal.loop-y-preserved
loop-y-preserved c =
    let m = c.args.from.now.map.now in
    let marks = c.fill_row_at.new.marks in
    let next = c.carry_down.new.into in
    let copied : c.copy_from_slice.new.self.items ≡ next = c.copy_from_slice.ensures.items ∙ c.deref-in-loop-y-3.ensures.value
    ∙ with_items_is c.loop-y.room.next next (omega (arith, c.carry_down.auto.into, c.deref_mut-in-loop-y-2.ensures.len)) in
    record {
      done = c.fill_row_at.ensures c.loop-y.invariant.done;
      next = λ h. subst (λ vs. HoldAllMet m DOWNWARDS (c.loop-y.y + 1) vs) (sym copied) (c.carry_down.ensures h);
      wide = ap length (with_items_is c.loop-y.room.marks marks (omega (arith, c.fill_row_at.auto.marks, c.deref_mut-in-loop-y.ensures.len)))
          ∙ c.fill_row_at.auto.marks ∙ ap length c.deref_mut-in-loop-y.ensures.value ∙ c.loop-y.invariant.wide;
    }

pub returns : goal.returns
returns c r x hr hx =
    let tall : c.size.inside.height ≡ c.args.from.now.map.now.height = ap (λ (s : Sides). s.height) c.size.view_is ∙ c.size-size.ensures.height in
    c.loop-y.invariant.done r x (omega (arith, tall, c.loop-y-test.false)) hx
