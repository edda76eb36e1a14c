use Rattle.std.proofs.Common.{◌≡◌, ℕ, ◌+◌, ◌-◌, ◌^◌, ◌<◌, ◌∙◌, sym, ap, arith, false, get_or, subst, length, slice_index}
use Rattle.sgm_census.specs.Codes.{smoothed_code_at}
use Rattle.sgm_census.specs.Packed.{unpacked}
use Rattle.sgm_census.specs.Windows.{greatest_of}
use Rattle.sgm_census.proofs.SmoothedRows.{CompletedTo, completed_kept, completed_put}
use Rattle.sgm_census.proofs.smoothed.complete.Goals.{then-not-present-place, else-not-present-place}
use Rattle.sgm_census.proofs.smoothed.complete.Goals as goal

pub loop-x-preserved : goal.loop-x-preserved
loop-x-preserved c =
    let plane = c.args.plane.now in
    let window = c.args.window in
    let n = greatest_of window in
    let width = plane.width in
    let x = c.loop-x.x in
    let code = λ (z : ℕ). smoothed_code_at plane window z c.args.y in
    let inside : x < width = omega (arith, c.requires.middles_length) in
    let wide : length c.args.middles.now ≡ width = c.requires.middles_length in
    let place : length c.args.middles.now - 1 - x ≡ width - 1 - x = ap (λ m. m - 1 - x) wide in
    elim c.if-not-present-place.branch [
      | then-not-present-place w ↦
          (let put : unpacked n w.put.new.words w.put.new.present (width - 1 - x) ≡ code x =
          ap (λ i. unpacked n w.put.new.words w.put.new.present i) (sym place) ∙ w.put.ensures.put n ∙ w.coded.ensures.code in
          let small : slice_index w.put.new.words (width - 1 - x) < 2 ^ n =
          subst (λ i. slice_index w.put.new.words i < 2 ^ n) place (w.put.ensures.within (2 ^ n) w.coded.ensures.within (c.loop-x.invariant.within (length c.args.middles.now - 1 - x))) in
          subst (λ us. CompletedTo n width code c.args.words.now c.args.present.now us c.if-not-present-place.present (x + 1)) (sym w.words-is)
          (subst (λ ps. CompletedTo n width code c.args.words.now c.args.present.now w.put.new.words ps (x + 1)) (sym w.present-is)
          (completed_put n width code c.args.words.now c.args.present.now c.loop-x.words c.loop-x.present w.put.new.words w.put.new.present x c.loop-x.invariant inside put
          (λ k h. w.put.ensures.words k (omega arith)) (λ k h. w.put.ensures.present k (omega arith)) small)))
      | else-not-present-place w ↦
          subst (λ us. CompletedTo n width code c.args.words.now c.args.present.now us c.if-not-present-place.present (x + 1)) (sym w.words-is)
          (subst (λ ps. CompletedTo n width code c.args.words.now c.args.present.now c.loop-x.words ps (x + 1)) (sym w.present-is)
          (completed_kept n width code c.args.words.now c.args.present.now c.loop-x.words c.loop-x.present x c.loop-x.invariant inside
          (ap (λ i. get_or c.loop-x.present i false) (sym place) ∙ w.if-not-present-place.false) c.requires.marked))
    ]

pub returns : goal.returns
returns c =
    record {
      each = λ x h.
          c.loop-x.invariant.done x h
          (omega (arith, h, c.requires.middles_length, c.loop-x-test.false));
      within = c.loop-x.invariant.within;
    }
