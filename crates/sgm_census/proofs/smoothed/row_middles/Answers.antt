use Rattle.std.proofs.Common.{◌≡◌, ◌+◌, ◌-◌, ◌*◌, ◌<◌, ◌≤◌, is_some, ap, ◌∙◌, arith, inl, inr, length, slice_index, subst, sym}
use Rattle.std.proofs.lemmas.Bool.{cases_lt}
use Rattle.std.proofs.lemmas.List.{length-map}
use Rattle.sgm_base.specs.Values.{value_at}
use Rattle.sgm_census.specs.Codes.{middle_at}
use Rattle.sgm_census.proofs.SmoothedRows.{inner_middle, rows_set}
use Rattle.sgm_census.proofs.smoothed.row_middles.Goals as goal

pub returns-then-all_set : goal.returns-then-all_set
returns-then-all_set c =
    let plane = c.args.plane.now in
    let y = c.args.y in
    let width = c.args.plain.width in
    let there = c.args.plain.there.now in
    let holds = c.requires.holds in
    let kept = c.size.ensures.kept in
    let wide : width ≡ plane.width = holds.width_is in
    let high = holds.height_is in
    let below : y + 1 < plane.height = omega (arith, c.if-plain-y.false) in
    let above : 1 ≤ y = omega (arith, c.if-y-lt1.false) in
    let long : length there ≡ width * plane.height =
    ap length holds.there_are ∙ length-map plane.entries is_some ∙ kept.full ∙ sym (ap (λ n. n * plane.height) wide) in
    let set = rows_set there width plane.height y ((y + 2) * width - (y - 1) * width) above below long (omega arith) (sym c.all_set.ensures ∙ c.if-all_set.true) in
    record {
      each = λ x own h e. elim (cases_lt x (width - 1)) [
        | inr l ↦
            (let last : width - 1 ≡ x = omega (arith, wide) in
            subst (λ i. slice_index c.write_middle-then-all_set.new.into i ≡ middle_at plane i y own) last
            (c.write_middle-then-all_set.ensures.written own (ap (λ i. value_at plane i y) last ∙ e)))
        | inl l ↦
            c.write_middle-then-all_set.ensures.others x (omega arith)
            ∙ elim (cases_lt 0 x) [
              | inr z ↦
                  (let first : 0 ≡ x = omega arith in
                  subst (λ i. slice_index c.write_middle.new.into i ≡ middle_at plane i y own) first
                  (c.write_middle.ensures.written own (ap (λ i. value_at plane i y) first ∙ e)))
              | inl z ↦
                  (let same : x - 1 + 1 ≡ x = omega arith in
                  c.write_middle.ensures.others x (omega arith)
                  ∙ inner_middle plane c.args.plain.values.now there width x y own (slice_index c.inner_middles.new.into x) kept holds.values_are holds.there_are wide
                  (omega arith) (omega arith) above below set e
                  (ap (slice_index c.inner_middles.new.into) (sym same) ∙ c.inner_middles.ensures (x - 1) (omega arith)))
            ]
      ];
    }
