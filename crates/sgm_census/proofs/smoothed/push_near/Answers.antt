use Rattle.std.proofs.Common.{◌≡◌, ℕ, ◌+◌, ◌*◌, ap, ◌∙◌, arith, ltb, map, sym, unwrap_or}
use Rattle.std.specs.Int.{from_bool}
use Rattle.std.specs.List.{range_with_len}
use Rattle.std.proofs.lemmas.List.FromFn.{length-map-range_with_len, map-range_with_len_more}
use Rattle.sgm_census.specs.Codes.{value_near}
use Rattle.sgm_census.specs.Packed.{pushed}
use Rattle.sgm_census.specs.Windows.{WindowSides}
use Rattle.sgm_census.proofs.LessThan.{pushed-push}
use Rattle.sgm_census.proofs.SmoothedRows.{near_room}
use Rattle.sgm_census.proofs.SmoothedCodes.{is_lower}
use Rattle.sgm_census.proofs.Threes.{bit_small}
use Rattle.sgm_census.proofs.smoothed.push_near.Goals as goal

pub overflow_mul-word : goal.overflow_mul-word
overflow_mul-word c =
    let at = c.args.at in
    let lower = λ (i : ℕ). is_lower at.own at.middle (value_near c.args.plane.now c.args.window at.x at.y i c.args.j) in
    let wide : c.window.inside.width ≡ c.args.window.width = ap (λ (s : WindowSides). s.width) c.window.view_is in
    omega (arith, near_room c.args.word c.loop-i.word c.loop-i.i c.args.window.width (map lower (range_with_len 0 c.loop-i.i)) c.loop-i.invariant (length-map-range_with_len lower 0 c.loop-i.i) (omega (arith, wide, c.loop-i-test.true)) c.requires.room)

pub overflow_add-word : goal.overflow_add-word
overflow_add-word c =
    let at = c.args.at in
    let lower = λ (i : ℕ). is_lower at.own at.middle (value_near c.args.plane.now c.args.window at.x at.y i c.args.j) in
    let wide : c.window.inside.width ≡ c.args.window.width = ap (λ (s : WindowSides). s.width) c.window.view_is in
    omega (
      arith,
      near_room c.args.word c.loop-i.word c.loop-i.i c.args.window.width (map lower (range_with_len 0 c.loop-i.i)) c.loop-i.invariant (length-map-range_with_len lower 0 c.loop-i.i) (omega (arith, wide, c.loop-i-test.true)) c.requires.room,
      bit_small _ _ c.from.ensures,
    )

pub loop-i-preserved : goal.loop-i-preserved
loop-i-preserved c =
    let at = c.args.at in
    let i = c.loop-i.i in
    let lower = λ (i : ℕ). is_lower at.own at.middle (value_near c.args.plane.now c.args.window at.x at.y i c.args.j) in
    let bits = map lower (range_with_len 0 i) in
    let bit : c.from.result ≡ from_bool (lower i) = c.from.ensures ∙ ap (λ v. from_bool (ltb v at.middle)) (c.unwrap_or-value.ensures ∙ ap (λ o. unwrap_or o at.own) c.near.ensures) in
    ap (λ w. 2 * w + c.from.result) c.loop-i.invariant ∙ ap (λ b. 2 * pushed c.args.word bits + b) bit
    ∙ sym (ap (pushed c.args.word) (map-range_with_len_more lower 0 i i (omega arith)) ∙ pushed-push c.args.word bits (lower i))
