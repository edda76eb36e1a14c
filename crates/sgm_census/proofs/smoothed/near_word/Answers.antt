use Rattle.std.proofs.Common.{◌≡◌, ◌*◌, ◌/◌, ap, ◌∙◌, arith, subst, sym}
use Rattle.std.specs.List.{flat_map, range_with_len}
use Rattle.sgm_census.specs.Packed.{pushed}
use Rattle.sgm_census.specs.Windows.{WindowSides, IsWindow}
use Rattle.sgm_census.proofs.InWindow.{rows_more}
use Rattle.sgm_census.proofs.LessThan.{pushed-append}
use Rattle.sgm_census.proofs.SmoothedRows.{near_row, rows_room, word_by-rows}
use Rattle.sgm_census.proofs.smoothed.near_word.Goals as goal

pub push_near-word-requires-clause-room : goal.push_near-word-requires-clause-room
push_near-word-requires-clause-room c =
    let at = c.args.at in
    let window = c.args.window in
    let range : IsWindow window.width window.height = subst (λ (v : WindowSides). IsWindow v.width v.height) c.window.view_is c.window.invariant in
    let high : c.window.inside.height ≡ window.height = ap (λ (s : WindowSides). s.height) c.window.view_is in
    rows_room c.args.plane.now window at.x at.y at.own at.middle c.loop-j.j c.loop-j.word range (omega (arith, high, c.loop-j-test.true)) c.loop-j.invariant

pub loop-j-preserved : goal.loop-j-preserved
loop-j-preserved c =
    let at = c.args.at in
    let j = c.loop-j.j in
    let rows = near_row c.args.plane.now c.args.window at.x at.y at.own at.middle in
    c.push_near-word.ensures ∙ ap (λ w. pushed w (rows j)) c.loop-j.invariant
    ∙ sym (ap (pushed 0) (rows_more rows j) ∙ pushed-append 0 (flat_map rows (range_with_len 0 j)) (rows j))

pub returns : goal.returns
returns c =
    let at = c.args.at in
    let window = c.args.window in
    let high : c.window.inside.height ≡ window.height = ap (λ (s : WindowSides). s.height) c.window.view_is in
    let half : c.window-2.inside.width * c.window-2.inside.height / 2 ≡ window.width * window.height / 2 = ap (λ (s : WindowSides). s.width * s.height / 2) c.window-2.view_is in
    let end : c.loop-j.j ≡ window.height = omega (arith, high, c.loop-j-test.false, c.loop-j.auto.j-end) in
    let rows = near_row c.args.plane.now window at.x at.y at.own at.middle in
    let word : c.loop-j.word ≡ pushed 0 (flat_map rows (range_with_len 0 window.height)) = c.loop-j.invariant ∙ ap (λ n. pushed 0 (flat_map rows (range_with_len 0 n))) end in
    c.without_centre.ensures
    ∙ word_by-rows c.args.plane.now window at.x at.y at.own at.middle (c.window-2.inside.width * c.window-2.inside.height / 2) c.loop-j.word half word
