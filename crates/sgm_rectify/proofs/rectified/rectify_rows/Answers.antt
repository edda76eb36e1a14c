use Rattle.std.proofs.Common.{◌≡◌, ◌+◌, ◌*◌, ◌/◌, ◌<◌, ◌≤◌, length, take, ap, ap₂, ◌∙◌, subst, sym, arith}
use Rattle.std.proofs.Math.Nat.{mul-le-mul_right}
use Rattle.sgm_base.specs.Sides.{Sides}
use Rattle.sgm_rectify.specs.Rectified.{rectified}
use Rattle.sgm_rectify.proofs.Rows.{begin_of, place_column, place_row, row_inside, row_more}
use Rattle.sgm_rectify.proofs.rectified.rectify_rows.Goals as goal

pub rectify_row-requires-clause-row : goal.rectify_row-requires-clause-row
rectify_row-requires-clause-row c =
    let image = c.args.image.now in
    let width : c.width.inside.width ≡ image.width = ap (λ (s : Sides). s.width) c.width.view_is ∙ c.size.ensures.width in
    subst (λ n. c.args.start / n + c.loop-row.row < image.height) (sym width)
    (row_inside c.args.start c.loop-row.row (length c.args.into.now) image.width image.height (omega (arith, c.width.invariant.0.0, width)) c.requires.start (subst (λ n. c.loop-row.row < length c.args.into.now / n) width c.loop-row-test.true) c.requires.inside)

pub loop-row-preserved : goal.loop-row-preserved
loop-row-preserved c =
    let image = c.args.image.now in
    let first = c.args.start / image.width in
    let row = c.loop-row.row in
    let width : c.width.inside.width ≡ image.width = ap (λ (s : Sides). s.width) c.width.view_is ∙ c.size.ensures.width in
    row_more image.width row c.loop-row.into c.split_at_mut-rest.result.0.now c.rectify_row.new.into c.split_at_mut-here.result.1.now (λ x y. rectified image c.args.warp.now x (first + y))
    (c.split_at_mut-rest.ensures.front ∙ ap (λ n. take (row * n) c.loop-row.into) width)
    (c.split_at_mut-rest.ensures.front_len ∙ ap (λ n. row * n) width)
    (omega (arith, c.rectify_row.auto.into, c.split_at_mut-here.ensures.front_len, width))
    c.loop-row.invariant
    (λ x h. c.rectify_row.ensures x h ∙ ap (λ n. rectified image c.args.warp.now x (c.args.start / n + row)) width)

pub returns : goal.returns
returns c k h =
    let image = c.args.image.now in
    let start = c.args.start in
    let width : c.width.inside.width ≡ image.width = ap (λ (s : Sides). s.width) c.width.view_is ∙ c.size.ensures.width in
    let some : 0 < image.width = omega (arith, c.width.invariant.0.0, width) in
    let len = length c.args.into.now in
    let all : len / image.width ≤ c.loop-row.row = subst (λ n. len / n ≤ c.loop-row.row) width c.loop-row-test.false in
    let inside : k < c.loop-row.row * image.width =
    omega (arith, h, c.loop-row.auto.into, begin_of len image.width c.requires.whole, mul-le-mul_right image.width all) in
    c.loop-row.invariant k inside ∙ ap₂ (rectified image c.args.warp.now) (place_column start k image.width c.requires.start) (place_row start k image.width some c.requires.start)
