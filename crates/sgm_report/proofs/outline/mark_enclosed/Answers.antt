use Rattle.std.proofs.Common.{ℕ, ◌+◌, ◌<◌, ◌≤◌, ◌++◌, Bool, not, if◌then◌else◌, List, length, drop, ap, ◌∙◌, arith}
use Rattle.std.specs.List.{range_with_len}
use Rattle.sgm_report.specs.Outlines.{Edge, centre_east, centre_north, edges, passes_east}
use Rattle.sgm_report.proofs.Marks.{all_passed, edges_count, none_passed, odd_more, odd_of, turned}
use Rattle.sgm_report.proofs.outline.mark_enclosed.Goals as goal

pub loop-index-init : goal.loop-index-init
loop-index-init c = none_passed c.args.part.col (length c.args.inside.now) c.fill.new.self (c.fill.ensures.after (λ y e. e))

pub loop-index-preserved : goal.loop-index-preserved
loop-index-preserved c =
    let part = c.args.part in
    let es : List Edge = edges c.args.corners.now in
    let k = c.loop-index.index in
    let marks = c.loop-index.inside in
    let west = c.columns_west-west.result in
    let count = length c.args.inside.now in
    let passes : ℕ → Edge → Bool = λ (col : ℕ). passes_east (centre_east part.spec col) (centre_north part.spec part.row) in
    let before : ℕ → Bool = λ (col : ℕ). odd_of (passes col) es k in
    let after : ℕ → Bool = λ (col : ℕ). odd_of (passes col) es (k + 1) in
    let more : k < length es = omega (arith, edges_count c.args.corners.now, c.loop-index-test.true) in
    let few : west ≤ count = omega (arith, c.columns_west-west.ensures.few, c.loop-index.auto.inside, c.fill.ensures.len) in
    ap (λ (t : List Bool). t ++ drop west marks) c.turn.ensures
    ∙ turned before after part.col count west marks few c.loop-index.invariant
    (λ (i : ℕ) (h : i < count).
    let within : i < length marks = omega (arith, h, c.loop-index.auto.inside, c.fill.ensures.len) in
    let old : Bool = before (part.col + i) in
    odd_more (passes (part.col + i)) es k c.edge.result more c.edge.ensures.value
    ∙ ap (λ (b : Bool). if b then not old else old) (c.columns_west-west.ensures.value i within))

pub returns : goal.returns
returns c =
    let part = c.args.part in
    let es : List Edge = edges c.args.corners.now in
    let done : length es ≤ c.loop-index.index = omega (arith, edges_count c.args.corners.now, c.loop-index-test.false) in
    c.loop-index.invariant
    ∙ all_passed (λ (col : ℕ). passes_east (centre_east part.spec col) (centre_north part.spec part.row)) es c.loop-index.index done
    (range_with_len part.col (length c.args.inside.now))
