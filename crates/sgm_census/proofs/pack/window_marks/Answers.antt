use Rattle.std.proofs.Common.{◌≡◌, ℕ, ◌+◌, ◌-◌, ◌*◌, ◌&&◌, Bool, List, ap, ◌∙◌, arith, drop, false, get_or, length, take}
use Rattle.std.specs.List.{list_all}
use Rattle.sgm_census.specs.Windows.{WindowSides}
use Rattle.sgm_census.proofs.RowBits.{ends_in, marks_rows_more}
use Rattle.sgm_census.proofs.pack.window_marks.Goals as goal

pub loop-j-preserved : goal.loop-j-preserved
loop-j-preserved c = λ k h.
    let there = c.args.plain.there.now in
    let width = c.args.plain.width in
    let j = c.loop-j.j in
    let from = (c.args.top + j) * width in
    let inside = c.window.inside.width in
    let mark = get_or c.loop-j.present k false in
    let wide : inside ≡ c.args.window.width = ap (λ (s : WindowSides). s.width) c.window.view_is in
    let whole : from + width - from ≡ width = omega arith in
    let rows : ℕ → List Bool = λ j. take c.args.window.width (drop k (take width (drop ((c.args.top + j) * width) there))) in
    marks_rows_more j mark (get_or c.keep_row.new.present k false) rows (c.loop-j.invariant k (omega arith))
    (c.keep_row.ensures k h
    ∙ ap (λ n. mark && list_all (λ t. t) (take inside (drop k (take n (drop from there))))) whole
    ∙ ap (λ n. mark && list_all (λ t. t) (take n (drop k (take width (drop from there))))) wide)

pub overflow_mul-from : goal.overflow_mul-from
overflow_mul-from c =
    let high : c.window.inside.height ≡ c.args.window.height = ap (λ (s : WindowSides). s.height) c.window.view_is in
    omega (arith, ends_in c.args.top c.loop-j.j c.args.window.height c.args.plain.width (length c.args.plain.there.now) (omega (arith, high, c.loop-j-test.true)) c.requires.rows)

pub overflow_add-from-in-loop-j : goal.overflow_add-from-in-loop-j
overflow_add-from-in-loop-j c =
    let high : c.window.inside.height ≡ c.args.window.height = ap (λ (s : WindowSides). s.height) c.window.view_is in
    omega (arith, ends_in c.args.top c.loop-j.j c.args.window.height c.args.plain.width (length c.args.plain.there.now) (omega (arith, high, c.loop-j-test.true)) c.requires.rows)

pub slice_bounds-keep_row-end : goal.slice_bounds-keep_row-end
slice_bounds-keep_row-end c =
    let high : c.window.inside.height ≡ c.args.window.height = ap (λ (s : WindowSides). s.height) c.window.view_is in
    omega (arith, ends_in c.args.top c.loop-j.j c.args.window.height c.args.plain.width (length c.args.plain.there.now) (omega (arith, high, c.loop-j-test.true)) c.requires.rows)
