use Rattle.std.proofs.Common.{◌≡◌, ◌-◌, ◌/◌, false, ap, ◌∙◌, arith, get_or, slice_index, subst, sym}
use Rattle.sgm_census.specs.Packed.{all_in, word_to}
use Rattle.sgm_census.specs.Windows.{WindowSides, IsWindow}
use Rattle.sgm_census.proofs.InWindow.{Fits}
use Rattle.sgm_census.proofs.SmoothedCodes.{unpacked-whole}
use Rattle.sgm_census.proofs.smoothed.smoothed_row.Goals as goal

pub complete-requires-clause-marked : goal.complete-requires-clause-marked
complete-requires-clause-marked c = λ x h marked.
    let coding = c.args.coding.now in
    let plane = coding.plane.now in
    let window = coding.window in
    let y = c.args.y in
    let width = coding.plain.width in
    let values = coding.plain.values.now in
    let there = coding.plain.there.now in
    let holds = coding.holds in
    let middles = c.row_middles.new.into in
    let words = c.inner_words.new.words in
    let present = c.inner_marks.new.present in
    let from = x - window.width / 2 in
    let top = y - window.height / 2 in
    let wide : width ≡ plane.width = holds.width_is in
    let high = holds.height_is in
    let range : IsWindow window.width window.height = subst (λ (v : WindowSides). IsWindow v.width v.height) c.window.view_is c.window.invariant in
    let place : width - 1 - x ≡ plane.width - 1 - x = ap (λ n. n - 1 - x) wide in
    let whole = c.inner_marks.ensures x (omega arith) (ap (λ i. get_or present i false) place ∙ marked) in
    let inside = whole.inside in
    let fits : Fits plane window x y =
    record { left = inside.left; right = omega (arith, inside.right); top = inside.top; bottom = omega (arith, inside.bottom) } in
    let word : slice_index words (plane.width - 1 - x) ≡ word_to plane.width values window (slice_index middles x) from top =
    ap (slice_index words) (sym place) ∙ c.inner_words.ensures.whole x inside ∙ ap (λ n. word_to n values window (slice_index middles x) from top) wide in
    unpacked-whole plane window x y from top (plane.width - 1 - x) (slice_index middles x) values words there present c.size.ensures.kept range fits holds.values_are holds.there_are
    (omega arith) (omega arith) (λ own e. c.row_middles.ensures.each x own h e) word marked
    (ap (λ n. all_in n there window from top) (sym wide) ∙ whole.all)
