use Rattle.std.proofs.Common.{◌≡◌, ◌+◌, ◌-◌, ◌*◌, ◌/◌, ◌^◌, ◌<◌, ◌++◌, false, ap, ◌∙◌, arith, drop, get_or, inl, inr, length, slice_index, subst, sym, take, ℕ}
use Rattle.std.proofs.lemmas.Bool.{cases_lt}
use Rattle.std.proofs.lemmas.List.{get_or_past}
use Rattle.std.proofs.lemmas.Nat.{pow_pos}
use Rattle.sgm_census.specs.Windows.{WindowSides, IsWindow, greatest_of}
use Rattle.sgm_census.specs.Packed.{all_in, centre_in, word_in, word_to}
use Rattle.sgm_census.proofs.CodeLists.{part_at}
use Rattle.sgm_census.proofs.CodeRows.{IsWritten, row_inside, row_outside, written}
use Rattle.sgm_census.proofs.InWindow.{Fits}
use Rattle.sgm_census.proofs.PlainCodes.{unpacked-plain, word_in-small}
use Rattle.sgm_census.proofs.pack.plain_row.Goals as goal
use Rattle.sgm_census.proofs.pack.plain_row.Goals.{then-plain-across-via-then-plain-across, then-plain-across-via-else-plain-across+then-y-down, then-plain-across-via-else-plain-across+else-y-down+then-saturating_sub-y}

in_range : (inside window : WindowSides) → inside ≡ window → IsWindow inside.width inside.height → IsWindow window.width window.height
in_range inside window e w = subst (λ (v : WindowSides). IsWindow v.width v.height) e w

pub returns-then-plain-across : goal.returns-then-plain-across
returns-then-plain-across c =
    let coding = c.args.coding.now in
    let range = in_range record { width = c.window.inside.width; height = c.window.inside.height } coding.window c.window.view_is c.window.invariant in
    let wide : c.window.inside.width ≡ coding.window.width = ap (λ (s : WindowSides). s.width) c.window.view_is in
    let high : c.window.inside.height ≡ coding.window.height = ap (λ (s : WindowSides). s.height) c.window.view_is in
    let width = coding.holds.width_is in
    let height = coding.holds.height_is in
    row_outside coding.plane.now coding.window c.args.y c.args.words.now c.args.present.now range
    (elim c.then-plain-across.branch [
      | then-plain-across-via-then-plain-across w ↦ inl (omega (arith, w.if-plain-across.true))
      | then-plain-across-via-else-plain-across+then-y-down w ↦ inr (inl (omega (arith, w.if-y-down.true)))
      | then-plain-across-via-else-plain-across+else-y-down+then-saturating_sub-y w ↦ inr (inr (omega (arith, w.if-saturating_sub-y.true, w.saturating_sub.ensures)))
    ])
    c.requires.blank

pub returns : goal.returns
returns c =
    let coding = c.args.coding.now in
    let plane = coding.plane.now in
    let window = coding.window in
    let values = coding.plain.values.now in
    let there = coding.plain.there.now in
    let y = c.args.y in
    let wide_in = coding.plain.width in
    let across = c.window.inside.width / 2 in
    let top = y - c.window.inside.height / 2 in
    let range = in_range record { width = c.window.inside.width; height = c.window.inside.height } window c.window.view_is c.window.invariant in
    let width : wide_in ≡ plane.width = coding.holds.width_is in
    let height = coding.holds.height_is in
    let wide : c.window.inside.width ≡ window.width = ap (λ (s : WindowSides). s.width) c.window.view_is in
    let high : c.window.inside.height ≡ window.height = ap (λ (s : WindowSides). s.height) c.window.view_is in
    let words = c.code_words.new.words in
    let present = c.code_marks.new.present in
    let long : length words ≡ wide_in - 2 * across = omega arith in
    let same : length present ≡ length words = omega arith in
    let below : y + window.height / 2 < plane.height = omega (arith, c.saturating_sub.ensures) in
    let words_in : IsWritten across c.args.words.now words (c.split_at_mut-rest.result.0.now ++ (words ++ c.split_at_mut-inner.result.1.now)) 0 =
    written across c.args.words.now c.split_at_mut-rest.result.0.now c.split_at_mut-rest.result.1.now words c.split_at_mut-inner.result.1.now 0
    c.split_at_mut-rest.ensures.front c.split_at_mut-rest.ensures.front_len c.split_at_mut-rest.ensures.back
    (c.split_at_mut-inner.ensures.back ∙ ap (λ n. drop n c.split_at_mut-rest.result.1.now) (sym long)) in
    let present_in : IsWritten across c.args.present.now present (c.split_at_mut-rest-2.result.0.now ++ (present ++ c.split_at_mut-marks.result.1.now)) false =
    written across c.args.present.now c.split_at_mut-rest-2.result.0.now c.split_at_mut-rest-2.result.1.now present c.split_at_mut-marks.result.1.now false
    c.split_at_mut-rest-2.ensures.front c.split_at_mut-rest-2.ensures.front_len c.split_at_mut-rest-2.ensures.back
    (c.split_at_mut-marks.ensures.back ∙ ap (λ n. drop n c.split_at_mut-rest-2.result.1.now) (sym (same ∙ long))) in
    -- the centres stand in the row itself
    let centred : (k : ℕ) → k < wide_in - 2 * across → slice_index (take (y * wide_in + across + (wide_in - 2 * across) - (y * wide_in + across)) (drop (y * wide_in + across) values)) k ≡ centre_in wide_in values window k top =
    λ k h.
    let place : y * wide_in + across + k ≡ (top + window.height / 2) * wide_in + window.width / 2 + k =
    ap (λ n. n * wide_in + across + k) (omega arith) ∙ ap (λ n. (top + window.height / 2) * wide_in + n / 2 + k) wide in
    part_at values (y * wide_in + across) (y * wide_in + across + (wide_in - 2 * across) - (y * wide_in + across)) k 0 (omega arith) ∙ ap (slice_index values) place in
    let word_is : (k : ℕ) → k < length words → slice_index words k ≡ word_in wide_in values window (length words - 1 - k) top =
    λ k h. c.code_words.ensures k h ∙ ap (λ v. word_to wide_in values window v (length words - 1 - k) top) (centred (length words - 1 - k) (omega arith)) in
    row_inside plane window y across c.args.words.now words _ c.args.present.now present _ range (ap (λ n. n / 2) wide) (omega arith) same words_in present_in c.requires.blank
    (λ k. elim (cases_lt k (length words)) [
      | inl h ↦ subst (λ v. v < 2 ^ greatest_of window) (sym (word_is k h)) (word_in-small wide_in values window (length words - 1 - k) top range)
      | inr h ↦ subst (λ v. v < 2 ^ greatest_of window) (sym (get_or_past words k 0 h)) (pow_pos (greatest_of window))
    ])
    (λ x l r.
    let i = length words - 1 - (x - across) in
    let inside : i < length words = omega arith in
    let marked : get_or present i false ≡ all_in wide_in there window (length words - 1 - i) top =
    c.code_marks.ensures i (omega arith) ∙ ap (λ n. all_in wide_in there window (n - 1 - i) top) same in
    let fits : Fits plane window x y = record { left = omega arith; right = omega arith; top = omega arith; bottom = below } in
    unpacked-plain plane window x y (length words - 1 - i) top wide_in i values words there present coding.kept range fits width coding.holds.values_are coding.holds.there_are (omega arith) (omega arith) (omega arith) (omega arith)
    (word_is i inside) marked)
