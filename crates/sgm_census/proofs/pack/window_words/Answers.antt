use Rattle.std.proofs.Common.{◌≡◌, ℕ, ◌+◌, ◌-◌, ◌*◌, ◌^◌, ◌≤◌, List, ap, ◌∙◌, arith, drop, length, slice_index, subst, sym, take}
use Rattle.std.proofs.lemmas.List.{length-take}
use Rattle.std.specs.List.{flat_map, range_with_len}
use Rattle.sgm_census.specs.Windows.{WindowSides}
use Rattle.sgm_census.specs.Packed.{lesser, pushed}
use Rattle.sgm_census.proofs.RowBits.{ends_in, words_more, words_room, words_small}
use Rattle.sgm_census.proofs.pack.window_words.Goals as goal

pub overflow_mul-from : goal.overflow_mul-from
overflow_mul-from c =
    let high : c.window.inside.height ≡ c.args.window.height = ap (λ (s : WindowSides). s.height) c.window.view_is in
    omega (arith, ends_in c.args.top c.loop-j.j c.args.window.height c.args.plain.width (length c.args.plain.values.now) (omega (arith, high, c.loop-j-test.true)) c.requires.rows)

pub overflow_add-from-in-loop-j : goal.overflow_add-from-in-loop-j
overflow_add-from-in-loop-j c =
    let high : c.window.inside.height ≡ c.args.window.height = ap (λ (s : WindowSides). s.height) c.window.view_is in
    omega (arith, ends_in c.args.top c.loop-j.j c.args.window.height c.args.plain.width (length c.args.plain.values.now) (omega (arith, high, c.loop-j-test.true)) c.requires.rows)

pub slice_bounds-push_row-end : goal.slice_bounds-push_row-end
slice_bounds-push_row-end c =
    let high : c.window.inside.height ≡ c.args.window.height = ap (λ (s : WindowSides). s.height) c.window.view_is in
    omega (arith, ends_in c.args.top c.loop-j.j c.args.window.height c.args.plain.width (length c.args.plain.values.now) (omega (arith, high, c.loop-j-test.true)) c.requires.rows)

pub push_row-requires-clause-room : goal.push_row-requires-clause-room
push_row-requires-clause-room c = λ k h.
    let values = c.args.plain.values.now in
    let width = c.args.plain.width in
    let window = c.args.window in
    let j = c.loop-j.j in
    let word = slice_index c.loop-j.words k in
    let wide : c.window.inside.width ≡ window.width = ap (λ (s : WindowSides). s.width) c.window.view_is in
    let rows : ℕ → List ℕ = λ j. take window.width (drop k (take width (drop ((c.args.top + j) * width) values))) in
    let small = words_small (slice_index c.args.centres.now k) window.width j rows (λ i. omega (arith, length-take window.width (drop k (take width (drop ((c.args.top + i) * width) values))))) in
    subst (λ n. (word + 1) * 2 ^ n ≤ 2 ^ 63) (sym wide)
    (words_room window.width c.window.inside.height j word (omega (arith, c.window.invariant.wide)) (omega (arith, c.window.invariant.high)) (omega arith)
    (omega (arith, c.loop-j.invariant k h, small)))

pub loop-j-preserved : goal.loop-j-preserved
loop-j-preserved c = λ k h.
    let values = c.args.plain.values.now in
    let width = c.args.plain.width in
    let window = c.args.window in
    let top = c.args.top in
    let j = c.loop-j.j in
    let from = (top + j) * width in
    let w = c.window.inside.width in
    let word = slice_index c.loop-j.words k in
    let at = slice_index c.args.centres.now k in
    let wide : w ≡ window.width = ap (λ (s : WindowSides). s.width) c.window.view_is in
    let whole : from + width - from ≡ width = omega arith in
    let rows : ℕ → List ℕ = λ j. take window.width (drop k (take width (drop ((top + j) * width) values))) in
    words_more at j word (slice_index c.push_row.new.words k) rows (c.loop-j.invariant k (omega arith))
    (c.push_row.ensures k h
    ∙ ap (λ n. pushed word (lesser at (take w (drop k (take n (drop from values)))))) whole
    ∙ ap (λ n. pushed word (lesser at (take n (drop k (take width (drop from values)))))) wide)

pub offset_bounds-plain-from : goal.offset_bounds-plain-from
offset_bounds-plain-from c =
    let high : c.window.inside.height ≡ c.args.window.height = ap (λ (s : WindowSides). s.height) c.window.view_is in
    omega (arith, ends_in c.args.top c.loop-j.j c.args.window.height c.args.plain.width (length c.args.plain.values.now) (omega (arith, high, c.loop-j-test.true)) c.requires.rows)

pub returns : goal.returns
returns c = λ k h.
    let high : c.window.inside.height ≡ c.args.window.height = ap (λ (s : WindowSides). s.height) c.window.view_is in
    let j : c.loop-j.j ≡ c.args.window.height = omega (arith, high, c.loop-j-test.false, c.loop-j.auto.j-end) in
    subst (λ n. slice_index c.loop-j.words k ≡ pushed 0 (lesser (slice_index c.args.centres.now k)
    (flat_map (λ j. take c.args.window.width (drop k (take c.args.plain.width (drop ((c.args.top + j) * c.args.plain.width) c.args.plain.values.now)))) (range_with_len 0 n))))
    j (c.loop-j.invariant k h)

pub loop-j-init : goal.loop-j-init
loop-j-init c = omega arith

pub push_row-requires-clause-bits_length : goal.push_row-requires-clause-bits_length
push_row-requires-clause-bits_length c = omega arith
