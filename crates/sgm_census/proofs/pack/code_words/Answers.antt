use Rattle.std.proofs.Common.{◌≡◌, ◌-◌, ◌*◌, ◌/◌, ap, ◌∙◌, arith, length, slice_index}
use Rattle.sgm_census.specs.Windows.{WindowSides}
use Rattle.sgm_census.specs.Packed.{in_rows, lesser, pushed, without, word_to}
use Rattle.sgm_census.proofs.pack.code_words.Goals as goal

pub returns : goal.returns
returns c = λ k h.
    let values = c.args.plain.values.now in
    let width = c.args.plain.width in
    let window = c.args.window in
    let centres = c.args.centres.now in
    let place = length c.drop_centres.new.words - 1 - k in
    let same : length c.drop_centres.new.words ≡ length c.reverse.new.self = omega (arith, c.reverse.ensures.len) in
    let half = ap (λ (s : WindowSides). s.width * s.height / 2) c.window.view_is in
    let bits = pushed 0 (lesser (slice_index centres place) (in_rows width values window place c.args.top)) in
    c.reverse.ensures.by_index k 0 (omega (arith, h, same))
    ∙ c.drop_centres.ensures place (omega (arith, h, same))
    ∙ ap (without (c.window.inside.width * c.window.inside.height / 2)) (c.window_words.ensures place (omega (arith, h, same, c.drop_centres.auto.words)))
    ∙ ap (λ m. without m bits) half
    ∙ ap (λ n. word_to width values window (slice_index centres (n - 1 - k)) (n - 1 - k) c.args.top) same
