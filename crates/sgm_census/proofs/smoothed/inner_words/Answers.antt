use Rattle.std.proofs.Common.{◌≡◌, ◌-◌, ◌*◌, ◌/◌, ◌^◌, ◌<◌, ap, ◌∙◌, arith, drop, length, subst, sym}
use Rattle.sgm_census.specs.Windows.{WindowSides, IsWindow, greatest_of}
use Rattle.sgm_census.proofs.CodeRows.{written}
use Rattle.sgm_census.proofs.PlainCodes.{word_to-small}
use Rattle.sgm_census.proofs.SmoothedRows.{written_small}
use Rattle.sgm_census.proofs.smoothed.inner_words.Goals as goal

pub returns-clause-within : goal.returns-clause-within
returns-clause-within c =
    let window = c.args.window in
    let across = c.window.inside.width / 2 in
    let words = c.code_words.new.words in
    let range : IsWindow window.width window.height = subst (λ (v : WindowSides). IsWindow v.width v.height) c.window.view_is c.window.invariant in
    let long : length words ≡ c.args.plain.width - 2 * across = omega arith in
    written_small (2 ^ greatest_of window) across c.args.words.now words _
    (written across c.args.words.now c.split_at_mut-rest.result.0.now c.split_at_mut-rest.result.1.now words c.split_at_mut-inner.result.1.now 0
    c.split_at_mut-rest.ensures.front c.split_at_mut-rest.ensures.front_len c.split_at_mut-rest.ensures.back
    (c.split_at_mut-inner.ensures.back ∙ ap (λ n. drop n c.split_at_mut-rest.result.1.now) (sym long)))
    c.requires.within
    (λ k h. subst (λ v. v < 2 ^ greatest_of window) (sym (c.code_words.ensures k h))
    (word_to-small c.args.plain.width c.args.plain.values.now window _ (length words - 1 - k) _ range))
