use Rattle.std.proofs.Common.{◌≡◌, ◌<◌, length, true, get_or, ◌∙◌, sym, arith}
use Rattle.sgm_text.specs.Words.{is_space}
use Rattle.sgm_text.proofs.WordLaws.{word_ends}
use Rattle.sgm_text.proofs.words.word_len.Goals as goal

pub returns-else-not-is_space-clause-word : goal.returns-else-not-is_space-clause-word
returns-else-not-is_space-clause-word c =
    let at = c.loop-count.count in
    let ends : is_space (get_or c.args.bytes.now at 0) ≡ true = sym c.is_space.ensures ∙ c.if-not-is_space.false in
    word_ends c.args.bytes.now at c.loop-count.invariant.some c.loop-count.invariant.within c.loop-count.invariant.word (λ (inside : at < length c.args.bytes.now). ends)

pub returns-after-loop-count-clause-word : goal.returns-after-loop-count-clause-word
returns-after-loop-count-clause-word c =
    let at = c.loop-count.count in
    let past = c.loop-count-test.false in
    word_ends c.args.bytes.now at c.loop-count.invariant.some c.loop-count.invariant.within c.loop-count.invariant.word (λ (inside : at < length c.args.bytes.now). absurd (omega arith))
