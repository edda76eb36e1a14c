use Rattle.std.proofs.Common.{◌≡◌, ◌+◌, ℕ, sym, ap, subst, ◌∙◌, arith, string_bytes}
use Rattle.std.proofs.lemmas.List.{length-map}
use Rattle.sgm_words.specs.Faults.{set_for, options_at}
use Rattle.sgm_words.specs.Operands.{bytes_of}
use Rattle.sgm_words.proofs.FirstFaults.{none_but}
use Rattle.sgm_words.proofs.Reading.{SoFar, unset, so_first, so_next, so_repeated, so_bad, so_last, all_given}
use Rattle.sgm_words.proofs.settings.read_settings.Goals as goal

pub loop-position-init : goal.loop-position-init
loop-position-init c =
    let P : ℕ → Type 0 = λ n. SoFar c.args.command (bytes_of c.args.words.now) n unset in
    let start : options_at c.args.command ≡ c.row.result.operands + 1 = omega (arith, c.row.ensures.operands) in
    subst P start (so_first c.args.command (bytes_of c.args.words.now))

pub loop-position-preserved : goal.loop-position-preserved
loop-position-preserved c =
    so_next c.args.command (bytes_of c.args.words.now) c.loop-position.position c.loop-position.settings c.in-Some.setting c.loop-position.invariant
    (omega (arith, length-map c.args.words.now string_bytes)) (ap (set_for c.args.command) (sym c.word_at.ensures) ∙ sym c.set_for.ensures.value ∙ c.in-Some.is) c.in-Some.ensures.place
    (sym c.is_some.ensures ∙ c.if-is_some.false)

pub returns-then-is_some-clause-fault : goal.returns-then-is_some-clause-fault
returns-then-is_some-clause-fault c =
    so_repeated c.args.command (bytes_of c.args.words.now) c.loop-position.position c.loop-position.settings c.in-Some.setting c.loop-position.invariant
    (omega (arith, length-map c.args.words.now string_bytes)) (ap (set_for c.args.command) (sym c.word_at.ensures) ∙ sym c.set_for.ensures.value ∙ c.in-Some.is) c.in-Some.ensures.place
    (sym c.is_some.ensures ∙ c.if-is_some.true)

pub returns-in_default-clause-fault : goal.returns-in_default-clause-fault
returns-in_default-clause-fault c =
    so_bad c.args.command (bytes_of c.args.words.now) c.loop-position.position c.loop-position.settings c.loop-position.invariant
    (omega (arith, length-map c.args.words.now string_bytes)) (ap (set_for c.args.command) (sym c.word_at.ensures) ∙ sym c.set_for.ensures.value ∙ none_but _ c.in_default.not-Some)

pub returns-clause-fault : goal.returns-clause-fault
returns-clause-fault c = so_last c.args.command (bytes_of c.args.words.now) c.loop-position.position c.loop-position.settings c.loop-position.invariant (omega (arith, length-map c.args.words.now string_bytes))

pub returns-clause-given : goal.returns-clause-given
returns-clause-given c = all_given c.args.command (bytes_of c.args.words.now) c.loop-position.position c.loop-position.settings c.loop-position.invariant (omega (arith, length-map c.args.words.now string_bytes))
