use Rattle.std.proofs.Common.{◌++◌, List, ℕ, codes, decimal, ap, ◌∙◌}
use Rattle.sgm_outcome.proofs.InputNames.{name_alone, name_with}
use Rattle.sgm_outcome.proofs.refusals.with_input.Goals as goal

pub returns-in-Some-clause-bytes : goal.returns-in-Some-clause-bytes
returns-in-Some-clause-bytes c =
    let number = c.in-Some.number in
    let word = c.text-line.ensures.bytes ∙ ap (λ (x : List ℕ). c.args.line ++ x) c.word.ensures.value in
    c.number-in-Some.ensures.bytes
    ∙ ap (λ (x : List ℕ). x ++ decimal number) (c.text.ensures.bytes ∙ ap (λ (x : List ℕ). x ++ codes " ") word)
    ∙ name_with c.args.input c.args.line number c.in-Some.ensures

pub returns-in-None-clause-bytes : goal.returns-in-None-clause-bytes
returns-in-None-clause-bytes c =
    c.text-line.ensures.bytes ∙ ap (λ (x : List ℕ). c.args.line ++ x) c.word.ensures.value
    ∙ name_alone c.args.input c.args.line c.in-None.ensures
