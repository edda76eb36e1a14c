use Rattle.std.proofs.Common.{lit<, ℕ, List, Option}
use Rattle.sgm_text.proofs.LineLaws.{line_before, line_last}
use Rattle.sgm_text.proofs.words.split_line.Goals as goal

pub returns-in-Some-clause-lines : goal.returns-in-Some-clause-lines
returns-in-Some-clause-lines c =
    let e = c.in-Some.ensures.byte (lit< tt) (λ (w : List ℕ) (o : Option (ℕ × ℕ)) h. h) in
    line_before c.args.text.now c.in-Some.line.now c.in-Some.rest.now e.0 e.1 e.2

pub returns-in-None-clause-lines : goal.returns-in-None-clause-lines
returns-in-None-clause-lines c = line_last c.args.text.now (c.in-None.ensures.byte (lit< tt) (λ (w : List ℕ) (o : Option (ℕ × ℕ)) h. h))
