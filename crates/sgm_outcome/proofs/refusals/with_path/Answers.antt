use Rattle.std.proofs.Common.{◌++◌, List, ℕ, sym, ap, ◌∙◌, arith}
use Rattle.sgm_outcome.proofs.KeyPaths.{path_with, path_without}
use Rattle.sgm_outcome.proofs.refusals.with_path.Goals as goal

pub text-line-requires : goal.text-line-requires
text-line-requires c = omega (arith, c.front.ensures.short)

pub text-requires : goal.text-requires
text-requires c = omega (arith, c.front.ensures.short, c.back.ensures.short, c.text-line.ensures.len, c.number.ensures.len)

pub returns-then-has_index-clause-bytes : goal.returns-then-has_index-clause-bytes
returns-then-has_index-clause-bytes c =
    path_with c.args.key c.args.line c.text-line.result c.number.result c.text.result (sym c.has_index.ensures ∙ c.if-has_index.true)
    (c.text-line.ensures.bytes ∙ ap (λ (x : List ℕ). c.args.line ++ x) c.front.ensures.value) c.number.ensures.bytes (c.text.ensures.bytes ∙ ap (λ (x : List ℕ). c.number.result ++ x) c.back.ensures.value)

pub returns-then-has_index-clause-short : goal.returns-then-has_index-clause-short
returns-then-has_index-clause-short c = omega (arith, c.front.ensures.short, c.back.ensures.short, c.text-line.ensures.len, c.number.ensures.len, c.text.ensures.len)

pub returns-else-has_index-clause-bytes : goal.returns-else-has_index-clause-bytes
returns-else-has_index-clause-bytes c =
    path_without c.args.key c.args.line c.text-line.result (sym c.has_index.ensures ∙ c.if-has_index.false) (c.text-line.ensures.bytes ∙ ap (λ (x : List ℕ). c.args.line ++ x) c.front.ensures.value)

pub returns-else-has_index-clause-short : goal.returns-else-has_index-clause-short
returns-else-has_index-clause-short c = omega (arith, c.front.ensures.short, c.text-line.ensures.len)
