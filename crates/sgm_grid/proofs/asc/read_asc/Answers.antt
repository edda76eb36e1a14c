use Rattle.std.proofs.Common.{◌≡◌, Result, sym, ap, ◌∙◌, subst}
use Rattle.std.proofs.lemmas.Result.{err_from_is_err_and}
use Rattle.sgm_grid.specs.declared.asc_fault.AscFault.{AscFault}
use Rattle.sgm_grid.specs.declared.grid_spec.GridSpec.{GridSpec}
use Rattle.sgm_grid.specs.Asc.{asc_reading, grid_of, Gives}
use Rattle.sgm_grid.specs.Cells.{Cells}
use Rattle.sgm_text.specs.Words.{words_of}
use Rattle.sgm_grid.proofs.HeadLaws.{told, told_range_fault, told_word}
use Rattle.sgm_grid.proofs.asc.read_asc.Goals as goal

pub returns-in_err-numbers : goal.returns-in_err-numbers
returns-in_err-numbers c =
    let p = err_from_is_err_and c.from_residual.result c.from_residual.ensures.1 in
    rw (p.1, p.2) (told_word (words_of c.args.bytes.now) c.in_err-numbers.field-0.0 c.in_err-numbers.ensures.err)

pub returns-in_err-spec : goal.returns-in_err-spec
returns-in_err-spec c =
    let p = err_from_is_err_and c.from_residual-in_err-spec.result c.from_residual-in_err-spec.ensures.1 in
    rw (p.1, p.2) (told_range_fault (words_of c.args.bytes.now) (words_of c.in_ok-numbers.text.now) c.in_ok-numbers.numbers c.in_err-spec.field-0.0 c.in_ok-numbers.ensures.ok c.in_err-spec.ensures.err)

pub returns : goal.returns
returns c =
    let rest = words_of c.in_ok-numbers.text.now in
    let whole = told (words_of c.args.bytes.now) rest c.in_ok-numbers.numbers c.in_ok-numbers.ensures.ok c.in_ok-spec.ensures.in_range in
    let same : grid_of c.in_ok-spec.spec rest ≡ asc_reading c.args.bytes.now = ap (λ (s : GridSpec). grid_of s rest) c.in_ok-spec.ensures.ok ∙ sym whole in
    subst (λ (r : Result Cells AscFault). Gives r c.grid_of.result) same c.grid_of.ensures
