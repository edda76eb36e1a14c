use Rattle.std.proofs.Common.{List, ℕ, drop, sym, subst}
use Rattle.std.proofs.lemmas.List.{take_rest}
use Rattle.std.proofs.lemmas.Result.{err_from_is_err_and}
use Rattle.sgm_pgm.specs.Fault.{HasMagic}
use Rattle.sgm_pgm.specs.Parts.{HasCappedHeader}
use Rattle.sgm_pgm.proofs.ReadLaws.{header_fault, header_read}
use Rattle.sgm_pgm.proofs.header.split_header.Goals as goal

pub returns-in_err-header-clause-err : goal.returns-in_err-header-clause-err
returns-in_err-header-clause-err c =
    let magic : HasMagic c.args.bytes.now = c.begins_with_magic.ensures.0 c.if-not-begins_with_magic.false in
    let p = err_from_is_err_and c.from_residual.result c.from_residual.ensures.1 in
    rw (p.1, p.2) (header_fault c.args.bytes.now c.in_err-header.field-0.0 magic c.in_err-header.ensures.reads)

pub returns-clause-ok : goal.returns-clause-ok
returns-clause-ok c =
    let magic : HasMagic c.args.bytes.now = c.begins_with_magic.ensures.0 c.if-not-begins_with_magic.false in
    let P : List ℕ → Type 0 = λ t. HasCappedHeader c.args.bytes.now c.in_ok-header.header.width c.in_ok-header.header.height c.in_ok-header.header.maxval t in
    subst P (sym (take_rest c.args.bytes.now c.header.new.self.at)) (header_read c.args.bytes.now c.in_ok-header.header.width c.in_ok-header.header.height c.in_ok-header.header.maxval (drop c.header.new.self.at c.args.bytes.now) magic c.in_ok-header.ensures.reads)
