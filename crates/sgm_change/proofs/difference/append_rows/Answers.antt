use Rattle.std.proofs.Common.{◌≡◌, ◌++◌, ◌∙◌, ap, sym, append-nil, arith, refl}
use Rattle.std.proofs.lemmas.Result.{IfOk-from_err}
use Rattle.sgm_grid.specs.declared.grid_spec.GridSpec.{GridSpec}
use Rattle.sgm_text.proofs.Beginnings.{on_err, starts_more, starts_on, starts_same}
use Rattle.sgm_change.specs.Texts.{rows_text}
use Rattle.sgm_change.proofs.Rows.{rows_more}
use Rattle.sgm_change.proofs.difference.append_rows.Goals as goal

pub loop-row-preserved : goal.loop-row-preserved
loop-row-preserved c = record {
  so_far = rows_more c.args.earlier.now c.args.later.now c.loop-row.row c.args.into.now.items c.loop-row.into.items c.append_row.new.into.items
      c.row.result.now c.row-in-loop-row.result.now c.row.ensures.value c.row-in-loop-row.ensures.value c.loop-row.invariant.so_far c.in_ok-append_row.ensures.ok;
  starts = starts_more c.args.into.now.items c.loop-row.into.items c.append_row.new.into.items _ c.loop-row.invariant.starts c.in_ok-append_row.ensures.ok;
}

pub loop-row-init : goal.loop-row-init
loop-row-init c = record {
  so_far = sym (append-nil c.args.into.now.items);
  starts = starts_same c.args.into.now.items c.args.into.now.items refl;
}

pub returns-in_err-append_row-clause-ok : goal.returns-in_err-append_row-clause-ok
returns-in_err-append_row-clause-ok c = IfOk-from_err c.from_residual.result _ c.from_residual.ensures.0

pub returns-in_err-append_row-clause-err : goal.returns-in_err-append_row-clause-err
returns-in_err-append_row-clause-err c =
    on_err c.from_residual.result
    (starts_on c.args.into.now.items c.loop-row.into.items c.append_row.new.into.items c.loop-row.invariant.starts c.in_err-append_row.ensures.err)

pub returns-clause-ok : goal.returns-clause-ok
returns-clause-ok c =
    let rows : c.loop-row.row ≡ c.args.earlier.now.spec.rows =
    omega (arith, c.loop-row-test.false, c.loop-row.auto.row-end, ap (λ (s : GridSpec). s.rows) c.spec-row-end.ensures.spec) in
    c.loop-row.invariant.so_far ∙ ap (λ n. c.args.into.now.items ++ rows_text c.args.earlier.now c.args.later.now n) rows
