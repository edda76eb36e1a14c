use Rattle.std.proofs.Common.{◌≡◌, ◌++◌, List, ℕ, ap, ◌∙◌, None}
use Rattle.sgm_grid.specs.declared.grid_spec.GridSpec.{GridSpec}
use Rattle.sgm_grid.specs.Text.{head_text}
use Rattle.sgm_text.proofs.Beginnings.{err_after, on_err, starts_same, two_parts}
use Rattle.sgm_change.specs.Texts.{difference_text, rows_text}
use Rattle.sgm_change.proofs.difference.append_text.Goals as goal

pub returns-clause-ok : goal.returns-clause-ok
returns-clause-ok c =
    let old = c.args.into.now.items in
    let empty = difference_text None None in
    let spec = c.args.earlier.now.spec in
    let first : c.append_head.new.into.items ≡ old ++ head_text spec empty =
    c.in_ok-append_head.ensures.ok ∙ ap (λ (t : List ℕ). t ++ head_text c.spec-spec.result empty) c.try_reserve.ensures.items
    ∙ ap (λ (s : GridSpec). old ++ head_text s empty) c.spec-spec.ensures.spec in
    two_parts c.append_rows.result old c.append_head.new.into.items c.append_rows.new.into.items (head_text spec empty) (rows_text c.args.earlier.now c.args.later.now spec.rows) first c.append_rows.ensures.ok

pub returns-in_err-try_reserve-clause-err : goal.returns-in_err-try_reserve-clause-err
returns-in_err-try_reserve-clause-err c =
    on_err c.from_residual.result (starts_same c.args.into.now.items c.try_reserve.new.self.items c.try_reserve.ensures.items)

pub returns-clause-err : goal.returns-clause-err
returns-clause-err c =
    let head = head_text c.spec-spec.result (difference_text None None) in
    err_after c.append_rows.result c.args.into.now.items c.append_head.new.into.items c.append_rows.new.into.items head
    (c.in_ok-append_head.ensures.ok ∙ ap (λ (t : List ℕ). t ++ head) c.try_reserve.ensures.items) c.append_rows.ensures.err
