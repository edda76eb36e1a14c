use Rattle.std.proofs.Common.{ℤ, Option, drop, length, ◌-◌}
use Rattle.std.specs.Option.{ForSome}
use Rattle.std.proofs.lemmas.List.Elements.{All-take, All-drop}
use Rattle.sgm_grid.specs.Cells.{IsHeight}
use Rattle.sgm_text.proofs.Beginnings.{on_err, starts_on, starts_same, starts_with}
use Rattle.sgm_change.proofs.Rows.{row_ends, row_starts}
use Rattle.sgm_change.proofs.difference.append_row.Goals as goal

pub append_rest-requires-clause-earlier : goal.append_rest-requires-clause-earlier
append_rest-requires-clause-earlier c =
    let P : Option ℤ → Type 0 = λ height. ForSome height IsHeight in
    All-take P (length c.args.earlier.now - 1) (drop 1 c.args.earlier.now) (All-drop P 1 c.args.earlier.now c.requires.earlier)

pub append_rest-requires-clause-later : goal.append_rest-requires-clause-later
append_rest-requires-clause-later c =
    let P : Option ℤ → Type 0 = λ height. ForSome height IsHeight in
    All-take P (length c.args.later.now - 1) (drop 1 c.args.later.now) (All-drop P 1 c.args.later.now c.requires.later)

pub returns-clause-ok : goal.returns-clause-ok
returns-clause-ok c =
    row_ends c.extend_from_slice.result c.args.into.now.items c.append_difference.new.into.items c.append_rest.new.into.items c.extend_from_slice.new.self.items
    c.args.earlier.now c.args.later.now c.requires.some c.requires.lengths c.in_ok-append_difference.ensures.ok c.in_ok-append_rest.ensures.ok c.extend_from_slice.ensures.items

pub returns-in_err-append_difference-clause-err : goal.returns-in_err-append_difference-clause-err
returns-in_err-append_difference-clause-err c =
    on_err c.from_residual.result (starts_same c.args.into.now.items c.append_difference.new.into.items c.in_err-append_difference.ensures.err)

pub returns-in_err-append_rest-clause-err : goal.returns-in_err-append_rest-clause-err
returns-in_err-append_rest-clause-err c =
    let old = c.args.into.now.items in
    let first = c.append_difference.new.into.items in
    on_err c.from_residual-in_err-append_rest.result
    (starts_on old first c.append_rest.new.into.items (starts_with old first _ c.in_ok-append_difference.ensures.ok) c.in_err-append_rest.ensures.err)

pub returns-clause-err : goal.returns-clause-err
returns-clause-err c =
    row_starts c.extend_from_slice.result c.args.into.now.items c.append_difference.new.into.items c.append_rest.new.into.items c.extend_from_slice.new.self.items _ _
    c.in_ok-append_difference.ensures.ok c.in_ok-append_rest.ensures.ok c.extend_from_slice.ensures.items
