use Rattle.std.proofs.Common.{◌≡◌, to_z, of_z, w64, arith, codes, refl}
use Rattle.std.specs.Fmt.{signed_decimal}
use Rattle.std.proofs.lemmas.Int.{ints}
use Rattle.sgm_text.proofs.Beginnings.{err_after}
use Rattle.sgm_grid.proofs.Rows.{two_lines}
use Rattle.sgm_grid.proofs.text.append_cell.Goals as goal

pub returns-clause-ok : goal.returns-clause-ok
returns-clause-ok c =
    let cell : to_z w64 (of_z w64 c.args.spec.cell) ≡ c.args.spec.cell = omega (arith, ints) in
    let first : c.as_bytes.result.now ≡ signed_decimal c.args.spec.cell = cc in
    two_lines c.append_line-2.result c.args.into.now.items c.append_line.new.into.items c.append_line-2.new.into.items
    (codes "cellsize ") c.as_bytes.result.now (codes "NODATA_value ") c.args.empty.now (signed_decimal c.args.spec.cell) c.args.empty.now
    c.in_ok-append_line.ensures.ok first refl c.append_line-2.ensures.ok

pub returns-clause-err : goal.returns-clause-err
returns-clause-err c = err_after c.append_line-2.result c.args.into.now.items _ _ _ c.in_ok-append_line.ensures.ok c.append_line-2.ensures.err
