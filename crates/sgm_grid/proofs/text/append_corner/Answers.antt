use Rattle.std.proofs.Common.{◌≡◌, to_z, of_z, w64, arith, codes}
use Rattle.std.specs.Fmt.{signed_decimal}
use Rattle.std.proofs.lemmas.Int.{ints}
use Rattle.sgm_text.proofs.Beginnings.{err_after}
use Rattle.sgm_grid.proofs.Rows.{two_lines}
use Rattle.sgm_grid.proofs.text.append_corner.Goals as goal

pub returns-clause-ok : goal.returns-clause-ok
returns-clause-ok c =
    let west : to_z w64 (of_z w64 c.args.spec.west) ≡ c.args.spec.west = omega (arith, ints) in
    let south : to_z w64 (of_z w64 c.args.spec.south) ≡ c.args.spec.south = omega (arith, ints) in
    let first : c.as_bytes.result.now ≡ signed_decimal c.args.spec.west = cc in
    let second : c.as_bytes-2.result.now ≡ signed_decimal c.args.spec.south = cc in
    two_lines c.append_line-2.result c.args.into.now.items c.append_line.new.into.items c.append_line-2.new.into.items
    (codes "xllcorner ") c.as_bytes.result.now (codes "yllcorner ") c.as_bytes-2.result.now (signed_decimal c.args.spec.west) (signed_decimal c.args.spec.south)
    c.in_ok-append_line.ensures.ok first second c.append_line-2.ensures.ok

pub returns-clause-err : goal.returns-clause-err
returns-clause-err c = err_after c.append_line-2.result c.args.into.now.items _ _ _ c.in_ok-append_line.ensures.ok c.append_line-2.ensures.err
