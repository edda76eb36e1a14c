use Rattle.std.proofs.Common.{◌+◌, ap, ◌∙◌, arith}
use Rattle.sgm_census.specs.Codes.{code_by}
use Rattle.sgm_census.proofs.CodeLists.{codes_in-is}
use Rattle.sgm_census.proofs.code_plane.filled.Goals as goal

pub returns : goal.returns
returns c =
    let plane = c.args.plane.now in
    let size = c.size in
    codes_in-is plane c.args.window c.args.rule size.result.width size.result.height c.args.words.items c.args.present.items size.ensures.width size.ensures.height (omega (arith, size.ensures.kept.width_in_range))
    (λ x y hx hy. c.requires.holds.each x y hx hy ∙ ap (λ k. code_by c.args.rule plane c.args.window x k) {x = 0 + y} {y = y} (omega arith))
