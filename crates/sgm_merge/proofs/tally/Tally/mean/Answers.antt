use Rattle.std.proofs.Common.{◌≡◌, ◌<◌, pos, to_z, of_z, w64, arith, ap, ap₂, subst, sym, ◌∙◌}
use Rattle.std.specs.Int.{w128}
use Rattle.std.proofs.lemmas.Int.{ints}
use Rattle.sgm_base.specs.Rounding.{rounded}
use Rattle.sgm_grid.specs.Cells.{IsHeight}
use Rattle.sgm_grid.proofs.Means.{mean_within}
use Rattle.sgm_merge.specs.Tallies.{Heights}
use Rattle.sgm_merge.proofs.tally.Tally.mean.Goals as goal

pub returns-clause-in_range : goal.returns-clause-in_range
returns-clause-in_range c =
    let counted : c.self.inside.count ≡ c.args.self.count = ap (λ (h : Heights). h.count) c.self.view_is in
    let some : 0 < c.self.inside.count = omega (arith, c.requires) in
    let within = mean_within c.self.inside.total c.self.inside.count 2000000000 some c.self.invariant.total_in_range in
    let total : to_z w128 (of_z w128 (to_z w64 (of_z w64 c.self.inside.total))) ≡ c.self.inside.total = omega (arith, ints) in
    let count : to_z w128 c.self.inside.count ≡ pos c.self.inside.count = omega (arith, ints) in
    let mean : c.round_div.result ≡ rounded c.self.inside.total (pos c.self.inside.count) = c.round_div.ensures ∙ ap₂ rounded total count in
    let near : IsHeight c.round_div.result = subst IsHeight (sym mean) within in
    (omega (arith, ints, near.0, near.1), omega (arith, ints, near.0, near.1))
