use Rattle.std.proofs.Common.{◌++◌, subst, sym}
use Rattle.sgm_fine.specs.Small.{IsLeast}
use Rattle.sgm_fine.proofs.Halvings.{IsLeast-append}
use Rattle.sgm_fine.proofs.small.least_of_three.Goals as goal

pub returns : goal.returns
returns c =
    let after = c.args.after.now in
    let here = c.args.here.now in
    let before = c.args.before.now in
    subst (λ m. IsLeast m (after ++ here ++ before)) (sym c.min.ensures)
    (IsLeast-append c.min-first.result c.least_of-3.result (after ++ here) before
    (subst (λ m. IsLeast m (after ++ here)) (sym c.min-first.ensures) (IsLeast-append c.least_of.result c.least_of-2.result after here c.least_of.ensures c.least_of-2.ensures))
    c.least_of-3.ensures)
