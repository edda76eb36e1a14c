use Rattle.std.proofs.Common.{◌++◌, subst, sym}
use Rattle.sgm_fine.specs.Small.{IsGreatest}
use Rattle.sgm_fine.proofs.Halvings.{IsGreatest-append}
use Rattle.sgm_fine.proofs.small.greatest_of_three.Goals as goal

pub returns : goal.returns
returns c =
    let after = c.args.after.now in
    let here = c.args.here.now in
    let before = c.args.before.now in
    subst (λ m. IsGreatest m (after ++ here ++ before)) (sym c.max.ensures)
    (IsGreatest-append c.max-first.result c.greatest_of-3.result (after ++ here) before
    (subst (λ m. IsGreatest m (after ++ here)) (sym c.max-first.ensures) (IsGreatest-append c.greatest_of.result c.greatest_of-2.result after here c.greatest_of.ensures c.greatest_of-2.ensures))
    c.greatest_of-3.ensures)
