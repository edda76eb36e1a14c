use Rattle.std.proofs.Common.{ℕ, ◌*◌, ◌≤◌, Option, None, sym, subst}
use Rattle.std.specs.Prelude.{IfSome}
use Rattle.std.proofs.lemmas.List.Elements.{All-replicate}
use Rattle.sgm_base.specs.Values.{AtMost, Values}
use Rattle.sgm_board_tests.proofs.tests.making.guide_of.Goals as goal

pub make-requires-clause-values : goal.make-requires-clause-values
make-requires-clause-values c =
    subst (λ (p : Values). AtMost 1 p.entries) (sym c.in_ok-blank.ensures)
    (All-replicate (λ (entry : Option ℕ). IfSome entry (λ v. v ≤ 1)) (c.args.size.width * c.args.size.height) None tt)
