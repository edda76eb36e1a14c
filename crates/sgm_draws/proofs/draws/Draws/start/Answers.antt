use Rattle.std.proofs.Common.{List, [], ◌∷◌, sym, subst, arith}
use Rattle.atomic_table.specs.Table.{opening}
use Rattle.sgm_draws.specs.Rules.{Rule}
use Rattle.sgm_draws.specs.Views.{dealer}
use Rattle.sgm_draws.proofs.Seats.{opens}
use Rattle.sgm_draws.proofs.draws.Draws.start.Goals as goal

pub new-requires : goal.new-requires
new-requires c =
    let n = c.args.count in
    let m = c.args.passes in
    subst (λ (xs : List (Unit {0})). Rule n m (opening (0 ∷ []) xs (dealer n m 0 m))) (sym c.new-slots.ensures.items) (opens n m (omega arith))
