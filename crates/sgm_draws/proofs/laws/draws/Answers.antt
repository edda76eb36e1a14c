use Rattle.std.proofs.Common.{sym, refl, arith}
use Rattle.sgm_draws.specs.declared.view.View.{View}
use Rattle.sgm_draws.specs.Numbers.{times}
use Rattle.sgm_draws.specs.Rules.{word_of}
use Rattle.sgm_draws.specs.Views.{spent}
use Rattle.std.proofs.Common.{min}
use Rattle.sgm_draws.proofs.Sums.{one_of, two_of}
use Rattle.sgm_draws.proofs.Numbers.{once_most}
use Rattle.sgm_draws.proofs.Steps.{bounded}
use Rattle.sgm_draws.proofs.laws.draws.Goals as goal

pub returns-clause-once : goal.returns-clause-once
returns-clause-once c count made s at n v r h =
    let a = one_of (λ (w : View). times w.drawn n) s.views at v h in let d = r.drawn n in let m = once_most (min (word_of s) count) n in omega arith

pub returns-clause-apart : goal.returns-clause-apart
returns-clause-apart c count made s a b n v u r h h' ne =
    let t = two_of (λ (w : View). times w.drawn n) spent refl s.views a b v u (λ e. ne (sym e)) h h' in
    let d = r.drawn n in let m = once_most (min (word_of s) count) n in omega arith

pub returns-clause-bound : goal.returns-clause-bound
returns-clause-bound c count made s r = bounded count made s r
