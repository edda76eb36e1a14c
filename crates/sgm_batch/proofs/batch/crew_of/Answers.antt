use Rattle.std.proofs.Common.{◌≡◌, ℕ, ap, ◌∙◌, length, Some, arith}
use Rattle.sgm_draws.specs.Tickets.{new_ticket}
use Rattle.sgm_draws.proofs.Popping.{rest_new}
use Rattle.sgm_batch.proofs.Gathering.{last_new}
use Rattle.sgm_batch.proofs.batch.crew_of.Goals as goal

pub one_worker-requires-clause-ticket : goal.one_worker-requires-clause-ticket
one_worker-requires-clause-ticket c =
    let is_last = last_new c.args.job.now.draws.now c.args.tickets.items c.pop.new.self.items c.in-Some.last c.in-Some.ensures.items c.requires.tickets in
    let none : length c.pop.new.self.items ≡ 0 = omega (arith, c.in-None.ensures.cases, c.pop.new.self.ok) in
    (is_last.0, is_last.1 ∙ ap (λ (n : ℕ). new_ticket n) none)

pub two_workers-requires-clause-one : goal.two_workers-requires-clause-one
two_workers-requires-clause-one c =
    let draws = c.args.job.now.draws.now in
    let rest = rest_new draws c.args.tickets.items c.pop.new.self.items (Some c.in-Some.last) c.in-Some.ensures.items c.requires.tickets in
    let is_first = last_new draws c.pop.new.self.items c.pop-2.new.self.items c.in-Some-pop.first c.in-Some-pop.ensures.items rest in
    let none : length c.pop-2.new.self.items ≡ 0 =
    omega (arith, c.requires.count, c.in-Some.ensures.cases, c.in-Some-pop.ensures.cases, c.pop-2.new.self.ok) in
    (is_first.0, is_first.1 ∙ ap (λ (n : ℕ). new_ticket n) none)

pub two_workers-requires-clause-other : goal.two_workers-requires-clause-other
two_workers-requires-clause-other c =
    let is_last = last_new c.args.job.now.draws.now c.args.tickets.items c.pop.new.self.items c.in-Some.last c.in-Some.ensures.items c.requires.tickets in
    let one : length c.pop.new.self.items ≡ 1 =
    omega (arith, c.requires.count, c.in-Some.ensures.cases, c.in-Some-pop.ensures.cases, c.pop.new.self.ok) in
    (is_last.0, is_last.1 ∙ ap (λ (n : ℕ). new_ticket n) one)
