use Rattle.std.proofs.Common.{rules, ◌≡◌, arith, length, refl, subst}
use Rattle.std.specs.Fork.{ChangesAt, ChangesEach}
use Rattle.sgm_threads.proofs.Starts.{and_last}
use Rattle.sgm_threads.proofs.starting.+starting.Goals as goal

pub in_threads-returns-then-is_empty : goal.in_threads-returns-then-is_empty
in_threads-returns-then-is_empty g t c =
    let none : length c.in-Some.rest.now ≡ 0 = search rules in
    and_last g.F.Fn c.args.f.now c.args.s.now c.in-Some.rest.now c.in-Some.rest.now c.in-Some.last.now c.at_place.new.place (search rules) refl (λ i d l. absurd (omega (arith, none)))
    (subst (λ k. ChangesAt g.F.Fn c.args.f.now k c.in-Some.last.now c.at_place.new.place) {x = 0} (omega (arith, none)) (search rules))

pub in_threads-returns-else-is_empty : goal.in_threads-returns-else-is_empty
in_threads-returns-else-is_empty g t c =
    and_last g.F.Fn c.args.f.now c.args.s.now c.in-Some.rest.now c.last_and_rest.new.rest _ _ (search rules) (search rules) c.last_and_rest.ensures.rest c.last_and_rest.ensures.last

pub last_and_rest-returns-clause-last : goal.last_and_rest-returns-clause-last
last_and_rest-returns-clause-last g t c =
    let theirs = c.join_mut.new.f in
    subst (ChangesAt g.F.Fn c.args.f.now c.args.at c.args.last.now) {x = theirs.2.now} (search rules) (search rules)

pub last_and_rest-returns-clause-rest : goal.last_and_rest-returns-clause-rest
last_and_rest-returns-clause-rest g t c =
    let ours = c.join_mut.new.g in
    subst (ChangesEach g.F.Fn c.args.f.now c.args.rest.now) {x = ours.2.now} (search rules) (search rules)
