use Rattle.std.proofs.Common.{◌∙◌, Some, sym, subst}
use Rattle.std.specs.Prelude.{All}
use Rattle.std.proofs.lemmas.List.Elements.{All-nil, All-pop, All-push}
use Rattle.crossbeam_utils.specs.declared.cache_padded.CachePadded.{CachePadded}
use Rattle.crossbeam_utils.specs.Padded.{padded_value}
use Rattle.sgm_board.specs.Boards.{parts_of}
use Rattle.sgm_threads.proofs.Pieces.{drained, each_given}
use Rattle.sgm_work.specs.declared.matching.Worker.{Worker}
use Rattle.sgm_work.specs.Crews.{CanWork, GathersFrom, pass_of}
use Rattle.sgm_work.proofs.Gathering.{joined_first, joined_other}
use Rattle.sgm_work.proofs.matching.gather.Goals as goal

-- the worker at hand can work, since all of the crew can
at_hand : (c : goal.After-into_inner) → CanWork c.args.board.now c.into_inner.result
at_hand c =
    let able = λ (w : CachePadded Worker). CanWork c.args.board.now (padded_value w) in
    let rest = (All-pop able c.args.crew.items c.pop.new.self.items (Some c.in-Some.last) c.in-Some.ensures.items c.requires.can_work).0 in
    let given = c.into_iter-other-iterator.ensures.into_iter_gives.0 in
    subst (CanWork c.args.board.now) (sym c.into_inner.ensures)
    (each_given able c.loop-other.yielded c.in-Some-other.other c.into_iter-other-iterator.result c.loop-other.other-iterator c.next.new.self
    (subst (All able) (sym given) rest) c.loop-other.yielded_by c.in-Some-other.ensures.steps)

pub loop-other-init : goal.loop-other-init
loop-other-init c =
    let able = λ (w : CachePadded Worker). CanWork c.args.board.now (padded_value w) in
    let last = (All-pop able c.args.crew.items c.pop.new.self.items (Some c.in-Some.last) c.in-Some.ensures.items c.requires.can_work).1 in
    record {
      can_work = subst (CanWork c.args.board.now) (sym c.into_inner-whole.ensures) last;
      first = λ number has. has;
      others = All-nil (λ worker. GathersFrom (parts_of (pass_of worker)) (parts_of c.into_inner-whole.result.pass));
    }

pub join-requires-clause-other : goal.join-requires-clause-other
join-requires-clause-other c = (at_hand c).own

pub join-requires-clause-other_idle : goal.join-requires-clause-other_idle
join-requires-clause-other_idle c = (at_hand c).idle

pub loop-other-preserved : goal.loop-other-preserved
loop-other-preserved c =
    let before = parts_of c.loop-other.whole.pass in
    let other = parts_of c.into_inner.result.pass in
    let after = parts_of c.join.new.pass in
    let joined = c.join.ensures.joined in
    let first = joined_first before other after joined in
    let from = λ (w : CachePadded Worker). GathersFrom (parts_of (pass_of w)) after in
    record {
      can_work = record {
        own = c.join.ensures.own;
        idle = c.join.ensures.idle;
        room = c.loop-other.invariant.can_work.room;
      };
      first = λ number has. first number (c.loop-other.invariant.first number has);
      others = All-push from c.loop-other.yielded c.in-Some-other.other (λ k d h number has. first number (c.loop-other.invariant.others k d h number has))
          (subst (λ (w : Worker). GathersFrom (parts_of w.pass) after) c.into_inner.ensures (joined_other before other after joined));
    }

pub returns-clause-all : goal.returns-clause-all
returns-clause-all c =
    let whole = parts_of c.loop-other.whole.pass in
    let from = λ (w : CachePadded Worker). GathersFrom (parts_of (pass_of w)) whole in
    let rest = c.pop.new.self.items in
    let given = c.into_iter-other-iterator.ensures.into_iter_gives in
    let all =
    drained c.loop-other.yielded rest c.into_iter-other-iterator.result c.loop-other.other-iterator c.next.new.self given.0 (given.1 ∙ c.pop.new.self.ok.0)
    c.loop-other.yielded_by c.in-None.ensures.steps in
    let last = subst (λ (w : Worker). GathersFrom (parts_of w.pass) whole) c.into_inner-whole.ensures c.loop-other.invariant.first in
    subst (All from) (sym c.in-Some.ensures.items) (All-push from rest c.in-Some.last (subst (All from) all c.loop-other.invariant.others) last)
