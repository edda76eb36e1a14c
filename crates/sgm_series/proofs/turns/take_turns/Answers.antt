use Rattle.std.proofs.Common.{◌≡◌, ◌∙◌, refl, subst, arith, rules, ℕ, ◌<◌, List, length, get_or}
use Rattle.std.proofs.lemmas.List.{length_push}
use Rattle.std.proofs.lemmas.List.FromFn.{length-enumerate_from}
use Rattle.std.proofs.lemmas.Option.{slice_get_read}
use Rattle.std.proofs.lemmas.Iterator.Adapters.{YieldsList-from_vec}
use Rattle.std.proofs.lemmas.Iterator.Consumers.{YieldsList-end, YieldsList-from_enumerate, YieldsList-turn}
use Rattle.sgm_stages.specs.Verdict.{Verdict}
use Rattle.sgm_series.specs.Answers.{AreAnswered}
use Rattle.sgm_series.proofs.ManyTurns.{turns_none, turns_more, turns_done, turns_stop}
use Rattle.sgm_series.proofs.Turning.{item_at, Turn, turn_at}
use Rattle.sgm_series.proofs.turns.take_turns.Given
use Rattle.sgm_series.proofs.turns.take_turns.Goals as goal

-- ---- a turn that came to its end

-- at which place the loop is
ok_at : (g : Given.Over) (c : goal.In-Ok g) →
    (length c.loop-place.yielded < length c.args.answered.answers.items) × (c.in-Some.place ≡ length c.loop-place.yielded)
    × (c.in-Some.answer ≡ get_or c.args.answered.answers.items (length c.loop-place.yielded) c.in-Some.answer)
ok_at g c = item_at c.args.answered.answers.items _ c.in-Some.place c.in-Some.answer
    (YieldsList-turn (YieldsList-from_enumerate {s = c.into_iter-place-iterator.result} (YieldsList-from_vec c.args.answered.answers.items (search rules) (search rules)) (search rules))
    c.loop-place.yielded c.loop-place.place-iterator c.loop-place.yielded_by c.next.result c.next.new.self (c.in-Some.place, c.in-Some.answer) c.in-Some.is c.next.ensures.steps)

ok_turn : (g : Given.Over) (c : goal.In-Ok g) (verdicts : List Verdict) → AreAnswered c.args.answered.entries.now c.args.answered.answers.items verdicts →
    Turn verdicts (length c.loop-place.yielded) c.index-entries-place.result.out c.in-Some.answer
ok_turn g c verdicts are =
    let at = ok_at g c in
    let P : ℕ → Type 0 = λ k. c.index-entries-place.result ≡ get_or c.args.answered.entries.now k c.index-entries-place.result in
    turn_at c.args.answered.entries.now c.args.answered.answers.items verdicts _ c.index-entries-place.result c.in-Some.answer are c.args.answered.count at.0 (subst P at.1 c.index-entries-place.is) at.2

pub loop-place-preserved : goal.loop-place-preserved
loop-place-preserved g c =
    record {
      next = search rules;
      finite = search rules;
      so = rw length_push (turns_more g.S.Shelf g.O.Sink g.E.Sink c.args.answered.entries.now c.args.answered.answers.items (length c.loop-place.yielded)
          c.index-entries-place.result c.in-Some.answer tt
          c.args.shelf.now c.loop-place.shelf c.take_turn.new.shelf c.args.out.now c.loop-place.out c.take_turn.new.out
          c.args.err.now c.loop-place.err c.take_turn.new.err c.args.tally.now c.loop-place.tally c.take_turn.new.tally
          (λ vs are. ok_turn g c vs are) c.loop-place.invariant.so c.in-Ok.ensures);
    }

-- ---- a turn that stopped

stop_at : (g : Given.Over) (c : goal.After-drop-place-iterator g) →
    (length c.loop-place.yielded < length c.args.answered.answers.items) × (c.in-Some.place ≡ length c.loop-place.yielded)
    × (c.in-Some.answer ≡ get_or c.args.answered.answers.items (length c.loop-place.yielded) c.in-Some.answer)
stop_at g c = item_at c.args.answered.answers.items _ c.in-Some.place c.in-Some.answer
    (YieldsList-turn (YieldsList-from_enumerate {s = c.into_iter-place-iterator.result} (YieldsList-from_vec c.args.answered.answers.items (search rules) (search rules)) (search rules))
    c.loop-place.yielded c.loop-place.place-iterator c.loop-place.yielded_by c.next.result c.next.new.self (c.in-Some.place, c.in-Some.answer) c.in-Some.is c.next.ensures.steps)

stop_turn : (g : Given.Over) (c : goal.After-drop-place-iterator g) (verdicts : List Verdict) → AreAnswered c.args.answered.entries.now c.args.answered.answers.items verdicts →
    Turn verdicts (length c.loop-place.yielded) c.index-entries-place.result.out c.in-Some.answer
stop_turn g c verdicts are =
    let at = stop_at g c in
    let P : ℕ → Type 0 = λ k. c.index-entries-place.result ≡ get_or c.args.answered.entries.now k c.index-entries-place.result in
    turn_at c.args.answered.entries.now c.args.answered.answers.items verdicts _ c.index-entries-place.result c.in-Some.answer are c.args.answered.count at.0 (subst P at.1 c.index-entries-place.is) at.2

pub returns-in-Err : goal.returns-in-Err
returns-in-Err g c =
    let at = stop_at g c in
    let entries = c.args.answered.entries.now in
    let count = c.args.answered.count in
    let lt : length c.loop-place.yielded < length entries = omega (arith, at.0, count) in
    let P : ℕ → Type 0 = λ k. c.index-entries-place.result ≡ get_or entries k c.index-entries-place.result in
    turns_stop g.S.Shelf g.O.Sink g.E.Sink entries c.args.answered.answers.items (length c.loop-place.yielded) c.index-entries-place.result c.in-Some.answer
    (record { place = c.in-Some.place; stop = c.in-Err.stop })
    c.args.shelf.now c.loop-place.shelf c.take_turn.new.shelf c.args.out.now c.loop-place.out c.take_turn.new.out
    c.args.err.now c.loop-place.err c.take_turn.new.err c.args.tally.now c.loop-place.tally c.take_turn.new.tally
    at.1 (slice_get_read entries (length entries) (length c.loop-place.yielded) c.index-entries-place.result refl lt (subst P at.1 c.index-entries-place.is))
    (λ vs are. stop_turn g c vs are) c.loop-place.invariant.so c.in-Err.ensures lt

-- ---- the loop begins, and ends

pub loop-place-init : goal.loop-place-init
loop-place-init g c =
    record {
      next = search rules;
      finite = search rules;
      so = turns_none g.S.Shelf g.O.Sink g.E.Sink c.args.answered.entries.now c.args.answered.answers.items c.args.shelf.now c.args.out.now c.args.err.now c.args.tally.now;
    }

pub returns : goal.returns
returns g c =
    let items = c.args.answered.answers.items in
    let road = YieldsList-end (YieldsList-from_enumerate {s = c.into_iter-place-iterator.result} (YieldsList-from_vec items (search rules) (search rules)) (search rules))
    c.loop-place.yielded c.loop-place.place-iterator c.loop-place.yielded_by c.next.result c.next.new.self c.in-None.is c.next.ensures.steps in
    let all : length c.loop-place.yielded ≡ length c.args.answered.entries.now = road.1 ∙ length-enumerate_from 0 items ∙ c.args.answered.count in
    turns_done g.S.Shelf g.O.Sink g.E.Sink c.args.answered.entries.now items (length c.loop-place.yielded) tt
    c.args.shelf.now c.loop-place.shelf c.args.out.now c.loop-place.out c.args.err.now c.loop-place.err c.args.tally.now c.loop-place.tally
    all c.loop-place.invariant.so
