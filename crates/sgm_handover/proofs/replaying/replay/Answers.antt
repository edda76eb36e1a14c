use Rattle.std.proofs.Common.{◌≡◌, take, refl, sym, subst, ap, ◌∙◌, arith, below_more}
use Rattle.std.proofs.lemmas.Bool.{true≢false}
use Rattle.std.proofs.lemmas.List.{take_all}
use Rattle.sgm_handover.specs.Handover.{Handover, fresh}
use Rattle.sgm_handover.specs.Events.{run, FirstIllegal, TakenInOrder}
use Rattle.sgm_handover.specs.Machines.{state_of}
use Rattle.sgm_handover.proofs.Order.{taken_in_order}
use Rattle.sgm_handover.proofs.Soundness.{goes_on}
use Rattle.sgm_handover.proofs.Runs.{all_legal, first_illegal, legal_here, run_more}
use Rattle.sgm_handover.proofs.replaying.replay.Goals as goal

pub loop-at-preserved : goal.loop-at-preserved
loop-at-preserved c =
    let first = fresh c.args.strips in
    let es = c.args.events.now in
    let here = c.in-Ok.ensures in
    let state = c.loop-at.invariant.state in
    record {
      legal = below_more _ _ c.loop-at.invariant.legal (legal_here first (state_of c.loop-at.machine) es c.loop-at.at _ c.loop-at-test.true state (here.legal.0 refl));
      state = run_more first (state_of c.loop-at.machine) (state_of c.apply.new.self) es c.loop-at.at _ c.loop-at-test.true state here.after;
    }

pub returns-clause-in_order : goal.returns-clause-in_order
returns-clause-in_order c =
    let n = c.args.strips in
    let es = c.args.events.now in
    let whole : take c.loop-at.at es ≡ es = take_all c.loop-at.at es c.loop-at-test.false in
    let state : state_of c.loop-at.machine ≡ run (fresh n) es = c.loop-at.invariant.state ∙ ap (run (fresh n)) whole in
    subst (λ (m : Handover). TakenInOrder m es) (sym state) (taken_in_order n es (all_legal (fresh n) es c.loop-at.at c.loop-at-test.false c.loop-at.invariant.legal))

pub loop-at-init : goal.loop-at-init
loop-at-init c = record { legal = λ k h. absurd (omega arith); state = c.in_ok-machine.ensures }

pub returns-in-Err-clause-illegal : goal.returns-in-Err-clause-illegal
returns-in-Err-clause-illegal c at e =
    let first = fresh c.args.strips in
    let es = c.args.events.now in
    let same : c.loop-at.at ≡ at = cc in
    subst (FirstIllegal first es) same
    (first_illegal first (state_of c.loop-at.machine) es c.loop-at.at _ c.loop-at-test.true c.loop-at.invariant.state (λ l. true≢false (sym (c.in-Err.ensures.legal.1 l))) c.loop-at.invariant.legal)

pub returns-clause-state : goal.returns-clause-state
returns-clause-state c =
    c.loop-at.invariant.state ∙ ap (run (fresh c.args.strips)) (take_all c.loop-at.at c.args.events.now c.loop-at-test.false)

pub returns-clause-goes_on : goal.returns-clause-goes_on
returns-clause-goes_on c = goes_on (state_of c.loop-at.machine) c.loop-at.machine.sound
