use Rattle.std.proofs.Common.{◌≡◌, ℕ, ◌∙◌, ap, sym, subst, length, length-set, Some, true}
use Rattle.sgm_energy.specs.declared.dir.Dir.{Dir}
use Rattle.sgm_energy.specs.Dirs.{number_of}
use Rattle.sgm_strip.specs.Parcels.{ParcelParts, is_done, with_done}
use Rattle.sgm_strip.specs.Fronts.{FrontParts, visit_of}
use Rattle.sgm_strip.proofs.Sets.{done_with}
use Rattle.sgm_board.specs.Passes.{after_put}
use Rattle.sgm_board.specs.Boards.{parts_of, IsHeld}
use Rattle.sgm_board.proofs.Handing.{held_after_put, last_visit}
use Rattle.sgm_board_tests.proofs.tests.working.hand_on.Goals as goal

pub put-requires-clause-through : goal.put-requires-clause-through
put-requires-clause-through c =
    let parcel = c.pass.ensures.parcel in
    let front = c.pass.ensures.front in
    let of_board = c.requires.holds.held.of_board in
    let on_board = c.in-Some.ensures.front.on_board in
    let strip : c.args.parcel.now.strip ≡ c.pass.new.parcel.strip = sym (ap (λ (p : ParcelParts). p.strip) parcel) in
    record {
      of_board = (ap (λ (p : ParcelParts). p.scene) parcel ∙ of_board.0, ap (λ (p : ParcelParts). p.cut) parcel ∙ of_board.1);
      on_board = (ap (λ (f : FrontParts). f.scene) front ∙ on_board.0, ap (λ (f : FrontParts). f.cut) front ∙ on_board.1);
      last = last_visit c.pass.new.front.visits c.in-Some.front.visits (visit_of c.args.parcel.now.strip c.number-worker.result) (ap (λ (f : FrontParts). f.visits) front)
          ∙ (λ i. Some (visit_of (strip i) (c.number-worker.ensures i)));
      done = subst (λ d. is_done c.pass.new.parcel.done d ≡ true) (sym (ap (λ (f : FrontParts). f.dir) front))
          (done_with c.args.parcel.now.done c.pass.new.parcel.done c.in-Some.front.dir (ap (λ (p : ParcelParts). p.done) parcel) c.pass.ensures.parcel_kept.directions);
    }

pub returns-clause-holds : goal.returns-clause-holds
returns-clause-holds c =
    let board = c.args.board.now in
    let parcel = c.args.parcel.now in
    let dir = c.in-Some.front.dir in
    let eight : length parcel.done ≡ 8 = sym (length-set parcel.done (number_of dir) _) ∙ (sym (ap (λ (p : ParcelParts). length p.done) c.pass.ensures.parcel) ∙ c.pass.ensures.parcel_kept.directions) in
    let put = c.put.ensures.put in
    let same : c.pass.new.front.dir ≡ dir = ap (λ (f : FrontParts). f.dir) c.pass.ensures.front in
    let taken = parts_of c.try_take.new.pass in
    let after = parts_of c.put.new.pass in
    record {
      own = c.put.ensures.own;
      bare = ap (λ p. p.front) put;
      held = subst (IsHeld board after) (sym c.pass.ensures.parcel)
          (held_after_put board taken after parcel dir c.pass.new.parcel.sums eight (ap (λ p. p.strip) put) (ap (λ p. p.done) put ∙ ap (λ (d : Dir). (after_put taken d).done) same) c.try_take.ensures.held);
    }
