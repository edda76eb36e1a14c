use Rattle.std.proofs.Common.{◌≡◌, ◌+◌, ◌*◌, ◌∙◌, [], ◌∷◌, ◌++◌, sym, ap, subst, true}
use Rattle.sgm_energy.specs.declared.dir.Dir.{Dir}
use Rattle.sgm_energy.specs.Dirs.{position_of}
use Rattle.sgm_strip.specs.Fronts.{FrontParts, visit_of}
use Rattle.sgm_strip.specs.Parcels.{ParcelParts, is_done, parcel_of, with_done}
use Rattle.sgm_strip.proofs.Sets.{done_with}
use Rattle.sgm_board.specs.Words.{dir_word}
use Rattle.sgm_board.specs.Passes.{PassParts, after_look, after_put}
use Rattle.sgm_board.specs.Boards.{parts_of, strips_of}
use Rattle.sgm_work.proofs.Adding.{held_put, last_by, tried_none, tried_some}
use Rattle.sgm_work.proofs.scanning.hand_on.Goals as goal

pub returns-in_default-clause-holds : goal.returns-in_default-clause-holds
returns-in_default-clause-holds g c = record {
  own = c.try_take.ensures.own;
  bare = ap (λ (p : PassParts). p.front) c.in_default.ensures.none.2 ∙ c.requires.holds.bare;
  held = c.try_take.ensures.held;
}

pub returns-in_default-clause-tried : goal.returns-in_default-clause-tried
returns-in_default-clause-tried g c = let none = c.in_default.ensures.none in tried_none (parts_of c.args.pass.now) c.args.parcel.now.strip c.args.dir none.0 _ none.2

pub put-requires-clause-through : goal.put-requires-clause-through
put-requires-clause-through g c =
    let parcel = c.pass.ensures.parcel in
    let front = c.pass.ensures.front in
    let of_board = c.requires.holds.held.of_board in
    let on_board = c.in-Some.ensures.front.on_board in
    let strip = ap (λ (p : ParcelParts). p.strip) parcel in
    let number : c.worker.result ≡ (parts_of c.try_take.new.pass).number = c.worker.ensures ∙ c.requires.came.0 ∙ sym (ap (λ (p : PassParts). p.number) c.in-Some.ensures.some) in
    record {
      of_board = (ap (λ (p : ParcelParts). p.scene) parcel ∙ of_board.0, ap (λ (p : ParcelParts). p.cut) parcel ∙ of_board.1);
      on_board = (ap (λ (f : FrontParts). f.scene) front ∙ on_board.0, ap (λ (f : FrontParts). f.cut) front ∙ on_board.1);
      last = last_by c.pass.new.front c.in-Some.front.visits c.pass.new.parcel.strip (parts_of c.try_take.new.pass).number
          (ap (λ (f : FrontParts). f.visits) front ∙ (λ i. c.in-Some.front.visits ++ visit_of (sym strip i) (number i) ∷ []));
      done = subst (λ d. is_done c.pass.new.parcel.done d ≡ true) (sym (ap (λ (f : FrontParts). f.dir) front)) (done_with c.args.parcel.now.done c.pass.new.parcel.done c.in-Some.front.dir (ap (λ (p : ParcelParts). p.done) c.pass.ensures.parcel) c.pass.ensures.parcel_kept.directions);
    }

pub returns-clause-holds : goal.returns-clause-holds
returns-clause-holds g c =
    let dir = c.in-Some.front.dir in
    let same : c.pass.new.front.dir ≡ dir = ap (λ (f : FrontParts). f.dir) c.pass.ensures.front in
    let put = c.put.ensures.put in
    let took = c.in-Some.ensures.some in
    record {
      own = c.put.ensures.own;
      bare = ap (λ (p : PassParts). p.front) put;
      held = held_put c.args.board.now (parts_of c.args.pass.now) (parts_of c.put.new.pass) c.args.parcel.now c.pass.new.parcel c.pass.new.front.dir c.requires.holds.held
          (ap (λ (p : PassParts). p.strip) put ∙ ap (λ (p : PassParts). p.strip) took)
          (ap (λ (p : PassParts). p.done) put ∙ ap (λ (p : PassParts). (after_put p c.pass.new.front.dir).done) took)
          (subst (λ d. c.pass.new.parcel ≡ parcel_of c.args.parcel.now.scene c.args.parcel.now.cut c.args.parcel.now.strip (with_done c.args.parcel.now.done d) c.args.parcel.now.costs c.pass.new.parcel.sums) (sym same) c.pass.ensures.parcel)
          (subst (λ d. is_done c.pass.new.parcel.done d ≡ true) (sym same) (done_with c.args.parcel.now.done c.pass.new.parcel.done c.in-Some.front.dir (ap (λ (p : ParcelParts). p.done) c.pass.ensures.parcel) c.pass.ensures.parcel_kept.directions));
    }

pub returns-clause-tried : goal.returns-clause-tried
returns-clause-tried g c =
    let same : c.pass.new.front.dir ≡ c.args.dir = ap (λ (f : FrontParts). f.dir) c.pass.ensures.front ∙ c.in-Some.ensures.front.same_dir in
    tried_some (parts_of c.args.pass.now) c.args.parcel.now.strip c.args.dir _ (2 * position_of c.pass.new.front.dir c.pass.new.parcel.strip (strips_of c.args.board.now) + 1) (parts_of c.try_take.new.pass) (parts_of c.put.new.pass) c.in-Some.ensures.some
    (c.put.ensures.put ∙ ap (λ (d : Dir). after_put (after_look (parts_of c.try_take.new.pass) (dir_word d) (2 * position_of c.pass.new.front.dir c.pass.new.parcel.strip (strips_of c.args.board.now) + 1)) d) same)
