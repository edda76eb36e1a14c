use Rattle.std.proofs.Common.{◌∙◌, ap, subst, sym}
use Rattle.sgm_handover.proofs.Maps.{some_none}
use Rattle.sgm_board.specs.Views.{IsLive}
use Rattle.sgm_board.specs.Passes.{parts_of_view, HasJoined}
use Rattle.sgm_board.specs.Pockets.{ReadsAll, pocket}
use Rattle.sgm_board.proofs.Tallies.{has-append_left}
use Rattle.sgm_board.proofs.Parts.{parts-join}
use Rattle.sgm_board.proofs.board.Board.join.Goals as goal

pub invariant_of-pass : goal.invariant_of-pass
invariant_of-pass c =
    let p = c.args.pass.now in
    let v = p.seat.me.0 in
    let w = c.args.other.seat.me.0 in
    let now = c.join.ensures.1 in
    let view = sym (ap (λ m. m.0) now) in
    record {
      numbered = ap (λ m. m.0.number) now ∙ p.numbered;
      alive = subst IsLive view (has-append_left v.gathered w.gathered v.number p.alive);
      read = subst ReadsAll view (λ strip dir held level. absurd (some_none strip (sym held ∙ c.requires.idle.no_strip)));
      slots = ap (λ m. m.1) now ∙ (p.slots ∙ (λ i. pocket (view i).strip (view i).front));
    }

pub returns-clause-joined : goal.returns-clause-joined
returns-clause-joined c =
    let v = c.args.pass.now.seat.me.0 in
    let w = c.args.other.seat.me.0 in
    subst (λ u. HasJoined (parts_of_view v) (parts_of_view w) (parts_of_view u)) (sym (ap (λ m. m.0) c.join.ensures.1)) (parts-join v w)
