use Rattle.std.proofs.Common.{◌≡◌, ◌∙◌, refl, subst, arith}
use Rattle.sgm_board.specs.Boards.{parts_of}
use Rattle.sgm_work.specs.Tries.{HasTried, HasTriedFirst}
use Rattle.sgm_work.proofs.Adding.{first_more, first_none, first_returned, one_strip}
use Rattle.sgm_work.proofs.scanning.serve.Goals as goal

pub loop-front-init : goal.loop-front-init
loop-front-init g c = record { holds = c.requires.holds; same = refl; number = refl; spare = refl; few = omega arith; tried = first_none c.args.parcel.strip (parts_of c.args.pass.now) }

pub loop-front-preserved : goal.loop-front-preserved
loop-front-preserved g c = let inv = c.loop-front.invariant in let did = c.hand_on-handed.ensures in record {
  holds = did.holds;
  same = one_strip (parts_of c.hand_on-handed.new.pass).strip c.hand_on-handed.new.parcel.strip c.loop-front.parcel.strip did.holds.held.held (did.tried.same_strip ∙ inv.holds.held.held) ∙ inv.same;
  number = did.tried.same.same_number ∙ inv.number;
  spare = did.spare ∙ inv.spare;
  few = omega (arith, did.few, inv.few);
  tried = first_more c.args.parcel.strip c.loop-front.front c.loop-front.handed c.hand_on-handed.result c.dir_of.result _ _ _ inv.tried
      (subst (λ s. HasTried s c.dir_of.result c.hand_on-handed.result (parts_of c.loop-front.pass) (parts_of c.hand_on-handed.new.pass)) inv.same did.tried) c.dir_of.ensures.front;
}

pub returns-clause-idle : goal.returns-clause-idle
returns-clause-idle g c = record { own = c.give_back.ensures.own; idle = c.give_back.ensures.idle }

pub returns-clause-tried : goal.returns-clause-tried
returns-clause-tried g c =
    let inv = c.loop-front.invariant in
    let all : c.loop-front.front ≡ 6 = omega arith in
    first_returned c.args.parcel.strip c.loop-front.parcel.strip 6 c.loop-front.handed 1 _ _ _
    (subst (λ n. HasTriedFirst c.args.parcel.strip n c.loop-front.handed (parts_of c.args.pass.now) (parts_of c.loop-front.pass)) all inv.tried) c.give_back.ensures.back
