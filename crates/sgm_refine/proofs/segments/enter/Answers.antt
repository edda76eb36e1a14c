use Rattle.std.proofs.Common.{◌≡◌, false, sym, ◌∙◌, get_or}
use Rattle.sgm_refine.proofs.Floods.{enters_one}
use Rattle.sgm_refine.proofs.segments.enter.Goals as goal

pub returns-in_ok-push-clause-enters : goal.returns-in_ok-push-clause-enters
returns-in_ok-push-clause-enters c = λ w n.
    let fresh : get_or c.args.seen.now c.in-Some.to false ≡ false = c.if-not-seen-to.true in
    rw c.in_ok-push.ensures.items
    (enters_one w c.args.entries.now c.args.at c.in-Some.to c.args.seen.now c.args.segment.now.items c.requires.whole
    (rw c.in-Some.is at c.requires.to) fresh (rw c.in-Some.is at n) (sym c.close.ensures ∙ c.if-close.true))
