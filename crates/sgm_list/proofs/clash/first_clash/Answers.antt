use Rattle.std.proofs.Common.{◌∙◌, sym, length}
use Rattle.sgm_list.specs.Clashes.{clashes, first_clash}
use Rattle.sgm_list.proofs.Found.{find_next}
use Rattle.sgm_list.proofs.clash.first_clash.Goals as goal

pub loop-place-preserved : goal.loop-place-preserved
loop-place-preserved c =
    find_next (clashes c.args.list.now c.args.entries.now) c.loop-place.place (length c.args.entries.now) (first_clash c.args.list.now c.args.entries.now) c.loop-place-test.true
    ((λ i. clashes c.args.list.now (sym c.in_ok-outs.ensures i) c.loop-place.place) ∙ (sym c.clashes.ensures ∙ c.if-clashes.false)) c.loop-place.invariant
