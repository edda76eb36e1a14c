use Rattle.std.proofs.Common.{◌∙◌, sym, subst}
use Rattle.sgm_handover.specs.Handover.{Sound}
use Rattle.sgm_handover.specs.declared.event.Event.TheVariants.{Return}
use Rattle.sgm_handover.proofs.Soundness.{after-sound}
use Rattle.sgm_handover.proofs.Places.{let_go}
use Rattle.sgm_handover.proofs.machine.Machine.let_go.Goals as goal

pub invariant_of-self : goal.invariant_of-self
invariant_of-self c =
    let m = c.args.self.now in
    record {
      sized = c.release.ensures.len ∙ m.sized;
      sound = subst Sound (sym (let_go m.strips m.passed m.away m.holders.items c.args.worker _ c.release.ensures.each))
          (after-sound _ (Return c.args.worker) c.requires m.sound);
    }

pub returns : goal.returns
returns c = let m = c.args.self.now in let_go m.strips m.passed m.away m.holders.items c.args.worker _ c.release.ensures.each
