use Rattle.std.proofs.Common.{arith, sym, subst}
use Rattle.sgm_handover.specs.Handover.{Sound}
use Rattle.sgm_handover.specs.declared.event.Event.TheVariants.{Claim}
use Rattle.sgm_handover.proofs.Soundness.{after-sound}
use Rattle.sgm_handover.proofs.Places.{claimed}
use Rattle.sgm_handover.proofs.machine.Machine.claim.Goals as goal

pub invariant_of-self : goal.invariant_of-self
invariant_of-self c =
    let m = c.args.self.now in
    record {
      sized = m.sized;
      sound = subst Sound (sym (claimed m.strips m.passed m.away m.holders.items c.args.worker c.args.strip (omega arith)))
          (after-sound _ (Claim c.args.worker c.args.strip) c.requires m.sound);
    }

pub returns : goal.returns
returns c =
    let m = c.args.self.now in claimed m.strips m.passed m.away m.holders.items c.args.worker c.args.strip (omega arith)
