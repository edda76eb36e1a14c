use Rattle.std.proofs.Common.{arith, sym, subst, refl}
use Rattle.sgm_handover.specs.Handover.{Sound}
use Rattle.sgm_handover.specs.declared.event.Event.TheVariants.{Put}
use Rattle.sgm_handover.proofs.Soundness.{after-sound}
use Rattle.sgm_handover.proofs.Dirs.{front_inside}
use Rattle.sgm_handover.proofs.Places.{put_back}
use Rattle.sgm_handover.proofs.machine.Machine.put.Goals as goal

pub invariant_of-self : goal.invariant_of-self
invariant_of-self c =
    let m = c.args.self.now in
    record {
      sized = m.sized;
      sound = subst Sound (sym (put_back m.strips m.passed m.away m.holders.items c.args.worker c.args.dir c.in-Some.front _ c.requires.0 (sym c.in-Some.ensures) (omega (arith, front_inside c.args.dir c.in-Some.front c.requires.0 (sym c.in-Some.ensures))) (omega (arith, front_inside c.args.dir c.in-Some.front c.requires.0 (sym c.in-Some.ensures))) refl))
          (after-sound _ (Put c.args.worker c.args.dir) c.requires m.sound);
    }

pub returns : goal.returns
returns c =
    let m = c.args.self.now in
    put_back m.strips m.passed m.away m.holders.items c.args.worker c.args.dir c.in-Some.front _ c.requires.0 (sym c.in-Some.ensures) (omega (arith, front_inside c.args.dir c.in-Some.front c.requires.0 (sym c.in-Some.ensures))) (omega (arith, front_inside c.args.dir c.in-Some.front c.requires.0 (sym c.in-Some.ensures))) refl
