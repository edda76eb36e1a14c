use Rattle.std.proofs.Common.{◌∙◌, refl, arith}
use Rattle.sgm_board.specs.Boards.{parts_of}
use Rattle.sgm_work.proofs.Visiting.{looks_more, same_pass, same_still, tries_more, tries_none}
use Rattle.sgm_work.proofs.scanning.scan.Goals as goal

pub loop-strip-init : goal.loop-strip-init
loop-strip-init g c = record {
  idle = c.requires.idle;
  spare = refl;
  few = omega arith;
  same = same_pass (parts_of c.args.pass.now);
  puts = omega arith;
  looked = λ s h. absurd (omega arith);
  looks = λ s. omega arith;
  tried = tries_none (parts_of c.args.pass.now);
}

pub loop-strip-preserved : goal.loop-strip-preserved
loop-strip-preserved g c =
    let inv = c.loop-strip.invariant in
    let did = c.visit-handed.ensures in
    let was = parts_of c.args.pass.now in
    let old = parts_of c.loop-strip.pass in
    let new = parts_of c.visit-handed.new.pass in
    record {
      idle = did.idle;
      spare = did.spare ∙ inv.spare;
      few = omega (arith, did.few, inv.few);
      same = same_still was old new inv.same did.visited.same;
      puts = omega (arith, inv.puts, did.visited.puts);
      looked = looks_more was old new c.loop-strip.strip c.visit-handed.result inv.looked inv.looks did.visited;
      looks = λ s. omega (arith, inv.looks s, did.visited.looks s);
      tried = tries_more was old new inv.tried did.visited.balanced;
    }
