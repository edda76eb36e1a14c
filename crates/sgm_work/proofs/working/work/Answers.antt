use Rattle.std.proofs.Common.{◌≡◌, ◌∙◌, refl, subst, inl, inr, arith}
use Rattle.sgm_board.specs.Boards.{parts_of, strips_of}
use Rattle.sgm_work.specs.Worked.{LooksMore, most_scans}
use Rattle.sgm_work.proofs.Visiting.{same_pass, tries_none}
use Rattle.sgm_work.proofs.Glancing.{same_glanced, scanned, tries_glanced}
use Rattle.sgm_work.proofs.working.work.Goals as goal

pub loop-round-init : goal.loop-round-init
loop-round-init g c = record { idle = c.requires.idle; spare = refl; same = same_pass (parts_of c.args.pass.now); tried = tries_none (parts_of c.args.pass.now); looked = λ s h. omega arith }

pub returns-then-is_over-clause-same : goal.returns-then-is_over-clause-same
returns-then-is_over-clause-same g c = same_glanced (parts_of c.args.pass.now) (parts_of c.loop-round.pass) (parts_of c.scan-handed.new.pass) (parts_of c.is_over.new.pass) c.loop-round.invariant.same c.scan-handed.ensures.same c.is_over.ensures.glanced

pub returns-then-is_over-clause-tried : goal.returns-then-is_over-clause-tried
returns-then-is_over-clause-tried g c = tries_glanced (parts_of c.args.pass.now) (parts_of c.loop-round.pass) (parts_of c.scan-handed.new.pass) (parts_of c.is_over.new.pass) c.loop-round.invariant.tried c.scan-handed.ensures.tried c.is_over.ensures.glanced

pub returns-then-is_over-clause-end : goal.returns-then-is_over-clause-end
returns-then-is_over-clause-end g c = inl (c.is_over.ensures.over c.if-is_over.true)

pub loop-round-preserved : goal.loop-round-preserved
loop-round-preserved g c =
    let inv = c.loop-round.invariant in
    let did = c.scan-handed.ensures in
    let was = parts_of c.args.pass.now in
    let old = parts_of c.loop-round.pass in
    let new = parts_of c.scan-handed.new.pass in
    let end = parts_of c.is_over.new.pass in
    record {
      idle = c.is_over.ensures.idle;
      spare = did.spare ∙ inv.spare;
      same = same_glanced was old new end inv.same did.same c.is_over.ensures.glanced;
      tried = tries_glanced was old new end inv.tried did.tried c.is_over.ensures.glanced;
      looked = scanned was old new end c.loop-round._round (strips_of c.args.board.now) inv.looked did.looked c.is_over.ensures.glanced;
    }

pub returns-clause-end : goal.returns-clause-end
returns-clause-end g c =
    let all : c.loop-round._round ≡ most_scans (strips_of c.args.board.now) = omega (arith, c.loop-round-test.false, c.loop-round.auto._round-end, c.strips.ensures) in
    inr (subst (λ n. LooksMore n (strips_of c.args.board.now) (parts_of c.args.pass.now) (parts_of c.loop-round.pass)) all c.loop-round.invariant.looked)
