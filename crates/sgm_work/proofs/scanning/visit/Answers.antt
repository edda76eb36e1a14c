use Rattle.std.proofs.Common.{ap, subst, ◌∙◌}
use Rattle.sgm_strip.specs.Parcels.{is_done}
use Rattle.sgm_board.specs.Words.{strip_word}
use Rattle.sgm_board.specs.Passes.{PassParts}
use Rattle.sgm_board.specs.Boards.{parts_of, strips_of}
use Rattle.sgm_work.specs.Tries.{HasTriedFirst}
use Rattle.sgm_work.proofs.Visiting.{still_idle, visited_hit, visited_miss}
use Rattle.sgm_work.proofs.scanning.visit.Goals as goal

pub serve-requires-clause-holds : goal.serve-requires-clause-holds
serve-requires-clause-holds g c = record {
  own = c.try_claim.ensures.own;
  bare = ap (λ (p : PassParts). p.front) c.in-Some.ensures.some.read ∙ c.requires.idle.idle.no_front;
  held = c.in-Some.ensures.shown;
}

pub returns-in-Some-clause-visited : goal.returns-in-Some-clause-visited
returns-in-Some-clause-visited g c =
    visited_hit (parts_of c.args.pass.now) _ _ (strips_of c.args.board.now) c.args.strip c.serve.result 0 (is_done c.in-Some.parcel.done) c.in-Some.ensures.some
    (subst (λ s. HasTriedFirst s 6 c.serve.result (parts_of c.try_claim.new.pass) (parts_of c.serve.new.pass)) c.in-Some.ensures.parcel.1 c.serve.ensures.tried)

pub returns-in-None-clause-idle : goal.returns-in-None-clause-idle
returns-in-None-clause-idle g c = still_idle c.args.board.now c.args.pass.now c.try_claim.new.pass (strip_word c.args.strip) 1 c.requires.idle c.try_claim.ensures.own c.in-None.ensures.none

pub returns-in-None-clause-visited : goal.returns-in-None-clause-visited
returns-in-None-clause-visited g c = visited_miss (parts_of c.args.pass.now) _ c.args.strip 1 c.in-None.ensures.none
