use Rattle.std.proofs.Common.{ap, ◌∙◌}
use Rattle.sgm_board.specs.Words.{strip_word}
use Rattle.sgm_board.specs.Passes.{parts_of_view}
use Rattle.sgm_board.proofs.Options.{if_some_both, if_none_map}
use Rattle.sgm_board.proofs.Parts.{parts-look, parts-read}
use Rattle.sgm_board.proofs.board.Board.try_claim.Goals as goal

pub returns-clause-some : goal.returns-clause-some
returns-clause-some c =
    let key = c.args.self.now.table.shared.key in
    if_some_both c.claim.result _ _ _ (λ parcel fits read. parts-read key.sample.value.cut.strips c.args.strip c.args.pass.now.seat.me.0 c.claim.new.seat.me.0 parcel fits.1.kept read) c.claim.ensures.parcel c.claim.ensures.some

pub returns-clause-none : goal.returns-clause-none
returns-clause-none c =
    let v = c.args.pass.now.seat.me.0 in
    if_none_map c.claim.result _ _ (λ now. ap (λ m. parts_of_view m.0) now ∙ parts-look v (strip_word c.args.strip) 1) c.claim.ensures.none
