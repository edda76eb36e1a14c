use Rattle.std.proofs.Common.{ℕ, sym, ap, ◌∙◌}
use Rattle.sgm_board.specs.Words.{strip_word}
use Rattle.sgm_board.specs.Views as view
use Rattle.sgm_board.specs.Passes.{parts_of_view, after_look, after_return}
use Rattle.sgm_board.proofs.Parts.{parts-look, parts-return, shows_known}
use Rattle.sgm_board.proofs.board.Board.give_back.Goals as goal

pub give_back-requires-clause-parcel : goal.give_back-requires-clause-parcel
give_back-requires-clause-parcel c = let parcel = c.requires.holds.held in record {
  kept = c.strip-strip.ensures.kept;
  same_scene = parcel.of_board.0;
  same_cut = parcel.of_board.1;
  same_strip = sym c.strip-strip.ensures.value;
  done = λ dir level. parcel.done dir ∙ shows_known c.args.pass.now.seat.me.0 c.args.parcel.strip dir parcel.held level c.args.pass.now.read;
}

pub returns-clause-back : goal.returns-clause-back
returns-clause-back c =
    let v = c.args.pass.now.seat.me.0 in
    let word = strip_word c.strip-strip.result in
    ap (λ m. parts_of_view m.0) c.give_back.ensures.1
    ∙ (parts-return (view.after_look v word 1)
    ∙ (ap after_return (parts-look v word 1)
    ∙ ap (λ (strip : ℕ). after_return (after_look (parts_of_view v) (strip_word strip) 1)) c.strip-strip.ensures.value))
