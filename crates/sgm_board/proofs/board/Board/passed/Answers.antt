use Rattle.std.proofs.Common.{ℕ, refl, ap, ◌∙◌}
use Rattle.sgm_board.specs.Plans.{about_of}
use Rattle.sgm_board.specs.Passes.{parts_of_view, after_look}
use Rattle.sgm_board.proofs.Parts.{parts-look}
use Rattle.sgm_board.proofs.board.Board.passed.Goals as goal

pub returns-clause-look : goal.returns-clause-look
returns-clause-look c =
    let v = c.args.pass.now.seat.me.0 in
    let found = c.look-found.result in
    let key = c.args.self.now.table.shared.key in (
      found,
      refl,
      c.look-found.ensures.bound (about_of key) c.requires.own.about,
      ap (λ m. parts_of_view m.0) c.look-found.ensures.seat.1 ∙ (parts-look v c.word_of.result found ∙ ap (λ (word : ℕ). after_look (parts_of_view v) word found) c.word_of.ensures.word),
    )
