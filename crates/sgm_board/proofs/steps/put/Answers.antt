use Rattle.std.proofs.Common.{rules, arith, ◌≡◌, ◌∙◌, ◌*◌, ◌+◌, ℕ, ap, sym, subst}
use Rattle.atomic_table.specs.Table.{rest}
use Rattle.sgm_energy.specs.Dirs.{position_of}
use Rattle.sgm_board.specs.Plans.{about_of}
use Rattle.sgm_board.specs.Shows.{IsFrontAt}
use Rattle.sgm_board.proofs.FrontRules.{puts_at}
use Rattle.sgm_board.proofs.steps.put.Goals as goal

pub compare_exchange-requires : goal.compare_exchange-requires
compare_exchange-requires c =
    let k = c.args.shown.now.key in
    let h = c.requires.holds in
    let d = c.args.dir in
    let position : position_of d c.args.strip c.args.strips ≡ position_of d c.args.strip (about_of k).cut.strips = ap (position_of d c.args.strip) (sym c.requires.table.2) in
    let due : 2 * c.from-due.result ≡ 2 * position_of d c.args.strip (about_of k).cut.strips = ap (λ (p : ℕ). 2 * p) (c.from-due.ensures ∙ (c.position.ensures ∙ position)) in (
      search rules,
      omega (arith, c.requires.table.1, c.word_of-word.ensures.inside),
      puts_at (about_of k) k.passes c.args.shown.now.table_id.slots c.exchange.new.seat.id c.args.seat.now.me.0 d c.args.strip c.args.front (rest c.args.seat.now.me.1) h.0 h.1
          (subst (λ (p : ℕ). IsFrontAt (about_of k) d (p + 1) c.args.front) position c.requires.front) _ _ c.exchange.new.seat.me c.word_of-word.ensures.word due c.exchange.ensures.3,
    )
