use Rattle.std.proofs.Common.{rules, arith, ◌≡◌, ◌∙◌, ◌*◌, ℕ, ap, sym, subst, Some}
use Rattle.sgm_energy.specs.Dirs.{position_of}
use Rattle.sgm_strip.specs.Fronts.{FrontParts}
use Rattle.sgm_board.specs.declared.view.About.{About}
use Rattle.sgm_board.specs.declared.slot.Slot.TheVariants.{OfFront}
use Rattle.sgm_board.specs.Plans.{about_of}
use Rattle.sgm_board.specs.Shows.{IsFrontAt}
use Rattle.sgm_board.proofs.FrontRules.{takes_at}
use Rattle.sgm_board.proofs.Carried.{same_value, begins}
use Rattle.sgm_board.proofs.steps.take.Goals as goal

pub compare_exchange-found-requires : goal.compare_exchange-found-requires
compare_exchange-found-requires c =
    let k = c.args.shown.now.key in
    let h = c.requires.holds in
    let d = c.args.dir in
    let due : 2 * c.from-due.result ≡ 2 * position_of d c.args.strip (about_of k).cut.strips = ap (λ (p : ℕ). 2 * p) (c.from-due.ensures ∙ (c.position.ensures ∙ ap (position_of d c.args.strip) (sym c.requires.table.2))) in
    (search rules, omega (arith, c.requires.table.1, c.word_of-word.ensures.inside), takes_at (about_of k) k.passes c.args.shown.now.table_id.slots c.args.seat.now.id c.args.seat.now.me d c.args.strip c.requires.dir h.0 h.1 _ _ c.word_of-word.ensures.word due)

pub exchange-requires : goal.exchange-requires
exchange-requires c =
    let g = (c.compare_exchange-found.ensures.2 c.args.strip c.args.dir c.requires.holds.0 c.requires.dir c.word_of-word.ensures.word).0 c.if-found-due.false in
    (c.compare_exchange-found.ensures.0 ∙ c.requires.table.0, (OfFront g.0, begins _ _ _ _ (ap (λ m. m.1) g.7)))

pub unreachable-requires : goal.unreachable-requires
unreachable-requires c =
    let g = (c.compare_exchange-found.ensures.2 c.args.strip c.args.dir c.requires.holds.0 c.requires.dir c.word_of-word.ensures.word).0 c.if-found-due.false in
    c.in_default.not-OfFront g.0 (same_value _ _ _ _ _ _ _ (ap (λ m. m.1) g.7) c.exchange.ensures.2)

pub returns-clause-front : goal.returns-clause-front
returns-clause-front c =
    let d = c.args.dir in
    let g = (c.compare_exchange-found.ensures.2 c.args.strip d c.requires.holds.0 c.requires.dir c.word_of-word.ensures.word).0 c.if-found-due.false in
    let is : OfFront c.in-OfFront.front ≡ OfFront g.0 = sym c.in-OfFront.is ∙ same_value _ _ _ _ _ _ _ (ap (λ m. m.1) g.7) c.exchange.ensures.2 in
    let same : g.0 ≡ c.in-OfFront.front = cc in
    let about : Some g.2 ≡ Some (about_of c.args.shown.now.key) = sym g.3 ∙ c.requires.holds.2 in
    let abouts : g.2 ≡ about_of c.args.shown.now.key = cc in
    let half : 2 * g.1 ≡ 2 * c.from-due.result = g.5 ∙ c.if-found-due.false in
    let visits : g.1 ≡ position_of d c.args.strip c.args.strips = (let q : g.1 ≡ c.from-due.result = omega arith in q) ∙ (c.from-due.ensures ∙ c.position.ensures) in
    (subst (λ (z : About × ℕ × FrontParts). IsFrontAt z.0 d z.1 z.2) (λ i. (abouts i, visits i, same i)) g.4, g.6)
