use Rattle.std.proofs.Common.{◌≡◌, ℕ, ◌+◌, ◌/◌, ◌∙◌, Some, length, sym, ap, subst, arith}
use Rattle.sgm_base.specs.Sides.{Sides}
use Rattle.sgm_energy.specs.Pens.{penalties_of}
use Rattle.sgm_energy.specs.Rays.{row_before}
use Rattle.sgm_path.specs.Paths.{far_in, RowTerms}
use Rattle.sgm_strip.specs.Passing.{SuitsRow}
use Rattle.sgm_strip.proofs.Sweep.{row_suits}
use Rattle.sgm_strip.proofs.sweeping.row_at.Goals as goal

pub overflow_cast-y : goal.overflow_cast-y
overflow_cast-y c =
    let s = c.args.strip.now in
    let high : c.height.inside.height ≡ s.guide.now.height = ap (λ (sides : Sides). sides.height) c.height.view_is ∙ c.size.ensures.height in
    omega (arith, s.inside, c.requires.place, ap (λ n. length s.costs.now / n) c.requires.row, high)

pub overflow_add-y : goal.overflow_add-y
overflow_add-y c =
    let s = c.args.strip.now in
    let high : c.height.inside.height ≡ s.guide.now.height = ap (λ (sides : Sides). sides.height) c.height.view_is ∙ c.size.ensures.height in
    omega (arith, s.inside, c.requires.place, ap (λ n. length s.costs.now / n) c.requires.row, high)

pub returns-clause-suits : goal.returns-clause-suits
returns-clause-suits c g rows suits l =
    let s = c.args.strip.now in
    let dir = c.args.dir in
    let y : ℕ = s.top + c.args.place in
    let high : c.height.inside.height ≡ s.guide.now.height = ap (λ (sides : Sides). sides.height) c.height.view_is ∙ c.size.ensures.height in
    subst (λ (t : RowTerms). SuitsRow g t.dir y t.penalties.p1 t.count (far_in t) t.costs) (sym c.make.ensures)
    (row_suits g dir s.top rows (penalties_of s.pen) s.guide.now s.count c.args.row c.args.place c.row_from-from.result s.costs.now c.row.result.now c.row-2.result.now suits l
    (omega (arith, c.row_from-from.ensures.inside, high)) (λ b e. c.row_from-from.ensures.value b (subst (λ h. row_before dir h y ≡ Some b) (sym high) e)) c.row.ensures.value c.row-2.ensures.value)
