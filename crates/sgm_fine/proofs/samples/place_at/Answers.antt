use Rattle.std.proofs.Common.{◌≡◌, ℕ, ◌<◌, ◌/◌, ◌%◌, ◌-ℤ◌, to_z, of_z, w32, refl, sym, arith, ◌∙◌}
use Rattle.std.proofs.lemmas.Int.{ints}
use Rattle.sgm_fine.specs.Samples.{Centre, HoldsLie, IsLie, centre, place_of}
use Rattle.sgm_fine.specs.Windows.{number}
use Rattle.sgm_fine.specs.declared.samples.Lie.{Lie}
use Rattle.sgm_fine.proofs.PlaceSamples.{has_from, holds_from, lowered}
use Rattle.sgm_fine.proofs.samples.place_at.Goals as goal

-- where the place k lies, as the code computes it
placed : (lie : Lie) (p : Centre) (k : ℕ) → k < 25 → IsLie lie → HoldsLie lie p
    → to_z w32 (of_z w32 (to_z w32 (of_z w32 (number lie.columns (k % 5))) -ℤ to_z w32 (of_z w32 (number lie.rows (k / 5))))) ≡ place_of p k
placed lie p k lt is h = lowered _ _ (is.columns (k % 5) (omega arith)) (is.rows (k / 5) (omega (arith, lt))) ∙ h k lt

pub three_at-requires : goal.three_at-requires
three_at-requires c =
    let k = c.args.k in
    let column = c.requires.lie.columns (k % 5) (omega arith) in
    let row = c.requires.lie.rows (k / 5) (omega (arith, c.requires.place)) in
    record { near = (omega (arith, ints, column.0, column.1, row.0, row.1), omega (arith, ints, column.0, column.1, row.0, row.1)) }

pub returns-clause-none : goal.returns-clause-none
returns-clause-none c = λ map h.
    let p : Centre = centre c.args.left.now c.args.right.now map c.args.at.first c.args.at.x c.args.at.y c.args.at.value in
    let k = c.args.k in
    let at = placed c.args.lie.now p k c.requires.place c.requires.lie h in
    has_from p k _ _ _ _ (c.place_of.ensures.none _ _ c.three_at.ensures.holds) (sym c.in_ok-sample.was ∙ c.around.ensures) refl at

pub returns-clause-some : goal.returns-clause-some
returns-clause-some c = λ map h.
    let p : Centre = centre c.args.left.now c.args.right.now map c.args.at.first c.args.at.x c.args.at.y c.args.at.value in
    let k = c.args.k in
    let at = placed c.args.lie.now p k c.requires.place c.requires.lie h in
    holds_from p k _ _ _ _ (c.place_of.ensures.some _ _ c.three_at.ensures.holds) (sym c.in_ok-sample.was ∙ c.around.ensures) refl at
