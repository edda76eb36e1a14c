use Rattle.std.proofs.Common.{◌≡◌, ℕ, ◌+◌, ◌-◌, ◌*◌, ◌/◌, ◌%◌, ◌<◌, ◌-ℤ◌, pos, to_z, of_z, w32, ap, ap₂, sym, subst, arith, ◌∙◌}
use Rattle.std.proofs.lemmas.Int.{ints}
use Rattle.sgm_base.specs.Ranges.{IsFromTo}
use Rattle.sgm_fine.specs.Samples.{Centre, HoldsLie, IsLie, centre, left_at, place_of, sample}
use Rattle.sgm_fine.specs.Windows.{number, value_around}
use Rattle.sgm_fine.specs.declared.samples.Lie.{Lie}
use Rattle.sgm_fine.proofs.PlaceSamples.{has_from, holds_from, lowered}
use Rattle.sgm_fine.proofs.samples.place_inside.Goals as goal

-- the column i and the row j of a window are those of its place 5 j + i
column_is : (i j : ℕ) → i < 5 → i ≡ (5 * j + i) % 5
column_is i j hi = omega (arith, hi)

row_is : (i j : ℕ) → i < 5 → j ≡ (5 * j + i) / 5
row_is i j hi = omega (arith, hi)

-- where it lies, as the code computes it
placed : (lie : Lie) (p : Centre) (i j : ℕ) → i < 5 → j < 5 → IsLie lie → HoldsLie lie p
    → to_z w32 (of_z w32 (to_z w32 (of_z w32 (number lie.columns i)) -ℤ to_z w32 (of_z w32 (number lie.rows j)))) ≡ place_of p (5 * j + i)
placed lie p i j hi hj is h =
    lowered _ _ (is.columns i hi) (is.rows j hj) ∙ ap₂ (λ a b. number lie.columns a -ℤ number lie.rows b) (column_is i j hi) (row_is i j hi) ∙ h (5 * j + i) (omega (arith, hi, hj))

around_is : (p : Centre) (i j : ℕ) → i < 5 → value_around p.left 2 p.x p.y i j ≡ left_at p (5 * j + i)
around_is p i j hi = ap₂ (value_around p.left 2 p.x p.y) (column_is i j hi) (row_is i j hi)

pub three_inside-requires-clause-near : goal.three_inside-requires-clause-near
three_inside-requires-clause-near c =
    let column = c.requires.lie.columns c.args.i c.requires.place.0 in
    let row = c.requires.lie.rows c.args.j c.requires.place.1 in
    (omega (arith, ints, column.0, column.1, row.0, row.1), omega (arith, ints, column.0, column.1, row.0, row.1))

pub three_inside-requires-clause-inside : goal.three_inside-requires-clause-inside
three_inside-requires-clause-inside c =
    let at = lowered _ _ (c.requires.lie.columns c.args.i c.requires.place.0) (c.requires.lie.rows c.args.j c.requires.place.1) in
    subst (IsFromTo (pos 8) (pos (16 * c.args.right.now.width) -ℤ pos 25)) (sym at) (c.requires.among c.args.i c.args.j c.requires.place.0 c.requires.place.1)

pub returns-clause-none : goal.returns-clause-none
returns-clause-none c = λ map h.
    let p : Centre = centre c.args.left.now c.args.right.now map c.args.at.first c.args.at.x c.args.at.y c.args.at.value in
    let i = c.args.i in
    let j = c.args.j in
    let place = c.requires.place in
    has_from p (5 * j + i) _ _ _ _ (c.place_of.ensures.none _ _ c.three_inside.ensures.holds) (c.around_inside-sample.ensures ∙ around_is p i j place.0)
    (ap (λ n. sample p.right (p.y + n - 2)) (row_is i j place.0)) (placed c.args.lie.now p i j place.0 place.1 c.requires.lie h)

pub returns-clause-some : goal.returns-clause-some
returns-clause-some c = λ map h.
    let p : Centre = centre c.args.left.now c.args.right.now map c.args.at.first c.args.at.x c.args.at.y c.args.at.value in
    let i = c.args.i in
    let j = c.args.j in
    let place = c.requires.place in
    holds_from p (5 * j + i) _ _ _ _ (c.place_of.ensures.some _ _ c.three_inside.ensures.holds) (c.around_inside-sample.ensures ∙ around_is p i j place.0)
    (ap (λ n. sample p.right (p.y + n - 2)) (row_is i j place.0)) (placed c.args.lie.now p i j place.0 place.1 c.requires.lie h)
