use Rattle.std.proofs.Common.{◌≡◌, pos, ◌+ℤ◌, true, false, unsigned_abs, to_z, of_z, w32, arith, sym, ap, ◌∙◌}
use Rattle.std.proofs.lemmas.Bool.{cond-false, cond-true}
use Rattle.std.proofs.lemmas.Int.{ints}
use Rattle.sgm_fine.specs.Finer.{best, tells}
use Rattle.sgm_fine.proofs.finer.refined.Goals as goal

pub returns-then-tells-clause-value : goal.returns-then-tells-clause-value
returns-then-tells-clause-value c = λ p count h e f.
    let m = c.args.m in
    let b : c.best-best.result.place ≡ best count p = c.best-best.ensures.value p count h e f in
    let small = c.best-best.ensures.small in
    let same : to_z w32 (of_z w32 c.best-best.result.place) ≡ c.best-best.result.place = omega (arith, ints, c.best-best.type_inv) in
    let t : tells p (best count p) ≡ true = sym (sym c.if-tells.true ∙ c.tells.ensures p h (c.best-best.ensures.score p h) ∙ ap (tells p) b) in
    let value : unsigned_abs (to_z w32 (of_z w32 (to_z w32 (of_z w32 c.from.result) +ℤ to_z w32 (of_z w32 c.best-best.result.place)))) ≡ unsigned_abs (pos m +ℤ c.best-best.result.place) =
    omega (arith, ints, c.from.ensures, same, small.0, small.1, c.ranges.m.fits) in
    value ∙ ap (λ z. unsigned_abs (pos m +ℤ z)) b ∙ sym (cond-true (tells p (best count p)) (unsigned_abs (pos m +ℤ best count p)) m t)

pub returns-else-tells-clause-value : goal.returns-else-tells-clause-value
returns-else-tells-clause-value c = λ p count h e f.
    let m = c.args.m in
    let b : c.best-best.result.place ≡ best count p = c.best-best.ensures.value p count h e f in
    let same : to_z w32 (of_z w32 c.best-best.result.place) ≡ c.best-best.result.place = omega (arith, ints, c.best-best.type_inv) in
    let t : tells p (best count p) ≡ false = sym (sym c.if-tells.false ∙ c.tells.ensures p h (c.best-best.ensures.score p h) ∙ ap (tells p) b) in
    sym (cond-false (tells p (best count p)) (unsigned_abs (pos m +ℤ best count p)) m t)
