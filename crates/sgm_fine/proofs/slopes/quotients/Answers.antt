use Rattle.std.proofs.Common.{◌≡◌, nat_eq, Bool, true, false, ℤ, pos, neg_ℤ, ◌+ℤ◌, ◌-ℤ◌, ◌*ℤ◌, if◌then◌else◌, to_z, of_z, w32, arith, ap, ap₂, subst, sym, ◌∙◌}
use Rattle.std.specs.Int.{int_div_euclid}
use Rattle.std.specs.Ordering.{int_eq}
use Rattle.std.proofs.lemmas.Int.{ints}
use mir.Val.{bool_byte}
use Rattle.sgm_base.specs.Ranges.{IsFromTo, Within}
use Rattle.sgm_fine.proofs.Rises.{turned}
use Rattle.sgm_fine.proofs.StepLaws.{divided_within}
use Rattle.sgm_fine.proofs.Totals.{product_within}
use Rattle.sgm_fine.proofs.slopes.quotients.Goals as goal

-- twice the one and the other, and twice the other, as the code computes them
above : (a b : ℤ) → Within 3200 a → IsFromTo (pos 1) (pos 100) b → to_z w32 (of_z w32 (to_z w32 (of_z w32 (pos 2 *ℤ to_z w32 (of_z w32 a))) +ℤ to_z w32 (of_z w32 b))) ≡ (pos 2 *ℤ a) +ℤ b
above a b h k = omega (arith, ints, h.0, h.1, k.0, k.1)

below : (b : ℤ) → IsFromTo (pos 1) (pos 100) b → to_z w32 (of_z w32 (pos 2 *ℤ to_z w32 (of_z w32 b))) ≡ pos 2 *ℤ b
below b k = omega (arith, ints, k.0, k.1)

near : (a b : ℤ) → Within 3200 a → IsFromTo (pos 1) (pos 100) b → Within 6599 (int_div_euclid ((pos 2 *ℤ a) +ℤ b) (pos 2 *ℤ b))
near a b h k =
    divided_within ((pos 2 *ℤ a) +ℤ b) (pos 2 *ℤ b) 6599 (omega (arith, ints, h.0, h.1, k.0, k.1), omega (arith, ints, h.0, h.1, k.0, k.1)) (omega (arith, ints, k.0))

product : (q b : ℤ) → Within 6599 q → IsFromTo (pos 1) (pos 100) b → Within 1319800 (q *ℤ (pos 2 *ℤ b))
product q b h k = product_within 6599 200 q (pos 2 *ℤ b) h (omega (arith, ints, k.0), omega (arith, ints, k.1))

-- bits tell whether two small numbers are the same
same_bits : (x y : ℤ) → Within 1319800 x → Within 6500 y → nat_eq (of_z w32 x) (of_z w32 y) ≡ int_eq x y
same_bits x y h k = grind (arith, ints, h.0, h.1, k.0, k.1)

byte : (b : Bool) (r : ℤ) → r ≡ pos (bool_byte b) → to_z w32 (of_z w32 r) ≡ (if b then pos 1 else pos 0)
byte true r e = omega (arith, ints, e)
byte false r e = omega (arith, ints, e)

-- what the code makes of the quotient q
behind : (a b q r : ℤ) → Within 3200 a → IsFromTo (pos 1) (pos 100) b → q ≡ int_div_euclid ((pos 2 *ℤ a) +ℤ b) (pos 2 *ℤ b) → r ≡ (if int_eq (q *ℤ (pos 2 *ℤ b)) ((pos 2 *ℤ a) +ℤ b) then pos 1 else pos 0)
    → r -ℤ q ≡ int_div_euclid ((pos 2 *ℤ neg_ℤ a) +ℤ b) (pos 2 *ℤ b)
behind a b q r h k eq er =
    let t = (pos 2 *ℤ a) +ℤ b in
    let d = pos 2 *ℤ b in
    let rest : d -ℤ t ≡ (pos 2 *ℤ neg_ℤ a) +ℤ b = omega (arith, ints) in
    ap₂ (λ (y z : ℤ). y -ℤ z) (er ∙ ap (λ (z : ℤ). if int_eq (z *ℤ d) t then pos 1 else pos 0) eq) eq ∙ sym (turned t d (omega (arith, ints, k.0))) ∙ ap (λ (z : ℤ). int_div_euclid z d) rest

-- the quotient that the code holds
held : (a b r : ℤ) → to_z w32 (of_z w32 r) ≡ r → Within 3200 a → IsFromTo (pos 1) (pos 100) b
    → r ≡ int_div_euclid (to_z w32 (of_z w32 (to_z w32 (of_z w32 (pos 2 *ℤ to_z w32 (of_z w32 a))) +ℤ to_z w32 (of_z w32 b)))) (to_z w32 (of_z w32 (pos 2 *ℤ to_z w32 (of_z w32 b))))
    → to_z w32 (of_z w32 r) ≡ int_div_euclid ((pos 2 *ℤ a) +ℤ b) (pos 2 *ℤ b)
held a b r f h k e = f ∙ e ∙ ap₂ int_div_euclid (above a b h k) (below b k)

-- whether it is exact, as the code tells
exact : (a b q r : ℤ) → Within 3200 a → IsFromTo (pos 1) (pos 100) b → q ≡ int_div_euclid ((pos 2 *ℤ a) +ℤ b) (pos 2 *ℤ b)
    → r ≡ pos (bool_byte (nat_eq (of_z w32 (q *ℤ to_z w32 (of_z w32 (pos 2 *ℤ to_z w32 (of_z w32 b))))) (of_z w32 (to_z w32 (of_z w32 (pos 2 *ℤ to_z w32 (of_z w32 a))) +ℤ to_z w32 (of_z w32 b)))))
    → to_z w32 (of_z w32 r) ≡ (if int_eq (q *ℤ (pos 2 *ℤ b)) ((pos 2 *ℤ a) +ℤ b) then pos 1 else pos 0)
exact a b q r h k eq er =
    let top : to_z w32 (of_z w32 (pos 2 *ℤ to_z w32 (of_z w32 a))) +ℤ to_z w32 (of_z w32 b) ≡ (pos 2 *ℤ a) +ℤ b = omega (arith, ints, h.0, h.1, k.0, k.1) in
    let w = subst (λ (z : ℤ). Within 1319800 (z *ℤ (pos 2 *ℤ b))) (sym eq) (product _ b (near a b h k) k) in
    let t : Within 6500 ((pos 2 *ℤ a) +ℤ b) = (omega (arith, ints, h.0, k.0), omega (arith, ints, h.1, k.1)) in
    byte _ r er
    ∙ ap (λ c. if c then pos 1 else pos 0)
    (ap₂ (λ (y z : ℤ). nat_eq (of_z w32 (q *ℤ y)) (of_z w32 z)) (below b k) top ∙ same_bits (q *ℤ (pos 2 *ℤ b)) ((pos 2 *ℤ a) +ℤ b) w t)

one : (b : Bool) (r : ℤ) → r ≡ (if b then pos 1 else pos 0) → IsFromTo (pos 0) (pos 1) r
one true r e = (omega (arith, ints, e), omega (arith, ints, e))
one false r e = (omega (arith, ints, e), omega (arith, ints, e))

pub overflow_mul-ahead : goal.overflow_mul-ahead
overflow_mul-ahead c =
    let q = held c.args.a c.args.b c.div_euclid-ahead.result (omega (arith, ints, c.div_euclid-ahead.type_inv)) c.requires.a c.requires.b c.div_euclid-ahead.ensures in
    let is = ap₂ (λ (y z : ℤ). y *ℤ z) q (below c.args.b c.requires.b) in
    let w = product _ c.args.b (near c.args.a c.args.b c.requires.a c.requires.b) c.requires.b in
    omega (arith, ints, is, w.0, w.1)

pub overflow_sub-result : goal.overflow_sub-result
overflow_sub-result c =
    let q = held c.args.a c.args.b c.div_euclid-ahead.result (omega (arith, ints, c.div_euclid-ahead.type_inv)) c.requires.a c.requires.b c.div_euclid-ahead.ensures in
    let w = near c.args.a c.args.b c.requires.a c.requires.b in
    let r = one _ _ (exact c.args.a c.args.b _ c.from.result c.requires.a c.requires.b q c.from.ensures) in
    omega (arith, ints, q, w.0, w.1, r.0, r.1)

pub returns-clause-ahead : goal.returns-clause-ahead
returns-clause-ahead c = held c.args.a c.args.b c.div_euclid-ahead.result (omega (arith, ints, c.div_euclid-ahead.type_inv)) c.requires.a c.requires.b c.div_euclid-ahead.ensures

pub returns-clause-behind : goal.returns-clause-behind
returns-clause-behind c =
    let q = held c.args.a c.args.b c.div_euclid-ahead.result (omega (arith, ints, c.div_euclid-ahead.type_inv)) c.requires.a c.requires.b c.div_euclid-ahead.ensures in
    let w = near c.args.a c.args.b c.requires.a c.requires.b in
    let e = exact c.args.a c.args.b _ c.from.result c.requires.a c.requires.b q c.from.ensures in
    let r = one _ _ e in
    omega (arith, ints, q, w.0, w.1, r.0, r.1) ∙ behind c.args.a c.args.b _ _ c.requires.a c.requires.b q e

pub returns-clause-small : goal.returns-clause-small
returns-clause-small c =
    let q = held c.args.a c.args.b c.div_euclid-ahead.result (omega (arith, ints, c.div_euclid-ahead.type_inv)) c.requires.a c.requires.b c.div_euclid-ahead.ensures in
    let w = near c.args.a c.args.b c.requires.a c.requires.b in
    let r = one _ _ (exact c.args.a c.args.b _ c.from.result c.requires.a c.requires.b q c.from.ensures) in
    ((omega (arith, ints, q, w.0), omega (arith, ints, q, w.1)), (omega (arith, ints, q, w.0, w.1, r.0, r.1), omega (arith, ints, q, w.0, w.1, r.0, r.1)))
