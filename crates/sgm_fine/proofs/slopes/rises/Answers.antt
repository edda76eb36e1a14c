use Rattle.std.proofs.Common.{◌≡◌, ℕ, ◌+◌, ◌*◌, ◌/◌, ◌<◌, ◌≤ℤ◌, [], ◌∷◌, zero, suc, refl, false, ℤ, pos, negsuc, neg_ℤ, ◌-ℤ◌, ◌*ℤ◌, if◌then◌else◌, to_z, of_z, w32, arith, ap, ap₂, subst, sym, ◌∙◌}
use Rattle.std.proofs.Math.Nat.{div-eq_of_lt}
use Rattle.std.proofs.lemmas.Int.{ints}
use Rattle.std.specs.Ordering.{int_eq}
use Rattle.sgm_base.specs.Ranges.{IsFromTo, Within}
use Rattle.sgm_base.specs.Rounding.{rounded}
use Rattle.sgm_fine.specs.Windows.{number}
use Rattle.sgm_fine.proofs.slopes.rises.Goals as goal

not_zero : (z : ℤ) → (of_z w32 z ≡ 0 → ⊥) → int_eq z (pos 0) ≡ false
not_zero (pos zero) h = absurd (h refl)
not_zero (pos (suc n)) h = grind arith
not_zero (negsuc n) h = refl

some : (z : ℤ) → (of_z w32 z ≡ 0 → ⊥) → IsFromTo (pos 0) (pos 100) z → pos 1 ≤ℤ z
some (pos zero) h r = absurd (h refl)
some (pos (suc n)) h r = omega (arith, ints)
some (negsuc n) h r = absurd (omega (arith, ints, r.0))

-- nothing rises over no distance
level : (b : ℤ) → pos 1 ≤ℤ b → pos 0 ≡ rounded (pos 0) b
level (pos k) h = let none : (0 + k) / (2 * k) ≡ 0 = div-eq_of_lt (omega (arith, ints, h)) in sym (ap pos none)
level (negsuc k) h = absurd (omega (arith, ints, h))

-- the rises over -2 to 2
five : (f : ℤ → ℤ) (a b c d e m : ℤ) → a ≡ f (neg_ℤ (pos 2 *ℤ m)) → b ≡ f (neg_ℤ m) → c ≡ f (pos 0) → d ≡ f m → e ≡ f (pos 2 *ℤ m) → (n : ℕ) → n < 5
    → number (a ∷ b ∷ c ∷ d ∷ e ∷ []) n ≡ f ((pos n -ℤ pos 2) *ℤ m)
five f a b c d e m ea eb ec ed ee zero lt = ea ∙ ap f (omega (arith, ints))
five f a b c d e m ea eb ec ed ee (suc zero) lt = eb ∙ ap f (omega (arith, ints))
five f a b c d e m ea eb ec ed ee (suc (suc zero)) lt = ec ∙ ap f (omega (arith, ints))
five f a b c d e m ea eb ec ed ee (suc (suc (suc zero))) lt = ed ∙ ap f (omega (arith, ints))
five f a b c d e m ea eb ec ed ee (suc (suc (suc (suc zero)))) lt = ee ∙ ap f (omega (arith, ints))
five f a b c d e m ea eb ec ed ee (suc (suc (suc (suc (suc n))))) lt = absurd (omega (arith, lt))

each_within : (a b d e : ℤ) → Within 6600 a → Within 6600 b → Within 6600 d → Within 6600 e → (n : ℕ) → n < 5 → Within 6600 (number (a ∷ b ∷ pos 0 ∷ d ∷ e ∷ []) n)
each_within a b d e ha hb hd he zero lt = ha
each_within a b d e ha hb hd he (suc zero) lt = hb
each_within a b d e ha hb hd he (suc (suc zero)) lt = (omega (arith, ints), omega (arith, ints))
each_within a b d e ha hb hd he (suc (suc (suc zero))) lt = hd
each_within a b d e ha hb hd he (suc (suc (suc (suc zero)))) lt = he
each_within a b d e ha hb hd he (suc (suc (suc (suc (suc n))))) lt = absurd (omega (arith, lt))

held : (z : ℤ) → Within 6600 z → to_z w32 (of_z w32 z) ≡ z
held z h = omega (arith, ints, h.0, h.1)

pub returns-clause-each : goal.returns-clause-each
returns-clause-each c = λ n lt.
    let m = c.args.slope.moment in
    let s = c.args.slope.spread in
    let h = c.requires.slope in
    let near = c.quotients-near.ensures in
    let far = c.quotients-far.ensures in
    let rising : to_z w32 (of_z w32 m) ≡ m = omega (arith, ints, h.moment.0, h.moment.1) in
    let twice : to_z w32 (of_z w32 (pos 2 *ℤ to_z w32 (of_z w32 m))) ≡ pos 2 *ℤ m = omega (arith, ints, h.moment.0, h.moment.1) in
    let wide : to_z w32 (of_z w32 s) ≡ s = omega (arith, ints, h.spread.0, h.spread.1) in
    let no : int_eq s (pos 0) ≡ false = not_zero s c.if-slope-eq0.false in
    five (λ (z : ℤ). rounded z s) _ _ (pos 0) _ _ m
    (held _ far.small.1 ∙ far.behind ∙ ap₂ (λ (y z : ℤ). rounded (neg_ℤ y) z) twice wide)
    (held _ near.small.1 ∙ near.behind ∙ ap₂ (λ (y z : ℤ). rounded (neg_ℤ y) z) rising wide)
    (level s (some s c.if-slope-eq0.false h.spread))
    (held _ near.small.0 ∙ near.ahead ∙ ap₂ rounded rising wide)
    (held _ far.small.0 ∙ far.ahead ∙ ap₂ rounded twice wide) n lt
    ∙ sym (ap (λ b. if b then pos 0 else rounded ((pos n -ℤ pos 2) *ℤ m) s) no)

pub returns-clause-small : goal.returns-clause-small
returns-clause-small c =
    let near = c.quotients-near.ensures.small in
    let far = c.quotients-far.ensures.small in
    each_within _ _ _ _ (kept _ far.1) (kept _ near.1) (kept _ near.0) (kept _ far.0)
  where
    kept : (z : ℤ) → Within 6600 z → Within 6600 (to_z w32 (of_z w32 z))
    kept z h = subst (Within 6600) (sym (held z h)) h
