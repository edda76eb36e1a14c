-- The samples on the right that are worked out place by place.
use Rattle.std.proofs.Common.{◌≡◌, ℕ, ◌+◌, ◌*◌, ◌-◌, ◌<◌, ◌≤◌, List, length, slice_set, ℤ, pos, inl, inr, get_or-set_other, unsigned_abs, arith, refl, ap, subst, sym, ◌∙◌}
use Rattle.std.proofs.lemmas.Bool.{cases_eq}
use Rattle.std.proofs.lemmas.Grind.{get_or-set_at}
use Rattle.std.proofs.lemmas.List.{get_or_past}
use Rattle.sgm_base.specs.Ranges.{IsFromTo}
use Rattle.sgm_fine.specs.Bands.{AreBetween}
use Rattle.sgm_fine.specs.Windows.{number}
use Rattle.sgm_fine.specs.declared.whole.Gathered.{Gathered}

-- the samples of the place k, all from 0 to 4095
pub record AreAt (g : Gathered) (next own last : List ℤ) (k : ℕ) : Type 0 where
  pub between : AreBetween (number next k) (number own k) (number last k) (unsigned_abs (number g.first k)) (unsigned_abs (number g.second k)) (unsigned_abs (number g.third k))
      (unsigned_abs (number g.part k))
  pub after : IsFromTo (pos 0) (pos 4095) (number next k)
  pub here : IsFromTo (pos 0) (pos 4095) (number own k)
  pub before : IsFromTo (pos 0) (pos 4095) (number last k)

between_same : (x y z p q r : ℤ) (a b c f : ℕ) → p ≡ x → q ≡ y → r ≡ z → AreBetween x y z a b c f → AreBetween p q r a b c f
between_same x y z p q r a b c f ex ey ez h = record { after = ex ∙ h.after; sooner = λ lt. ey ∙ h.sooner lt; later = λ le. ey ∙ h.later le; before = ez ∙ h.before }

-- the same of numbers by another name
pub between_named : (x y z p q r : ℤ) (a b c f s t u v : ℕ) → p ≡ x → q ≡ y → r ≡ z → a ≡ s → b ≡ t → c ≡ u → f ≡ v → AreBetween x y z a b c f → AreBetween p q r s t u v
between_named x y z p q r a b c f s t u v ex ey ez ea eb ec ef h =
    subst (λ n. AreBetween p q r n t u v) ea (subst (λ n. AreBetween p q r a n u v) eb (subst (λ n. AreBetween p q r a b n v) ec (subst (λ n. AreBetween p q r a b c n) ef
    (between_same x y z p q r a b c f ex ey ez h))))

at_same : (g : Gathered) (xs ys zs next own last : List ℤ) (k : ℕ) → number next k ≡ number xs k → number own k ≡ number ys k → number last k ≡ number zs k → AreAt g xs ys zs k → AreAt g next own last k
at_same g xs ys zs next own last k ex ey ez h = record {
  between = between_same (number xs k) (number ys k) (number zs k) (number next k) (number own k) (number last k) (unsigned_abs (number g.first k)) (unsigned_abs (number g.second k)) (unsigned_abs (number g.third k)) (unsigned_abs (number g.part k)) ex ey ez h.between;
  after = subst (IsFromTo (pos 0) (pos 4095)) (sym ex) h.after;
  here = subst (IsFromTo (pos 0) (pos 4095)) (sym ey) h.here;
  before = subst (IsFromTo (pos 0) (pos 4095)) (sym ez) h.before;
}

-- the samples of one place more
pub at_more : (g : Gathered) (next own last : List ℤ) (k : ℕ) (x y z : ℤ) → k < length next → k < length own → k < length last
    → AreBetween x y z (unsigned_abs (number g.first k)) (unsigned_abs (number g.second k)) (unsigned_abs (number g.third k)) (unsigned_abs (number g.part k))
    → IsFromTo (pos 0) (pos 4095) x → IsFromTo (pos 0) (pos 4095) y → IsFromTo (pos 0) (pos 4095) z
    → ((j : ℕ) → j < k → AreAt g next own last j) → (j : ℕ) → j < k + 1 → AreAt g (slice_set next k x) (slice_set own k y) (slice_set last k z) j
at_more g next own last k x y z ln lo ll is hx hy hz h j hj = elim (cases_eq j k) [
  | inl same ↦
      let ex : number (slice_set next k x) k ≡ x = get_or-set_at next k k x (pos 0) refl ln in
      let ey : number (slice_set own k y) k ≡ y = get_or-set_at own k k y (pos 0) refl lo in
      let ez : number (slice_set last k z) k ≡ z = get_or-set_at last k k z (pos 0) refl ll in
      let new : AreAt g (slice_set next k x) (slice_set own k y) (slice_set last k z) k = record {
        between = between_same x y z (number (slice_set next k x) k) (number (slice_set own k y) k) (number (slice_set last k z) k) (unsigned_abs (number g.first k)) (unsigned_abs (number g.second k))
            (unsigned_abs (number g.third k)) (unsigned_abs (number g.part k)) ex ey ez is;
        after = subst (IsFromTo (pos 0) (pos 4095)) (sym ex) hx;
        here = subst (IsFromTo (pos 0) (pos 4095)) (sym ey) hy;
        before = subst (IsFromTo (pos 0) (pos 4095)) (sym ez) hz;
      } in
      subst (λ n. AreAt g (slice_set next k x) (slice_set own k y) (slice_set last k z) n) (sym same) new
  | inr other ↦
      at_same g next own last (slice_set next k x) (slice_set own k y) (slice_set last k z) j (get_or-set_other next k j x (pos 0) other) (get_or-set_other own k j y (pos 0) other)
      (get_or-set_other last k j z (pos 0) other) (h j (omega arith))
]

none_between : (x y z : ℤ) (a b c f : ℕ) → a ≡ 0 → b ≡ 0 → c ≡ 0 → f ≡ 0 → AreBetween x y z a b c f → (x ≡ pos 0) × (y ≡ pos 0) × (z ≡ pos 0)
none_between x y z a b c f ea eb ec ef h =
    let sooner = h.sooner (omega (arith, ef)) in
    let eh : (8 - f) * a + (8 + f) * b ≡ 0 = ap (λ n. (8 - n) * a + (8 + n) * b) ef ∙ omega (arith, ea, eb) in
    let en : (16 - f) * b + f * c ≡ 0 = ap (λ n. (16 - n) * b + n * c) ef ∙ omega (arith, eb) in
    let el : (16 - f) * a + f * b ≡ 0 = ap (λ n. (16 - n) * a + n * b) ef ∙ omega (arith, ea) in
    (h.after ∙ ap pos en, sooner ∙ ap pos eh, h.before ∙ ap pos el)

-- behind the places of a window nothing is worked out
pub rest_none : (g : Gathered) (next own last : List ℤ) (k : ℕ) → k < 32 → number g.first k ≡ pos 0 → number g.second k ≡ pos 0 → number g.third k ≡ pos 0 → number g.part k ≡ pos 0
    → AreAt g next own last k → (number next k ≡ pos 0) × (number own k ≡ pos 0) × (number last k ≡ pos 0)
rest_none g next own last k lt a b c f h = none_between _ _ _ _ _ _ _ (ap unsigned_abs a) (ap unsigned_abs b) (ap unsigned_abs c) (ap unsigned_abs f) h.between

pub past_none : (xs : List ℤ) (k : ℕ) → length xs ≡ 32 → 32 ≤ k → number xs k ≡ pos 0
past_none xs k long le = get_or_past xs k (pos 0) (omega (arith, long, le))
