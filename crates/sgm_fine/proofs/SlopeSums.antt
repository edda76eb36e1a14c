-- The sums of the steps along an axis.
use Rattle.std.proofs.Common.{◌≡◌, ℕ, ◌+◌, ◌<◌, ◌≤◌, ◌%◌, ◌/◌, Option, ℤ, pos, ◌+ℤ◌, ◌*ℤ◌, unwrap_or, is_some, if◌then◌else◌, arith, ap, ap₂, sym, ◌∙◌}
use Rattle.std.proofs.lemmas.Int.{ints}
use Rattle.sgm_base.specs.Ranges.{IsFromTo, Within}
use Rattle.sgm_base.specs.Values.{Values}
use Rattle.sgm_fine.specs.Slopes.{IsSlope, step_at}
use Rattle.sgm_fine.specs.Windows.{sum_below, value_around}
use Rattle.sgm_fine.specs.declared.slopes.Slope.{Slope}
use Rattle.sgm_fine.proofs.StepLaws.{mark_from_to, step_within}
use Rattle.sgm_fine.proofs.Totals.{product_from_to, product_within, square_from_to, sum_from_to, sum_more, sum_none, sum_within}

-- what one pixel adds to each sum
abbrev pub part : (ℕ → ℤ) → (ℕ → Option ℤ) → ℕ → ℤ
part axis steps j = axis j *ℤ unwrap_or (steps j) (pos 0)

abbrev pub square_part : (ℕ → ℤ) → (ℕ → Option ℤ) → ℕ → ℤ
square_part axis steps j = (axis j *ℤ axis j) *ℤ (if is_some (steps j) then pos 1 else pos 0)

-- one step more
moment_more : (axis : ℕ → ℤ) (steps : ℕ → Option ℤ) (k : ℕ) (was now d : ℤ) (step : Option ℤ) → d ≡ axis k → step ≡ steps k
    → was ≡ sum_below k (part axis steps) → now ≡ was +ℤ (d *ℤ unwrap_or step (pos 0))
    → now ≡ sum_below (k + 1) (part axis steps)
moment_more axis steps k was now d step ed es ew e =
    e ∙ ap₂ (λ (y z : ℤ). y +ℤ z) ew (ap₂ (λ (y z : ℤ). y *ℤ z) ed (ap (λ o. unwrap_or o (pos 0)) es)) ∙ sym (sum_more k (part axis steps))

spread_more : (axis : ℕ → ℤ) (steps : ℕ → Option ℤ) (k : ℕ) (was now d : ℤ) (step : Option ℤ) → d ≡ axis k → step ≡ steps k
    → was ≡ sum_below k (square_part axis steps) → now ≡ was +ℤ ((d *ℤ d) *ℤ (if is_some step then pos 1 else pos 0))
    → now ≡ sum_below (k + 1) (square_part axis steps)
spread_more axis steps k was now d step ed es ew e =
    e ∙ ap₂ (λ (y z : ℤ). y +ℤ z) ew (ap₂ (λ (y z : ℤ). y *ℤ z) (ap₂ (λ (y z : ℤ). y *ℤ z) ed ed) (ap (λ o. if is_some o then pos 1 else pos 0) es))
    ∙ sym (sum_more k (square_part axis steps))

-- how far the sums lie from 0
moment_small : (axis : ℕ → ℤ) (steps : ℕ → Option ℤ) (k : ℕ) (z : ℤ) → k ≤ 25 → ((j : ℕ) → j < 25 → Within 2 (axis j)) → ((j : ℕ) → Within 32 (unwrap_or (steps j) (pos 0)))
    → z ≡ sum_below k (part axis steps) → Within 1600 z
moment_small axis steps k z few ha hs e =
    let w = sum_within k 64 (part axis steps) (λ j lt. product_within 2 32 (axis j) (unwrap_or (steps j) (pos 0)) (ha j (omega arith)) (hs j)) in
    (omega (arith, ints, few, e, w.0), omega (arith, ints, few, e, w.1))

spread_small : (axis : ℕ → ℤ) (steps : ℕ → Option ℤ) (k : ℕ) (z : ℤ) → k ≤ 25 → ((j : ℕ) → j < 25 → Within 2 (axis j))
    → z ≡ sum_below k (square_part axis steps) → IsFromTo (pos 0) (pos 100) z
spread_small axis steps k z few ha e =
    let w = sum_from_to k 4 (square_part axis steps)
    (λ j lt. product_from_to 4 1 (axis j *ℤ axis j) (if is_some (steps j) then pos 1 else pos 0) (square_from_to 2 (axis j) (ha j (omega arith))) (mark_from_to (steps j))) in
    (omega (arith, ints, few, e, w.0), omega (arith, ints, few, e, w.1))

-- a slope of the steps to the first k places
pub record SumsBelow (slope : Slope) (axis : ℕ → ℤ) (steps : ℕ → Option ℤ) (k : ℕ) : Type 0 where
  pub moment : slope.moment ≡ sum_below k (part axis steps)
  pub spread : slope.spread ≡ sum_below k (square_part axis steps)

pub sums_none : (slope : Slope) (axis : ℕ → ℤ) (steps : ℕ → Option ℤ) → slope.moment ≡ pos 0 → slope.spread ≡ pos 0 → SumsBelow slope axis steps 0
sums_none slope axis steps em es = record { moment = em ∙ sym (sum_none (part axis steps)); spread = es ∙ sym (sum_none (square_part axis steps)) }

pub sums_more : (was now : Slope) (axis : ℕ → ℤ) (steps : ℕ → Option ℤ) (k : ℕ) (d : ℤ) (step : Option ℤ) → d ≡ axis k → step ≡ steps k → SumsBelow was axis steps k
    → now.moment ≡ was.moment +ℤ (d *ℤ unwrap_or step (pos 0)) → now.spread ≡ was.spread +ℤ ((d *ℤ d) *ℤ (if is_some step then pos 1 else pos 0)) → SumsBelow now axis steps (k + 1)
sums_more was now axis steps k d step ed es h em er = record {
  moment = moment_more axis steps k was.moment now.moment d step ed es h.moment em;
  spread = spread_more axis steps k was.spread now.spread d step ed es h.spread er;
}

pub slope_kept : (map : Values) (x y m : ℕ) (axis : ℕ → ℤ) (k : ℕ) (slope : Slope) → k ≤ 25 → ((j : ℕ) → j < 25 → Within 2 (axis j)) → SumsBelow slope axis (step_at map x y m) k → IsSlope slope
slope_kept map x y m axis k slope few ha h = record {
  moment = moment_small axis (step_at map x y m) k slope.moment few ha (λ j. step_within 32 m (value_around map 2 x y (j % 5) (j / 5))) h.moment;
  spread = spread_small axis (step_at map x y m) k slope.spread few ha h.spread;
}
