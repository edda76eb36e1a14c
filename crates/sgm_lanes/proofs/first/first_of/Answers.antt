use Rattle.std.proofs.Common.{◌≡◌, ◌≢◌, ◌+◌, ◌-◌, ◌*◌, ◌<◌, ℕ, List, slice_index, subst, arith, inl, inr}
use Rattle.std.proofs.lemmas.Bool.{cases_lt}
use Rattle.sgm_lanes.proofs.first.first_of.Goals as goal

-- none before a place, and none of so many from there on
none_more : (values : List ℕ) (value at more : ℕ) → ((k : ℕ) → k < at → slice_index values k ≢ value) → ((i : ℕ) → i < more → slice_index values (at + i) ≢ value)
    → (k : ℕ) → k < at + more → slice_index values k ≢ value
none_more values value at more before here k h = elim (cases_lt k at) [
  | inl l ↦ before k l
  | inr l ↦ (let back : at + (k - at) ≡ k = omega arith in subst (λ j. slice_index values j ≢ value) back (here (k - at) (omega arith)))
]

pub returns-then-before-lt-LANES-clause-others : goal.returns-then-before-lt-LANES-clause-others
returns-then-before-lt-LANES-clause-others c =
    none_more c.args.values.now c.args.value (16 * c.loop-number.number) c.before_first-before.result c.loop-number.invariant c.before_first-before.ensures.others

pub loop-number-preserved : goal.loop-number-preserved
loop-number-preserved c = λ k h.
    none_more c.args.values.now c.args.value (16 * c.loop-number.number) c.before_first-before.result c.loop-number.invariant c.before_first-before.ensures.others k
    (omega (arith, h, c.if-before-lt-LANES.false, c.before_first-before.ensures.most))
