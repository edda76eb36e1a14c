-- What a queue keeps between any two steps, whoever makes them.
use Rattle.std.specs.Prelude.{◌≡◌, ℕ, ◌+◌, ◌≤◌, Bool, List, [], count_by, Contains}
use Rattle.std.specs.List.{sum_by}
use mathlib.Core.Option.{some}
use lib.ListN.{get_elem?}
use Rattle.sgm_queue.specs.Logs.{after_pop}
use Rattle.sgm_queue.specs.declared.log.Log.{Log}

module _ {T : Type 0} where
  -- how many of the values that all passes pushed, or popped, pass a test
  abbrev pub all_pushed : (T → Bool) → List (Log T) → ℕ
  all_pushed test views = sum_by (λ v. count_by test v.pushed) views

  abbrev pub all_popped : (T → Bool) → List (Log T) → ℕ
  all_popped test views = sum_by (λ v. count_by test v.popped) views

  -- The queue has these values, and the passes know this. There are two shares; a pass without one
  -- knows of no value. Of the values pushed that pass a test, whatever it is, as many were popped
  -- or are in the queue. Each value in the queue was pushed by some pass
  pub record Rule (items : List T) (views : List (Log T)) : Type 0 where
    pub shares : sum_by (λ v. v.shares) views ≡ 2
    pub idle : (at : ℕ) (v : Log T) → get_elem? views at ≡ some v → v.shares ≡ 0
        → (v.pushed ≡ []) × (v.popped ≡ [])
    pub count : (test : T → Bool)
        → count_by test items + all_popped test views ≡ all_pushed test views
    pub from_passes : (x : T) → Contains items x
        → (at : ℕ) × (v : Log T) × (get_elem? views at ≡ some v) × Contains v.pushed x

  -- of a value popped by a pass that has both shares, it knows that it pushed it
  abbrev pub PopTold : Log T → T → Log T → Type 0
  PopTold v x w = (w ≡ after_pop v x) × (2 ≤ v.shares → Contains v.pushed x)

  -- a pass with both shares knows what is in the queue
  abbrev pub Known : Log T → List T → Type 0
  Known v items = 2 ≤ v.shares → (test : T → Bool)
      → count_by test items + count_by test v.popped ≡ count_by test v.pushed
