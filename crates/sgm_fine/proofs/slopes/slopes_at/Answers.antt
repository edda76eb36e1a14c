use Rattle.std.proofs.Common.{◌≡◌, ℕ, ◌<◌, List, map, ℤ, pos, to_z, of_z, w16, arith, refl, ap, subst, sym, ◌∙◌}
use Rattle.std.proofs.lemmas.Int.{ints}
use Rattle.std.proofs.lemmas.List.FromFn.{get_or-map-range_with_len}
use Rattle.std.specs.List.{range_with_len}
use Rattle.sgm_base.specs.Ranges.{Within}
use Rattle.sgm_fine.specs.Slopes.{step_at, step_to}
use Rattle.sgm_fine.specs.Windows.{column_of, number, row_of_place}
use Rattle.sgm_fine.specs.declared.slopes.TheConstants.{COLUMNS, ROWS}
use Rattle.sgm_fine.proofs.SlopeSums.{SumsBelow, slope_kept, sums_more, sums_none}
use Rattle.sgm_fine.proofs.slopes.slopes_at.Goals as goal

-- what the tables have
table_each : (f : ℕ → ℤ) (xs : List ℤ) → map (number xs) (range_with_len 0 25) ≡ map f (range_with_len 0 25) → (k : ℕ) → k < 25 → number xs k ≡ f k
table_each f xs e k lt =
    sym (get_or-map-range_with_len (number xs) 0 25 k k (pos 0) lt (omega arith)) ∙ ap (λ l. number l k) e ∙ get_or-map-range_with_len f 0 25 k k (pos 0) lt (omega arith)

column_near : (k : ℕ) → k < 25 → Within 2 (column_of k)
column_near k lt = (omega (arith, ints), omega (arith, ints))

row_near : (k : ℕ) → k < 25 → Within 2 (row_of_place k)
row_near k lt = (omega (arith, ints, lt), omega (arith, ints, lt))

read : (f : ℕ → ℤ) (xs : List ℤ) → map (number xs) (range_with_len 0 25) ≡ map f (range_with_len 0 25) → ((k : ℕ) → k < 25 → Within 2 (f k))
    → (k : ℕ) → k < 25 → to_z w16 (of_z w16 (number xs k)) ≡ f k
read f xs e h k lt =
    let is = table_each f xs e k lt in
    let w = h k lt in
    omega (arith, ints, is, w.0, w.1)

near_read : (f : ℕ → ℤ) (xs : List ℤ) → map (number xs) (range_with_len 0 25) ≡ map f (range_with_len 0 25) → ((k : ℕ) → k < 25 → Within 2 (f k))
    → (k : ℕ) → k < 25 → Within 2 (to_z w16 (of_z w16 (number xs k)))
near_read f xs e h k lt = subst (Within 2) (sym (read f xs e h k lt)) (h k lt)

pub loop-k-init : goal.loop-k-init
loop-k-init c = record { few = omega arith; across = sums_none _ column_of _ refl refl; down = sums_none _ row_of_place _ refl refl }

pub loop-k-preserved : goal.loop-k-preserved
loop-k-preserved c =
    let k = c.loop-k.k in
    let lt = c.loop-k-test.true in
    let steps = step_at c.args.map.now c.args.x c.args.y c.args.m in
    let step : c.step_to-step.result ≡ steps k = c.step_to-step.ensures.exact ∙ ap (step_to 32 c.args.m) (c.window-window.ensures k lt) in
    let across = c.with_step-across in
    let down = c.with_step-down in
    record {
      few = omega (arith, lt);
      across = sums_more c.loop-k.across across.result column_of steps k _ c.step_to-step.result (read column_of COLUMNS refl column_near k lt) step c.loop-k.invariant.across across.ensures.moment across.ensures.spread;
      down = sums_more c.loop-k.down down.result row_of_place steps k _ c.step_to-step.result (read row_of_place ROWS refl row_near k lt) step c.loop-k.invariant.down down.ensures.moment down.ensures.spread;
    }

pub with_step-across-requires-clause-slope : goal.with_step-across-requires-clause-slope
with_step-across-requires-clause-slope c = slope_kept _ _ _ _ column_of c.loop-k.k c.loop-k.across c.loop-k.invariant.few column_near c.loop-k.invariant.across

pub with_step-across-requires-clause-distance : goal.with_step-across-requires-clause-distance
with_step-across-requires-clause-distance c = near_read column_of COLUMNS refl column_near c.loop-k.k c.loop-k-test.true

pub with_step-down-requires-clause-slope : goal.with_step-down-requires-clause-slope
with_step-down-requires-clause-slope c = slope_kept _ _ _ _ row_of_place c.loop-k.k c.loop-k.down c.loop-k.invariant.few row_near c.loop-k.invariant.down

pub with_step-down-requires-clause-distance : goal.with_step-down-requires-clause-distance
with_step-down-requires-clause-distance c = near_read row_of_place ROWS refl row_near c.loop-k.k c.loop-k-test.true

pub returns-clause-holds : goal.returns-clause-holds
returns-clause-holds c =
    let all : c.loop-k.k ≡ 25 = omega (arith, c.loop-k.invariant.few, c.loop-k-test.false) in
    let i = c.loop-k.invariant in
    let across = subst (SumsBelow c.loop-k.across column_of (step_at c.args.map.now c.args.x c.args.y c.args.m)) all i.across in
    let down = subst (SumsBelow c.loop-k.down row_of_place (step_at c.args.map.now c.args.x c.args.y c.args.m)) all i.down in
    record { across_moment = across.moment; across_spread = across.spread; down_moment = down.moment; down_spread = down.spread }

pub returns-clause-kept : goal.returns-clause-kept
returns-clause-kept c = (
  slope_kept _ _ _ _ column_of c.loop-k.k c.loop-k.across c.loop-k.invariant.few column_near c.loop-k.invariant.across,
  slope_kept _ _ _ _ row_of_place c.loop-k.k c.loop-k.down c.loop-k.invariant.few row_near c.loop-k.invariant.down,
)
