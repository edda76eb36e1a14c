use Rattle.std.proofs.Common.{◌++◌, arith, slice_index}
use Rattle.std.proofs.lemmas.List.Elements.{Contains-get_or}
use Rattle.sgm_fine.proofs.Halvings.{greatest_small, halved_below, halves, in_first, in_second, in_third, least_below, small_is, small_within}
use Rattle.sgm_fine.proofs.small.small_window.Goals as goal

pub halvings_to-right-requires : goal.halvings_to-right-requires
halvings_to-right-requires c =
    let w = c.args.window.now in
    record { number = omega (arith, greatest_small 1048576 c.greatest_of_three-most.result w.after w.here w.before c.greatest_of_three-most.ensures c.requires.after c.requires.here c.requires.before) }

pub made_small-requires-clause-small : goal.made_small-requires-clause-small
made_small-requires-clause-small c = λ k lt.
    let w = c.args.window.now in
    let left = halves c.least_of-low.ensures c.greatest_of.ensures c.halvings_to-left.ensures.few c.halvings_to-left.ensures.enough c.halvings_to-left.ensures.least in
    omega (arith, halved_below 256 c.least_of-low.result c.greatest_of.result c.halvings_to-left.result (slice_index w.left k) w.left left (Contains-get_or w.left k 0 (omega arith)))

pub made_small-requires-2-clause-least : goal.made_small-requires-2-clause-least
made_small-requires-2-clause-least c = λ k lt.
    let w = c.args.window.now in
    least_below c.least_of_three-least.result (slice_index w.after k) (w.after ++ w.here ++ w.before) c.least_of_three-least.ensures (in_first w.after w.here w.before k (omega arith))

pub made_small-requires-2-clause-small : goal.made_small-requires-2-clause-small
made_small-requires-2-clause-small c = λ k lt.
    let w = c.args.window.now in
    let right = halves c.least_of_three-least.ensures c.greatest_of_three-most.ensures c.halvings_to-right.ensures.few c.halvings_to-right.ensures.enough c.halvings_to-right.ensures.least in
    halved_below 4096 c.least_of_three-least.result c.greatest_of_three-most.result c.halvings_to-right.result (slice_index w.after k) (w.after ++ w.here ++ w.before) right (in_first w.after w.here w.before k (omega arith))

pub made_small-requires-3-clause-least : goal.made_small-requires-3-clause-least
made_small-requires-3-clause-least c = λ k lt.
    let w = c.args.window.now in
    least_below c.least_of_three-least.result (slice_index w.here k) (w.after ++ w.here ++ w.before) c.least_of_three-least.ensures (in_second w.after w.here w.before k (omega arith))

pub made_small-requires-3-clause-small : goal.made_small-requires-3-clause-small
made_small-requires-3-clause-small c = λ k lt.
    let w = c.args.window.now in
    let right = halves c.least_of_three-least.ensures c.greatest_of_three-most.ensures c.halvings_to-right.ensures.few c.halvings_to-right.ensures.enough c.halvings_to-right.ensures.least in
    halved_below 4096 c.least_of_three-least.result c.greatest_of_three-most.result c.halvings_to-right.result (slice_index w.here k) (w.after ++ w.here ++ w.before) right (in_second w.after w.here w.before k (omega arith))

pub made_small-requires-4-clause-least : goal.made_small-requires-4-clause-least
made_small-requires-4-clause-least c = λ k lt.
    let w = c.args.window.now in
    least_below c.least_of_three-least.result (slice_index w.before k) (w.after ++ w.here ++ w.before) c.least_of_three-least.ensures (in_third w.after w.here w.before k (omega arith))

pub made_small-requires-4-clause-small : goal.made_small-requires-4-clause-small
made_small-requires-4-clause-small c = λ k lt.
    let w = c.args.window.now in
    let right = halves c.least_of_three-least.ensures c.greatest_of_three-most.ensures c.halvings_to-right.ensures.few c.halvings_to-right.ensures.enough c.halvings_to-right.ensures.least in
    halved_below 4096 c.least_of_three-least.result c.greatest_of_three-most.result c.halvings_to-right.result (slice_index w.before k) (w.after ++ w.here ++ w.before) right (in_third w.after w.here w.before k (omega arith))

pub returns-clause-holds : goal.returns-clause-holds
returns-clause-holds c =
    let w = c.args.window.now in
    let left = halves c.least_of-low.ensures c.greatest_of.ensures c.halvings_to-left.ensures.few c.halvings_to-left.ensures.enough c.halvings_to-left.ensures.least in
    let right = halves c.least_of_three-least.ensures c.greatest_of_three-most.ensures c.halvings_to-right.ensures.few c.halvings_to-right.ensures.enough c.halvings_to-right.ensures.least in
    record {
      left = λ k lt. small_is 256 c.least_of-low.result c.greatest_of.result c.halvings_to-left.result w.left w.left k _ left (c.made_small.ensures.each k lt);
      after = λ k lt. small_is 4096 c.least_of_three-least.result c.greatest_of_three-most.result c.halvings_to-right.result (w.after ++ w.here ++ w.before) w.after k _ right (c.made_small-2.ensures.each k lt);
      here = λ k lt. small_is 4096 c.least_of_three-least.result c.greatest_of_three-most.result c.halvings_to-right.result (w.after ++ w.here ++ w.before) w.here k _ right (c.made_small-3.ensures.each k lt);
      before = λ k lt. small_is 4096 c.least_of_three-least.result c.greatest_of_three-most.result c.halvings_to-right.result (w.after ++ w.here ++ w.before) w.before k _ right (c.made_small-4.ensures.each k lt);
    }

pub returns-clause-kept : goal.returns-clause-kept
returns-clause-kept c =
    let w = c.args.window.now in
    let left = halves c.least_of-low.ensures c.greatest_of.ensures c.halvings_to-left.ensures.few c.halvings_to-left.ensures.enough c.halvings_to-left.ensures.least in
    let right = halves c.least_of_three-least.ensures c.greatest_of_three-most.ensures c.halvings_to-right.ensures.few c.halvings_to-right.ensures.enough c.halvings_to-right.ensures.least in
    record {
      left = λ k lt. small_within 255 c.least_of-low.result c.greatest_of.result c.halvings_to-left.result (slice_index w.left k) w.left _ left (Contains-get_or w.left k 0 (omega arith)) (c.made_small.ensures.each k lt);
      after = λ k lt. small_within 4095 c.least_of_three-least.result c.greatest_of_three-most.result c.halvings_to-right.result (slice_index w.after k) (w.after ++ w.here ++ w.before) _ right
          (in_first w.after w.here w.before k (omega arith)) (c.made_small-2.ensures.each k lt);
      here = λ k lt. small_within 4095 c.least_of_three-least.result c.greatest_of_three-most.result c.halvings_to-right.result (slice_index w.here k) (w.after ++ w.here ++ w.before) _ right
          (in_second w.after w.here w.before k (omega arith)) (c.made_small-3.ensures.each k lt);
      before = λ k lt. small_within 4095 c.least_of_three-least.result c.greatest_of_three-most.result c.halvings_to-right.result (slice_index w.before k) (w.after ++ w.here ++ w.before) _ right
          (in_third w.after w.here w.before k (omega arith)) (c.made_small-4.ensures.each k lt);
      padded_left = c.made_small.ensures.padded;
      padded_after = c.made_small-2.ensures.padded;
      padded_here = c.made_small-3.ensures.padded;
      padded_before = c.made_small-4.ensures.padded;
    }
