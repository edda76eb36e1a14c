use Rattle.std.proofs.Common.{min, ◌≡◌, ◌+◌, ◌-◌, ◌≤◌, ◌++◌, [], ◌∷◌, length, take, rules, ap, sym, subst, ◌∙◌, arith, ℤ, Option, List}
use Rattle.std.specs.List.{zip}
use Rattle.std.proofs.lemmas.List.{length_push}
use Rattle.std.proofs.lemmas.Slice.Zip.{zip_end, zip_turn}
use Rattle.sgm_change.specs.Counts.{HasRoom, counts_of}
use Rattle.sgm_change.proofs.Counted.{room_less, row_more, zip_all, zip_more}
use Rattle.sgm_change.proofs.compare.Counts.with_row.Goals as goal

pub with_cell-counts-requires-clause-room : goal.with_cell-counts-requires-clause-room
with_cell-counts-requires-clause-room c =
    let xs = c.args.earlier.now in
    let k = length c.loop-before.yielded in
    let turn = zip_turn xs c.args.later.now c.loop-before.yielded c.into_iter-before-iterator.result c.loop-before.before-iterator c.next.new.self c.next.result
    (search rules) (search rules) c.loop-before.yielded_by (c.in-Some.before, c.in-Some.after) c.in-Some.is c.next.ensures.steps in
    let room = c.loop-before.invariant.room 0 (subst (λ n. HasRoom c.args.self n) (omega arith) c.requires.room) in
    let within = turn.0 in
    let one : 1 ≤ 0 + (length xs - k) = omega (arith, within) in
    room_less c.loop-before.counts _ 1 one room

pub loop-before-preserved : goal.loop-before-preserved
loop-before-preserved c =
    let xs = c.args.earlier.now in
    let ys = c.args.later.now in
    let x = c.in-Some.before.now in
    let y = c.in-Some.after.now in
    let k = length c.loop-before.yielded in
    let turn = zip_turn xs ys c.loop-before.yielded c.into_iter-before-iterator.result c.loop-before.before-iterator c.next.new.self c.next.result
    (search rules) (search rules) c.loop-before.yielded_by (c.in-Some.before, c.in-Some.after) c.in-Some.is c.next.ensures.steps in
    let count : length (c.loop-before.yielded ++ (c.in-Some.before, c.in-Some.after) ∷ []) ≡ k + 1 = length_push c.loop-before.yielded (c.in-Some.before, c.in-Some.after) in
    let within = turn.0 in
    record {
      value = λ cells e.
          row_more c.args.self c.loop-before.counts c.with_cell-counts.result xs ys k x y (zip_more xs ys k x y turn.0 turn.1 (turn.2 x) (turn.3 y))
          c.loop-before.invariant.value c.with_cell-counts.ensures.value cells e
          ∙ ap (λ n. counts_of (cells ++ zip (take n xs) (take n ys))) (sym count);
      room = λ left room.
          let next : left + (length xs - k) ≡ left + (length xs - (k + 1)) + 1 = omega (arith, within) in
          subst (λ n. HasRoom c.with_cell-counts.result (left + (length xs - n))) (sym count)
          (c.with_cell-counts.ensures.room (left + (length xs - (k + 1))) (subst (λ n. HasRoom c.loop-before.counts n) next (c.loop-before.invariant.room left room)));
    }

pub returns-clause-value : goal.returns-clause-value
returns-clause-value c = λ cells e.
    let xs = c.args.earlier.now in
    let ys = c.args.later.now in
    let k = length c.loop-before.yielded in
    let count : k ≡ min (length xs) (length ys) = zip_end xs ys c.loop-before.yielded c.into_iter-before-iterator.result c.loop-before.before-iterator c.next.new.self c.next.result
    (search rules) (search rules) c.loop-before.yielded_by c.in-None.is c.next.ensures.steps in
    let first : length xs ≤ k = omega (arith, count, c.requires.lengths) in
    let second : length ys ≤ k = omega (arith, count, c.requires.lengths) in
    c.loop-before.invariant.value cells e ∙ ap (λ (t : List (Option ℤ × Option ℤ)). counts_of (cells ++ t)) (zip_all k xs ys first second)

pub returns-clause-room : goal.returns-clause-room
returns-clause-room c = λ left room.
    let xs = c.args.earlier.now in
    let ys = c.args.later.now in
    let k = length c.loop-before.yielded in
    let count : k ≡ min (length xs) (length ys) = zip_end xs ys c.loop-before.yielded c.into_iter-before-iterator.result c.loop-before.before-iterator c.next.new.self c.next.result
    (search rules) (search rules) c.loop-before.yielded_by c.in-None.is c.next.ensures.steps in
    let done : left + (length xs - k) ≡ left = omega (arith, count, c.requires.lengths) in
    subst (λ n. HasRoom c.loop-before.counts n) done (c.loop-before.invariant.room left room)
