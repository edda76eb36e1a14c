use Rattle.std.proofs.Common.{◌≡◌, ◌+◌, ◌≤◌, ◌++◌, [], ◌∷◌, length, min, take, rules, ap, sym, subst, refl, ◌∙◌, arith, append-nil, ℤ, Option, None}
use Rattle.std.specs.List.{zip}
use Rattle.std.specs.Option.{ForSome}
use Rattle.std.proofs.lemmas.List.{length_push}
use Rattle.std.proofs.lemmas.List.Elements.{All-get_or}
use Rattle.std.proofs.lemmas.Slice.Zip.{zip_end, zip_turn}
use Rattle.sgm_grid.specs.Cells.{IsHeight}
use Rattle.sgm_text.proofs.Beginnings.{on_err, starts_more, starts_on, starts_same}
use Rattle.sgm_change.specs.Texts.{after_spaces}
use Rattle.sgm_change.proofs.Counted.{zip_all, zip_more}
use Rattle.sgm_change.proofs.Rows.{rest_more}
use Rattle.sgm_change.proofs.difference.append_rest.Goals as goal

pub loop-before-preserved : goal.loop-before-preserved
loop-before-preserved c =
    let xs = c.args.earlier.now in
    let ys = c.args.later.now in
    let x = c.in-Some.before.now in
    let y = c.in-Some.after.now in
    let k = length c.loop-before.yielded in
    let turn = zip_turn xs ys c.loop-before.yielded c.into_iter-before-iterator.result c.loop-before.before-iterator c.next.new.self c.next.result
    (search rules) (search rules) c.loop-before.yielded_by (c.in-Some.before, c.in-Some.after) c.in-Some.is c.next.ensures.steps in
    let count : length (c.loop-before.yielded ++ (c.in-Some.before, c.in-Some.after) ∷ []) ≡ k + 1 = length_push c.loop-before.yielded (c.in-Some.before, c.in-Some.after) in
    let more = rest_more c.args.into.now.items c.loop-before.into.items c.extend_from_slice.new.self.items c.append_difference.new.into.items xs ys k x y
    (zip_more xs ys k x y turn.0 turn.1 (turn.2 x) (turn.3 y)) c.loop-before.invariant.so_far c.in_ok-extend_from_slice.ensures.items c.in_ok-append_difference.ensures.ok in
    record {
      so_far = more ∙ ap (λ n. c.args.into.now.items ++ after_spaces (zip (take n xs) (take n ys))) (sym count);
      starts = starts_more c.args.into.now.items c.extend_from_slice.new.self.items c.append_difference.new.into.items _
          (starts_more c.args.into.now.items c.loop-before.into.items c.extend_from_slice.new.self.items _ c.loop-before.invariant.starts c.in_ok-extend_from_slice.ensures.items)
          c.in_ok-append_difference.ensures.ok;
    }

pub append_difference-requires-clause-earlier : goal.append_difference-requires-clause-earlier
append_difference-requires-clause-earlier c =
    let xs = c.args.earlier.now in
    let ys = c.args.later.now in
    let P : Option ℤ → Type 0 = λ height. ForSome height IsHeight in
    let turn = zip_turn xs ys c.loop-before.yielded c.into_iter-before-iterator.result c.loop-before.before-iterator c.next.new.self c.next.result
    (search rules) (search rules) c.loop-before.yielded_by (c.in-Some.before, c.in-Some.after) c.in-Some.is c.next.ensures.steps in
    subst P (sym (turn.2 None)) (All-get_or P xs (length c.loop-before.yielded) None turn.0 c.requires.earlier)

pub append_difference-requires-clause-later : goal.append_difference-requires-clause-later
append_difference-requires-clause-later c =
    let xs = c.args.earlier.now in
    let ys = c.args.later.now in
    let P : Option ℤ → Type 0 = λ height. ForSome height IsHeight in
    let turn = zip_turn xs ys c.loop-before.yielded c.into_iter-before-iterator.result c.loop-before.before-iterator c.next.new.self c.next.result
    (search rules) (search rules) c.loop-before.yielded_by (c.in-Some.before, c.in-Some.after) c.in-Some.is c.next.ensures.steps in
    subst P (sym (turn.3 None)) (All-get_or P ys (length c.loop-before.yielded) None turn.1 c.requires.later)

pub loop-before-init : goal.loop-before-init
loop-before-init c = record {
  so_far = sym (append-nil c.args.into.now.items);
  starts = starts_same c.args.into.now.items c.args.into.now.items refl;
}

pub returns-in_err-extend_from_slice-clause-err : goal.returns-in_err-extend_from_slice-clause-err
returns-in_err-extend_from_slice-clause-err c =
    on_err c.from_residual.result
    (starts_on c.args.into.now.items c.loop-before.into.items c.extend_from_slice.new.self.items c.loop-before.invariant.starts
    (starts_same c.loop-before.into.items c.extend_from_slice.new.self.items c.in_err-extend_from_slice.ensures.items))

pub returns-in_err-append_difference-clause-err : goal.returns-in_err-append_difference-clause-err
returns-in_err-append_difference-clause-err c =
    on_err c.from_residual-in_err-append_difference.result
    (starts_more c.args.into.now.items c.loop-before.into.items c.append_difference.new.into.items _ c.loop-before.invariant.starts
    (c.in_err-append_difference.ensures.err ∙ c.in_ok-extend_from_slice.ensures.items))

pub returns-clause-ok : goal.returns-clause-ok
returns-clause-ok c =
    let xs = c.args.earlier.now in
    let ys = c.args.later.now in
    let k = length c.loop-before.yielded in
    let count : k ≡ min (length xs) (length ys) = zip_end xs ys c.loop-before.yielded c.into_iter-before-iterator.result c.loop-before.before-iterator c.next.new.self c.next.result
    (search rules) (search rules) c.loop-before.yielded_by c.in-None.is c.next.ensures.steps in
    let first : length xs ≤ k = omega (arith, count, c.requires.lengths) in
    let second : length ys ≤ k = omega (arith, count, c.requires.lengths) in
    c.loop-before.invariant.so_far ∙ ap (λ t. c.args.into.now.items ++ after_spaces t) (zip_all k xs ys first second)
