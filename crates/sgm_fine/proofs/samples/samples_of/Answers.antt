use Rattle.std.proofs.Common.{◌≡◌, ◌+◌, ◌*◌, ◌<◌, false, is_some, Option, IfSome, pos, neg_ℤ, ap, subst, sym, ◌∙◌, arith}
use Rattle.sgm_fine.specs.Samples.{Centre, HoldsPlace, IsPlace, centre, half, has, left_at, right_at}
use Rattle.sgm_fine.specs.declared.samples.Place.{Place}
use Rattle.sgm_fine.proofs.WindowSamples.{IsFilled, all_pass, filled_more, has_below, list_all_places, one_fails}
use Rattle.sgm_fine.proofs.samples.samples_of.Goals as goal
use Rattle.sgm_fine.proofs.samples.samples_of.Goals.{then-this-ne0, else-this-ne0}

pub loop-i-init : goal.loop-i-init
loop-i-init g c =
    let w = c.loop-j.window in
    let next : 5 * c.loop-j.j ≡ 5 * c.loop-j.j + 0 = omega arith in
    record {
      row = c.loop-j-test.true;
      few = omega arith;
      before = subst (IsFilled w c.args.left.now c.args.right.now c.args.lie.now c.args.at) next c.loop-j.invariant.before;
    }

pub loop-i-preserved : goal.loop-i-preserved
loop-i-preserved g c =
    let k = 5 * c.loop-j.j + c.loop-i.i in
    let i = c.loop-i.invariant in
    let is = λ (o : Option Place). IfSome o IsPlace in
    let small = subst is c.in_ok-place.was (elim c.if-this-ne0.branch [
      | then-this-ne0 w ↦ subst is (sym w.found-is) w.place_inside-found.ensures.small
      | else-this-ne0 w ↦ subst is (sym w.found-is) w.place_at-found.ensures.small
    ]) in
    record {
      row = i.row;
      few = omega (arith, c.loop-i-test.true);
      before = filled_more c.loop-i.window _ _ _ _ k _ c.in_ok-place.place (omega (arith, i.row, c.loop-i-test.true)) (omega arith) small
          (λ map h.
          let holds = λ (o : Option Place). IfSome o (λ s. HoldsPlace s (centre c.args.left.now c.args.right.now map c.args.at.first c.args.at.x c.args.at.y c.args.at.value) k) in
          subst holds c.in_ok-place.was (elim c.if-this-ne0.branch [
            | then-this-ne0 w ↦ subst holds (sym w.found-is) (w.place_inside-found.ensures.some map h)
            | else-this-ne0 w ↦ subst holds (sym w.found-is) (w.place_at-found.ensures.some map h)
          ]))
          i.before;
    }

pub loop-j-preserved : goal.loop-j-preserved
loop-j-preserved g c =
    let i = c.loop-i.invariant in
    let end : 5 * c.loop-j.j + c.loop-i.i ≡ 5 * (c.loop-j.j + 1) = omega (arith, i.few, c.loop-i-test.false) in
    record { few = omega (arith, i.row); before = subst (IsFilled c.loop-i.window c.args.left.now c.args.right.now c.args.lie.now c.args.at) end i.before }

pub returns-in_err-place-clause-none : goal.returns-in_err-place-clause-none
returns-in_err-place-clause-none g c = λ map h.
    let p : Centre = centre c.args.left.now c.args.right.now map c.args.at.first c.args.at.x c.args.at.y c.args.at.value in
    let k = 5 * c.loop-j.j + c.loop-i.i in
    let lt : k < 25 = omega (arith, c.loop-j-test.true, c.loop-i-test.true) in
    let told = λ (o : Option Place). is_some o ≡ has p k in
    let fails : false ≡ has p k = subst told c.in_err-place.was (elim c.if-this-ne0.branch [
      | then-this-ne0 w ↦ subst told (sym w.found-is) (w.place_inside-found.ensures.none map h)
      | else-this-ne0 w ↦ subst told (sym w.found-is) (w.place_at-found.ensures.none map h)
    ]) in
    ap is_some c.from_residual.ensures ∙ sym (one_fails (has p) 25 k lt (sym {b = has p k} fails))

pub returns-clause-none : goal.returns-clause-none
returns-clause-none g c = λ map h.
    let p : Centre = centre c.args.left.now c.args.right.now map c.args.at.first c.args.at.x c.args.at.y c.args.at.value in
    let k = 5 * c.loop-j.j in
    let i = c.loop-j.invariant in
    let end : k ≡ 25 = omega (arith, i.few, c.loop-j-test.false) in
    sym (all_pass (has p) 0 25 (λ n lt. has_below k c.loop-j.window p (i.before.held map h) n (omega (arith, lt, end))))

pub returns-clause-some : goal.returns-clause-some
returns-clause-some g c = λ map h.
    let p : Centre = centre c.args.left.now c.args.right.now map c.args.at.first c.args.at.x c.args.at.y c.args.at.value in
    let k = 5 * c.loop-j.j in
    let w = c.loop-j.window in
    let i = c.loop-j.invariant in
    let all = i.before.held map h in
    let end : k ≡ 25 = omega (arith, i.few, c.loop-j-test.false) in
    record {
      left = list_all_places (left_at p) w.left 25 k i.before.long_left end all.left;
      after = list_all_places (right_at p half) w.after 25 k i.before.long_after end all.after;
      here = list_all_places (right_at p (pos 0)) w.here 25 k i.before.long_here end all.here;
      before = list_all_places (right_at p (neg_ℤ half)) w.before 25 k i.before.long_before end all.before;
    }
