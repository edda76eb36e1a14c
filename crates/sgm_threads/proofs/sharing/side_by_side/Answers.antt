use Rattle.std.proofs.Common.{◌≡◌, None, arith, ap, get_or, length, subst, sym}
use Rattle.std.specs.Option.{option_or}
use Rattle.std.specs.Prelude.{All, IfSome}
use Rattle.std.proofs.lemmas.List.{with_items_is}
use Rattle.sgm_threads.specs.Sharing.{AreOwn, HoldOwn}
use Rattle.sgm_threads.proofs.Pieces.{if_ok}
use Rattle.sgm_threads.proofs.Pieces.{all_made, each_given, put_held, so_many}
use Rattle.sgm_threads.proofs.sharing.side_by_side.Goals as goal

pub put_own-requires : goal.put_own-requires
put_own-requires g c =
    let Own = AreOwn g.F.Fn c.args.make.now c.args.count in
    let all = c.into_iter-own-iterator.ensures.into_iter_gives.0 in
    let given : IfSome c.in-Some.own Own =
    each_given (λ own. IfSome own Own) c.loop-own.yielded c.in-Some.own c.into_iter-own-iterator.result c.loop-own.own-iterator c.next.new.self
    (subst (All (λ own. IfSome own Own)) (sym all) c.in_ok-crew.ensures) c.loop-own.yielded_by c.in-Some.ensures.steps in
    let own : Own c.in-Some-own.own = subst (λ r. IfSome r Own) c.in-Some-own.is given in
    omega (arith, own.all, c.loop-own.invariant.all, ap length c.as_mut_slice.ensures.value)

pub loop-own-preserved : goal.loop-own-preserved
loop-own-preserved g c =
    let Own = AreOwn g.F.Fn c.args.make.now c.args.count in
    let all = c.into_iter-own-iterator.ensures.into_iter_gives.0 in
    let given : IfSome c.in-Some.own Own =
    each_given (λ own. IfSome own Own) c.loop-own.yielded c.in-Some.own c.into_iter-own-iterator.result c.loop-own.own-iterator c.next.new.self
    (subst (All (λ own. IfSome own Own)) (sym all) c.in_ok-crew.ensures) c.loop-own.yielded_by c.in-Some.ensures.steps in
    let own : Own c.in-Some-own.own = subst (λ r. IfSome r Own) c.in-Some-own.is given in
    let new = c.put_own.new.places in
    let old = c.loop-own.places in
    let value = c.as_mut_slice.ensures.value in
    let count : length new ≡ length old.items = omega (arith, c.put_own.ensures.count, ap length value) in
    let same = with_items_is old new (omega (arith, count, old.ok)) in
    let held =
    put_held g.F.Fn c.args.make.now c.args.count c.in-Some-own.own old new own c.loop-own.invariant count
    (λ k h. subst (λ xs. get_or new k None ≡ option_or (get_or c.in-Some-own.own.items k None) (get_or xs k None)) value (c.put_own.ensures.each k h)) in
    record {
      all = omega (arith, ap length same, count, c.loop-own.invariant.all);
      own = subst (HoldOwn g.F.Fn c.args.make.now) (sym same) held;
    }

pub returns-clause-count : goal.returns-clause-count
returns-clause-count g c = if_ok c.all_of.result (λ v e. so_many c.loop-own.places.items v.items c.args.count c.loop-own.invariant.all e) c.all_of.ensures

pub returns-clause-made : goal.returns-clause-made
returns-clause-made g c = if_ok c.all_of.result (λ v e. all_made g.F.Fn c.args.make.now c.loop-own.places.items v.items c.loop-own.invariant.own e) c.all_of.ensures
