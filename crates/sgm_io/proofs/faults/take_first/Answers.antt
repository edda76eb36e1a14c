use Rattle.std.proofs.Common.{◌∙◌, sym, ap, List}
use Rattle.std.specs.List.{position}
use Rattle.std.proofs.lemmas.List.Folds.{list_any_at}
use Rattle.sgm_io.specs.declared.trip.Trip.{Trip}
use Rattle.sgm_io.specs.Calls.{fails}
use Rattle.sgm_io.proofs.TripLaws.{IsFirst, IsNone, IsFirst-position, IsNone-position, named}
use Rattle.sgm_io.proofs.faults.take_first.Goals as goal

pub returns-in-Some-clause-found : goal.returns-in-Some-clause-found
returns-in-Some-clause-found c =
    let trips = c.args.left.now.items in
    let there : IsFirst (fails c.args.call) trips c.in-Some.at = IsFirst-position _ _ _ (c.in-Some.ensures ∙ ap (λ (xs : List Trip). position (fails c.args.call) xs) c.deref.ensures.value) in
    sym (list_any_at (fails c.args.call) trips c.in-Some.at c.remove.result there.within (there.passes c.remove.result))

pub returns-in-Some-clause-left : goal.returns-in-Some-clause-left
returns-in-Some-clause-left c =
    let there : IsFirst (fails c.args.call) c.args.left.now.items c.in-Some.at = IsFirst-position _ _ _ (c.in-Some.ensures ∙ ap (λ (xs : List Trip). position (fails c.args.call) xs) c.deref.ensures.value) in
    c.remove.ensures.items ∙ there.left

pub returns-in-Some-clause-name : goal.returns-in-Some-clause-name
returns-in-Some-clause-name c =
    let there : IsFirst (fails c.args.call) c.args.left.now.items c.in-Some.at = IsFirst-position _ _ _ (c.in-Some.ensures ∙ ap (λ (xs : List Trip). position (fails c.args.call) xs) c.deref.ensures.value) in
    c.into_name.ensures ∙ named c.args.call c.remove.result (ap (λ (t : Trip). fails c.args.call t) c.remove.ensures.value ∙ there.passes c.remove.result)

pub returns-in-None-clause-found : goal.returns-in-None-clause-found
returns-in-None-clause-found c =
    let none : IsNone (fails c.args.call) c.args.left.now.items = IsNone-position _ _ (c.in-None.ensures ∙ ap (λ (xs : List Trip). position (fails c.args.call) xs) c.deref.ensures.value) in
    sym none.absent

pub returns-in-None-clause-left : goal.returns-in-None-clause-left
returns-in-None-clause-left c =
    let none : IsNone (fails c.args.call) c.args.left.now.items = IsNone-position _ _ (c.in-None.ensures ∙ ap (λ (xs : List Trip). position (fails c.args.call) xs) c.deref.ensures.value) in
    sym none.left
