use Rattle.std.proofs.Common.{◌≡◌, [], ◌∷◌, ◌++◌, ◌∙◌, List, map, Option, Some}
use Rattle.std.proofs.lemmas.List.{map_push}
use Rattle.sgm_threads.proofs.Pieces.{drained}
use Rattle.sgm_threads.proofs.sharing.all_of.Goals as goal

-- one value more, from a place that was not empty
one_more : {X : Type 0} (seen : List (Option X)) (place : Option X) (all new : List X) (value : X) → map Some all ≡ seen → place ≡ Some value → new ≡ all ++ value ∷ []
    → map Some new ≡ seen ++ place ∷ []
one_more seen place all new value before is more = cc (before, is, more, map_push Some all value)

pub loop-place-preserved : goal.loop-place-preserved
loop-place-preserved g c =
    one_more c.loop-place.yielded c.in-Some.place c.loop-place.all.items _ c.in-Some-place.value c.loop-place.invariant c.in-Some-place.is c.in_ok-push-in-Some-place.ensures.items

pub returns : goal.returns
returns g c =
    let given = c.into_iter-place-iterator.ensures.into_iter_gives in
    c.loop-place.invariant ∙ drained c.loop-place.yielded c.args.places.items c.into_iter-place-iterator.result c.loop-place.place-iterator c.next.new.self given.0 (given.1 ∙ c.args.places.ok.0) c.loop-place.yielded_by c.in-None.ensures.steps
