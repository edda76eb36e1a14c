use Rattle.std.proofs.Common.{◌≡◌, ℕ, ◌+◌, ◌≤◌, List, length, None, Option, Vec, Global, sym, ap, subst, ◌∙◌, get_or, arith}
use Rattle.std.specs.Prelude.{All, IfSome, option_and_then}
use Rattle.std.proofs.lemmas.List.Elements.{All-get_or, All-push}
use Rattle.sgm_base.specs.declared.point.Point.{Point}
use Rattle.sgm_grid.specs.declared.placed.Placed.{Placed}
use Rattle.sgm_grid.specs.Placing.{IsPlaced}
use Rattle.sgm_ground.specs.Heights.{point_at}
use Rattle.sgm_ground.proofs.Places.{few_more, place_none, place_some, places_below}
use Rattle.sgm_ground.proofs.placing.place_row.Goals as goal
use Rattle.sgm_ground.proofs.placing.place_row.Goals.{in-Some+in_ok-push, in_default}

pub place_pixel-requires-clause-value : goal.place_pixel-requires-clause-value
place_pixel-requires-clause-value c =
    All-get_or (λ (entry : Option ℕ). IfSome entry (λ v. v ≤ 4080)) c.args.row.now c.loop-x.x None c.loop-x-test.true c.requires.values

pub loop-x-preserved : goal.loop-x-preserved
loop-x-preserved c =
    let spec = c.args.shown.now.spec in
    let x = c.loop-x.x in
    let f : ℕ → Option Point = λ x. option_and_then (point_at c.args.shown.now.station.now c.args.shown.now.span.first x c.args.y) (get_or c.args.row.now x None) in
    elim c.match-place_pixel.branch [
      | in-Some+in_ok-push w ↦
          (let is = ap (λ (v : Vec Placed Global). v.items) w.places-is ∙ w.in_ok-push.ensures.items in
          record {
            exact = place_some spec f x c.loop-x.places.items c.match-place_pixel.places.items w.in-Some.placed c.loop-x.invariant.exact w.in-Some.ensures.exact is;
            within = subst (All (IsPlaced spec)) (sym is) (All-push (IsPlaced spec) c.loop-x.places.items w.in-Some.placed c.loop-x.invariant.within w.in-Some.ensures.within);
            few = subst (λ (places : List Placed). length places ≤ x + 1) (sym is) (few_more c.loop-x.places.items w.in-Some.placed x c.loop-x.invariant.few);
          })
      | in_default w ↦
          (let is = ap (λ (v : Vec Placed Global). v.items) w.places-is in
          record {
            exact = subst (λ (places : List Placed). places ≡ places_below spec f (x + 1)) (sym is) (place_none spec f x c.loop-x.places.items c.loop-x.invariant.exact w.in_default.ensures.exact);
            within = subst (All (IsPlaced spec)) (sym is) c.loop-x.invariant.within;
            few = subst (λ (places : List Placed). length places ≤ x + 1) (sym is) (omega (arith, c.loop-x.invariant.few));
          })
    ]
