use Rattle.std.proofs.Common.{◌≡◌, List, [], ◌∷◌, ◌++◌, All, length, map, reverse, Some, None, sym, ap, ◌∙◌, subst, arith, append_assoc}
use Rattle.std.proofs.lemmas.List.{length-reverse, length_push, map-append, reverse-append}
use Rattle.std.proofs.lemmas.List.Elements.{All-push}
use Rattle.sgm_base.specs.declared.limits.TheConstants.{MAX_SIDE}
use Rattle.sgm_energy.specs.Rays.{IsInside, Pixel, before, predecessor}
use Rattle.sgm_energy.proofs.RayLemmas.{parts_from, before_inside, before_first, before_last, before_next, room_falls}
use Rattle.sgm_strip.specs.Scenes.{problem_of}
use Rattle.sgm_trace.specs.declared.place.Place.{Place}
use Rattle.sgm_trace.specs.Rows.{pixel_of}
use Rattle.sgm_trace.proofs.RayPlaces.{map-reverse, room_within}
use Rattle.sgm_trace.proofs.place.places.Goals as goal

pub loop-before-init : goal.loop-before-init
loop-before-init c =
    let g = problem_of c.args.scene.now in
    let last = c.args.last in
    let items : c.push.new.self.items ≡ last ∷ [] = c.in_ok-push.ensures.items ∙ ap (λ (ps : List Place). ps ++ last ∷ []) c.new-places.ensures.items in
    let none : All (λ (p : Place). IsInside g (pixel_of p)) [] = λ k d h. absurd (omega (arith, h)) in
    record {
      here = c.requires;
      some = omega (arith, ap length items);
      short = omega (arith, ap length items);
      inside = subst (All (λ (p : Place). IsInside g (pixel_of p))) (sym items) (All-push (λ (p : Place). IsInside g (pixel_of p)) [] last none c.requires);
      ray = ap (λ (ps : List Place). before g c.args.dir (pixel_of last) ++ reverse (map pixel_of ps)) items ∙ before_last g c.args.dir (pixel_of last);
    }

pub loop-before-smaller : goal.loop-before-smaller
loop-before-smaller c =
    let g = problem_of c.args.scene.now in
    let p = pixel_of c.loop-before.here in
    let q = pixel_of c.in-Some.before in
    let found : predecessor g c.args.dir p ≡ Some q = sym (c.in-Some.ensures g (sym c.size-size.ensures.width) (sym c.size-size.ensures.height)) in
    room_falls g c.args.dir p q (parts_from g c.args.dir p q found)

pub loop-before-preserved : goal.loop-before-preserved
loop-before-preserved c =
    let g = problem_of c.args.scene.now in
    let dir = c.args.dir in
    let places = c.loop-before.places.items in
    let new = c.in-Some.before in
    let p = pixel_of c.loop-before.here in
    let q = pixel_of new in
    let found : predecessor g dir p ≡ Some q = sym (c.in-Some.ensures g (sym c.size-size.ensures.width) (sym c.size-size.ensures.height)) in
    let parts = parts_from g dir p q found in
    let items : c.push-in-Some.new.self.items ≡ places ++ new ∷ [] = c.in_ok-push-2.ensures.items in
    let long = length_push places new in
    let rest = reverse (map pixel_of places) in
    let back : reverse (map pixel_of (places ++ new ∷ [])) ≡ q ∷ rest = ap reverse (map-append pixel_of places (new ∷ [])) ∙ reverse-append (map pixel_of places) (q ∷ []) in
    record {
      here = before_inside g dir p q parts;
      some = omega (arith, ap length items, long);
      short = omega (arith, ap length items, long, c.loop-before.invariant.short, room_falls g dir p q parts);
      inside = subst (All (λ (r : Place). IsInside g (pixel_of r))) (sym items)
          (All-push (λ (r : Place). IsInside g (pixel_of r)) places new c.loop-before.invariant.inside (before_inside g dir p q parts));
      ray = ap (λ (ps : List Place). before g dir q ++ reverse (map pixel_of ps)) items ∙ ap (λ (ps : List Pixel). before g dir q ++ ps) back
          ∙ sym (append_assoc (before g dir q) (q ∷ []) rest) ∙ ap (λ (ps : List Pixel). ps ++ rest) (before_last g dir q ∙ sym (before_next g dir p q found))
          ∙ c.loop-before.invariant.ray;
    }

pub returns-clause-ray : goal.returns-clause-ray
returns-clause-ray c =
    let g = problem_of c.args.scene.now in
    let p = pixel_of c.loop-before.here in
    let none : predecessor g c.args.dir p ≡ None = sym (c.in_default.ensures g (sym c.size-size.ensures.width) (sym c.size-size.ensures.height)) in
    let places = c.loop-before.places.items in
    ap (map pixel_of) c.reverse.ensures.items ∙ map-reverse pixel_of places
    ∙ sym (ap (λ (ps : List Pixel). ps ++ reverse (map pixel_of places)) (before_first g c.args.dir p none)) ∙ c.loop-before.invariant.ray

pub returns-clause-short : goal.returns-clause-short
returns-clause-short c =
    let g = problem_of c.args.scene.now in
    let kept = c.size-size.ensures.kept in
    let long : length c.reverse.new.self.items ≡ length c.loop-before.places.items = ap length c.reverse.ensures.items ∙ length-reverse c.loop-before.places.items in
    let room = room_within g c.args.dir (pixel_of c.args.last) MAX_SIDE kept.left_kept.width_in_range.1 kept.left_kept.height_in_range.1 c.requires in (
      omega (arith, long, c.loop-before.invariant.some),
      omega (arith, long, c.loop-before.invariant.short, room),
    )
