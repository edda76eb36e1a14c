use Rattle.std.proofs.Common.{◌≡◌, ℕ, ◌+◌, ◌<◌, List, [], ◌∷◌, ◌++◌, map, sym, ap, ◌∙◌, arith}
use Rattle.std.proofs.lemmas.List.FromFn.{map-range_with_len_more}
use Rattle.sgm_base.specs.Disparities.{Disparities}
use Rattle.sgm_energy.specs.Energies.{below, least_ending}
use Rattle.sgm_energy.specs.Pens.{Penalties}
use Rattle.sgm_strip.specs.Scenes.{problem_of}
use Rattle.sgm_trace.specs.Rows.{pixel_of}
use Rattle.sgm_trace.proofs.Growing.{next_value}
use Rattle.sgm_trace.proofs.energies.next_row.Goals as goal

pub loop-d-preserved : goal.loop-d-preserved
loop-d-preserved c ps is =
    let g = problem_of c.args.scene.now in
    let q = pixel_of c.args.from in
    let p = pixel_of c.args.here in
    let d = c.loop-d.d in
    let count : c.span-span.result.count ≡ c.args.scene.now.span.count = ap (λ (s : Disparities). s.count) c.span-span.ensures in
    let h : d < g.count = omega (arith, count, ap (λ (s : Disparities). s.count) c.span.view_is) in
    let near : c.p1-near.result ≡ g.p1 = c.p1-near.ensures ∙ ap (λ (s : Penalties). s.p1) c.pen.ensures in
    let least = c.least_of-least.ensures.reached in
    let v = next_value g ps q p c.args.before.now c.least_of-least.result d c.p1-near.result c.far-far.result c.cost.result c.carried-reached.result is h near c.far-far.ensures c.cost.ensures (c.requires.within.ordered q p)
    c.least_of-least.ensures.low least.0 least.1 least.2 c.carried-reached.ensures.value in
    let m = map-range_with_len_more (least_ending g ((ps ++ q ∷ []) ++ p ∷ [])) 0 d d (omega arith) in
    let ray = (ps ++ q ∷ []) ++ p ∷ [] in
    let value : c.carried-reached.result + c.from.result ≡ least_ending g ray d = omega (arith, v, c.from.ensures) in
    c.in_ok-push.ensures.items ∙ ap (λ (xs : List ℕ). xs ++ (c.carried-reached.result + c.from.result) ∷ []) (c.loop-d.invariant ps is)
    ∙ ap (λ (n : ℕ). map (least_ending g ray) (below d) ++ n ∷ []) value ∙ sym m
