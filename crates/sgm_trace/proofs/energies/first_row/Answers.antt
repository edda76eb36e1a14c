use Rattle.std.proofs.Common.{◌≡◌, ℕ, ◌<◌, List, [], ◌∷◌, ◌++◌, map, sym, ap, ◌∙◌, arith}
use Rattle.std.proofs.lemmas.List.FromFn.{map-range_with_len_more}
use Rattle.sgm_base.specs.Disparities.{Disparities}
use Rattle.sgm_energy.specs.Energies.{below, least_ending}
use Rattle.sgm_energy.proofs.LeastEnergies.{ending_first}
use Rattle.sgm_strip.specs.Scenes.{problem_of}
use Rattle.sgm_trace.specs.Rows.{pixel_of}
use Rattle.sgm_trace.proofs.energies.first_row.Goals as goal

pub loop-d-preserved : goal.loop-d-preserved
loop-d-preserved c =
    let g = problem_of c.args.scene.now in
    let p = pixel_of c.args.first in
    let count : c.span-span.result.count ≡ c.args.scene.now.span.count = ap (λ (s : Disparities). s.count) c.span-span.ensures in
    let h : c.loop-d.d < g.count = omega (arith, count, ap (λ (s : Disparities). s.count) c.span.view_is) in
    let f = ending_first g p c.loop-d.d h in
    let m = map-range_with_len_more (least_ending g (p ∷ [])) 0 c.loop-d.d c.loop-d.d (omega arith) in
    let value : c.from.result ≡ least_ending g (p ∷ []) c.loop-d.d = omega (arith, f, c.cost.ensures, c.from.ensures) in
    c.in_ok-push.ensures.items ∙ ap (λ (xs : List ℕ). xs ++ c.from.result ∷ []) c.loop-d.invariant
    ∙ ap (λ (v : ℕ). map (least_ending g (p ∷ [])) (below c.loop-d.d) ++ v ∷ []) value ∙ sym m
