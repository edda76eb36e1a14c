use Rattle.std.proofs.Common.{◌≡◌, ℕ, ◌+◌, ◌-◌, ◌*◌, ◌≤◌, List, take, get_or, length, map, sum_by, ap, ◌∙◌, subst, arith}
use Rattle.std.proofs.lemmas.List.{length-map, take_all}
use Rattle.std.proofs.lemmas.List.FromFn.{get_or-map-range_with_len}
use Rattle.sgm_base.specs.declared.limits.TheConstants.{MAX_COST}
use Rattle.sgm_census.proofs.Limits.{matching-within}
use Rattle.sgm_energy.specs.Energies.{energy, least_ending}
use Rattle.sgm_energy.specs.Rays.{Pixel, pixel_at, ray}
use Rattle.sgm_strip.specs.Scenes.{problem_of}
use Rattle.sgm_trace.specs.declared.place.Place.{Place}
use Rattle.sgm_trace.specs.Best.{best}
use Rattle.sgm_trace.specs.Rows.{energies_of, first_energies, pixel_of}
use Rattle.sgm_trace.proofs.Existing.{part, best_least, steps_sum}
use Rattle.sgm_trace.proofs.Growing.{energies_length, energy_small, inside_map, row_at, rows_length}
use Rattle.sgm_trace.proofs.certificate.trace.Goals as goal

pub energies-requires-clause-within : goal.energies-requires-clause-within
energies-requires-clause-within c =
    let scene = c.args.scene.now in
    let kept = c.size-size.ensures.kept in
    matching-within scene.left scene.right scene.span scene.penalties scene.guide kept.left_kept kept.ordered kept.limited

pub index-requires : goal.index-requires
index-requires c =
    let places = c.in_ok-places.places.items in
    let rows : map (λ row. row.items) c.in_ok-rows.rows.items ≡ first_energies (problem_of c.args.scene.now) (map pixel_of places) (length places) =
    subst (λ (ps : List Place). map (λ row. row.items) c.in_ok-rows.rows.items ≡ first_energies (problem_of c.args.scene.now) (map pixel_of ps) (length ps)) c.deref.ensures.value c.in_ok-rows.ensures in
    let long = rows_length (λ row. row.items) c.in_ok-rows.rows.items (problem_of c.args.scene.now) (map pixel_of places) (length places) rows in
    omega (arith, long, c.in_ok-places.ensures.short.0)

pub index-energy-requires : goal.index-energy-requires
index-energy-requires c =
    let g = problem_of c.args.scene.now in
    let places = c.in_ok-places.places.items in
    let rows : map (λ row. row.items) c.in_ok-rows.rows.items ≡ first_energies (problem_of c.args.scene.now) (map pixel_of places) (length places) =
    subst (λ (ps : List Place). map (λ row. row.items) c.in_ok-rows.rows.items ≡ first_energies (problem_of c.args.scene.now) (map pixel_of ps) (length ps)) c.deref.ensures.value c.in_ok-rows.ensures in
    let ps = map pixel_of places in
    let j : ℕ = c.len.result - 1 in
    let e = row_at (λ row. row.items) c.in_ok-rows.rows.items g ps (length places) j c.index.result.now rows (omega (arith, c.len.ensures, c.in_ok-places.ensures.short.0)) in
    let row : c.index.result.now.items ≡ energies_of g (take (j + 1) ps) = ap (λ v. v.items) c.index.ensures ∙ e in
    omega (arith, ap length row, energies_length g (take (j + 1) ps), c.requires.index)

pub steps-requires-clause-within : goal.steps-requires-clause-within
steps-requires-clause-within c =
    let scene = c.args.scene.now in
    let kept = c.size-size.ensures.kept in
    matching-within scene.left scene.right scene.span scene.penalties scene.guide kept.left_kept kept.ordered kept.limited

pub returns-clause-energy : goal.returns-clause-energy
returns-clause-energy c =
    let g = problem_of c.args.scene.now in
    let places = c.in_ok-places.places.items in
    let rows : map (λ row. row.items) c.in_ok-rows.rows.items ≡ first_energies (problem_of c.args.scene.now) (map pixel_of places) (length places) =
    subst (λ (ps : List Place). map (λ row. row.items) c.in_ok-rows.rows.items ≡ first_energies (problem_of c.args.scene.now) (map pixel_of ps) (length ps)) c.deref.ensures.value c.in_ok-rows.ensures in
    let ps = map pixel_of places in
    let j : ℕ = c.len.result - 1 in
    let e = row_at (λ row. row.items) c.in_ok-rows.rows.items g ps (length places) j c.index.result.now rows (omega (arith, c.len.ensures, c.in_ok-places.ensures.short.0)) in
    let whole : take (j + 1) ps ≡ ps = take_all (j + 1) ps (omega (arith, c.len.ensures, length-map places pixel_of, c.in_ok-places.ensures.short.0)) in
    let row : c.index.result.now.items ≡ energies_of g ps = ap (λ v. v.items) c.index.ensures ∙ e ∙ ap (energies_of g) whole in
    let r = c.index-energy.result.now in
    let is : get_or c.index.result.now.items c.args.d r ≡ least_ending g ps c.args.d = ap (λ (values : List ℕ). get_or values c.args.d r) row
    ∙ get_or-map-range_with_len (least_ending g ps) 0 g.count c.args.d c.args.d r c.requires.index (omega arith) in
    let ray : least_ending g ps c.args.d ≡ least_ending g (ray g c.args.dir (pixel_at c.args.x c.args.y)) c.args.d = ap (λ (qs : List Pixel). least_ending g qs c.args.d) c.in_ok-places.ensures.ray in
    omega (arith, c.index-energy.ensures, is, ray)

-- the same index everywhere costs no more than the greatest cost at each pixel of the ray
pub returns-clause-bound : goal.returns-clause-bound
returns-clause-bound c =
    let scene = c.args.scene.now in
    let g = problem_of scene in
    let places = c.in_ok-places.places.items in
    let ps = map pixel_of places in
    let kept = c.size-size.ensures.kept in
    let within = matching-within scene.left scene.right scene.span scene.penalties scene.guide kept.left_kept kept.ordered kept.limited in
    let j : ℕ = length places - 1 in
    let long = length-map places pixel_of in
    let some = c.in_ok-places.ensures.short.0 in
    let whole : take (j + 1) ps ≡ ps = take_all (j + 1) ps (omega (arith, long, some)) in
    let small : least_ending g (take (j + 1) ps) c.args.d ≤ MAX_COST * (j + 1) =
    energy_small g MAX_COST within.costs ps (inside_map g places c.in_ok-places.ensures.inside) j c.args.d (omega (arith, long, some)) c.requires.index in
    let along : least_ending g (take (j + 1) ps) c.args.d ≡ least_ending g (ray g c.args.dir (pixel_at c.args.x c.args.y)) c.args.d =
    ap (λ (qs : List Pixel). least_ending g qs c.args.d) (whole ∙ c.in_ok-places.ensures.ray) in
    omega (arith, small, along, returns-clause-energy c, c.in_ok-places.ensures.short.1)

pub returns-clause-adds : goal.returns-clause-adds
returns-clause-adds c =
    let g = problem_of c.args.scene.now in
    let p = pixel_at c.args.x c.args.y in
    let ps = map pixel_of c.deref-2.result.now in
    let along : ps ≡ ray g c.args.dir p = ap (map pixel_of) c.deref-2.ensures.value ∙ c.in_ok-places.ensures.ray in
    let sum : sum_by part c.in_ok-steps.steps.items ≡ energy g ps (best g ps c.args.d) = ap (sum_by part) c.in_ok-steps.ensures ∙ steps_sum g ps (best g ps c.args.d) in
    let least : energy g ps (best g ps c.args.d) ≡ least_ending g (ray g c.args.dir p) c.args.d = ap (λ (qs : List Pixel). energy g qs (best g qs c.args.d)) along ∙ best_least g c.args.dir p c.args.d c.requires.index in
    omega (arith, sum, least, returns-clause-energy c)
