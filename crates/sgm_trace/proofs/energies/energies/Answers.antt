use Rattle.std.proofs.Common.{◌≡◌, ℕ, ◌+◌, ◌-◌, ◌<◌, List, [], ◌∷◌, ◌++◌, take, length, get_or, map, sym, ap, ◌∙◌, arith}
use Rattle.std.proofs.lemmas.List.{length-map, get_or-map, map-append, take_more}
use Rattle.std.proofs.lemmas.List.FromFn.{map-range_with_len_more}
use Rattle.sgm_base.specs.declared.limits.TheConstants.{MAX_COST}
use Rattle.sgm_energy.specs.Rays.{Pixel, pixel_at}
use Rattle.sgm_strip.specs.Scenes.{problem_of}
use Rattle.sgm_trace.specs.declared.place.Place.{Place}
use Rattle.sgm_trace.specs.Rows.{energies_of, first_energies, pixel_of}
use Rattle.sgm_trace.proofs.Growing.{rows_length, row_at, row_small, energies_length, up_to_next}
use Rattle.sgm_trace.proofs.energies.energies.Goals as goal

pub index-requires : goal.index-requires
index-requires c =
    let long = rows_length (λ row. row.items) c.loop-k.rows.items (problem_of c.args.scene.now) (map pixel_of c.args.places.now) c.loop-k.k c.loop-k.invariant in
    omega (arith, long)

pub next_row-requires-clause-whole : goal.next_row-requires-clause-whole
next_row-requires-clause-whole c =
    let g = problem_of c.args.scene.now in
    let ps = map pixel_of c.args.places.now in
    let j : ℕ = c.loop-k.k - 1 in
    let e = row_at (λ row. row.items) c.loop-k.rows.items g ps c.loop-k.k j c.index.result.now c.loop-k.invariant (omega arith) in
    let row : c.deref.result.now ≡ energies_of g (take (j + 1) ps) = c.deref.ensures.value ∙ ap (λ v. v.items) c.index.ensures ∙ e in
    ap length row ∙ energies_length g (take (j + 1) ps)

pub next_row-requires-clause-small : goal.next_row-requires-clause-small
next_row-requires-clause-small c d h =
    let g = problem_of c.args.scene.now in
    let ps = map pixel_of c.args.places.now in
    let j : ℕ = c.loop-k.k - 1 in
    let e = row_at (λ row. row.items) c.loop-k.rows.items g ps c.loop-k.k j c.index.result.now c.loop-k.invariant (omega arith) in
    let row : c.deref.result.now ≡ energies_of g (take (j + 1) ps) = c.deref.ensures.value ∙ ap (λ v. v.items) c.index.ensures ∙ e in
    omega (
      arith,
      row_small g MAX_COST c.requires.within.costs c.args.places.now c.requires.inside c.deref.result.now j row (omega (arith, c.loop-k-test.true)) d h,
      c.requires.few,
      c.loop-k-test.true,
    )

pub loop-k-preserved : goal.loop-k-preserved
loop-k-preserved c =
    let g = problem_of c.args.scene.now in
    let places = c.args.places.now in
    let ps = map pixel_of places in
    let k = c.loop-k.k in
    let j : ℕ = c.loop-k.k - 1 in
    let none : Place = record { x = 0; y = 0 } in
    let long = length-map places pixel_of in
    let from : k ≡ j + 1 = omega arith in
    let top : j < length places = omega (arith, c.loop-k-test.true) in
    let q : get_or ps j (pixel_at 0 0) ≡ pixel_of (get_or places j none) = get_or-map pixel_of places j none (pixel_at 0 0) top in
    let p : get_or ps k (pixel_at 0 0) ≡ pixel_of (get_or places k none) = get_or-map pixel_of places k none (pixel_at 0 0) c.loop-k-test.true in
    let e = row_at (λ row. row.items) c.loop-k.rows.items g ps k j c.index.result.now c.loop-k.invariant (omega arith) in
    let before : c.deref.result.now ≡ energies_of g (take j ps ++ pixel_of (get_or places j none) ∷ []) =
    c.deref.ensures.value ∙ ap (λ v. v.items) c.index.ensures ∙ e ∙ ap (energies_of g) (take_more ps j (pixel_at 0 0) (omega (arith, long, top)))
    ∙ ap (λ (r : Pixel). energies_of g (take j ps ++ r ∷ [])) q in
    let next : c.in_ok-row.row.items ≡ energies_of g ((take j ps ++ pixel_of (get_or places j none) ∷ []) ++ pixel_of (get_or places k none) ∷ []) = c.in_ok-row.ensures (take j ps) before in
    let grown : take (k + 1) ps ≡ (take j ps ++ pixel_of (get_or places j none) ∷ []) ++ pixel_of (get_or places k none) ∷ [] =
    up_to_next ps j k from (omega (arith, long, c.loop-k-test.true))
    ∙ ap (λ (r : Pixel). (take j ps ++ r ∷ []) ++ get_or ps k (pixel_at 0 0) ∷ []) q
    ∙ ap (λ (r : Pixel). (take j ps ++ pixel_of (get_or places j none) ∷ []) ++ r ∷ []) p in
    let row : c.in_ok-row.row.items ≡ energies_of g (take (k + 1) ps) = next ∙ sym (ap (energies_of g) grown) in
    ap (map (λ row. row.items)) c.in_ok-push-2.ensures.items
    ∙ map-append (λ row. row.items) c.loop-k.rows.items (c.in_ok-row.row ∷ [])
    ∙ ap (λ (rows : List (List ℕ)). rows ++ c.in_ok-row.row.items ∷ []) c.loop-k.invariant
    ∙ ap (λ (r : List ℕ). first_energies g ps k ++ r ∷ []) row
    ∙ sym (map-range_with_len_more (λ n. energies_of g (take (n + 1) ps)) 0 k k (omega arith))
