use Rattle.std.proofs.Common.{◌≡◌, ◌+◌, ◌∙◌, sym, ap, subst, arith}
use Rattle.sgm_base.specs.Disparities.{Disparities}
use Rattle.sgm_energy.specs.Rays.{Problem}
use Rattle.sgm_strip.specs.Cuts.{first_row}
use Rattle.sgm_strip.specs.Scenes.{problem_of}
use Rattle.sgm_select.specs.Strips.{HoldsMatchesFrom}
use Rattle.sgm_select.proofs.Strips.{complete_row}
use Rattle.sgm_select.proofs.matching.match_rows.Goals as goal

pub loop-place-preserved : goal.loop-place-preserved
loop-place-preserved c =
    let parcel = c.args.parcel.now in
    let g : Problem = problem_of parcel.scene in
    let top = first_row parcel.cut parcel.strip in
    let place = c.loop-place.place in
    let first_is : c.first-first.result ≡ top = c.first-first.ensures.row ∙ ap (λ k. first_row k c.strip-strip.result) c.cut-cut.ensures ∙ ap (first_row parcel.cut) c.strip-strip.ensures.value in
    subst (λ (s : Disparities). HoldsMatchesFrom g s.first top (place + 1) c.match_at.new.into) c.span-span.ensures
    (c.match_at.ensures g top (c.first-first.result + place) (sym (ap (λ (s : Disparities). s.count) c.span-span.ensures)) (omega (arith, c.requires.indices_length, c.loop-place.auto.indices))
    (ap (λ n. n + place) first_is)
    (complete_row g parcel.done _ c.sums_row-sums.result.now c.requires.complete c.sums_row-sums.ensures)
    (subst (λ (s : Disparities). HoldsMatchesFrom g s.first top place c.loop-place.into) (sym c.span-span.ensures) c.loop-place.invariant))
