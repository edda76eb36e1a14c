use Rattle.std.proofs.Common.{◌≡◌, ◌+◌, ◌∙◌, sym, ap, subst, arith}
use Rattle.sgm_base.specs.Disparities.{Disparities}
use Rattle.sgm_energy.specs.Rays.{Problem}
use Rattle.sgm_strip.specs.Cuts.{first_row, rows_of}
use Rattle.sgm_strip.specs.Scenes.{problem_of}
use Rattle.sgm_select.specs.Strips.{HoldsFrom}
use Rattle.sgm_select.proofs.Strips.{complete_row}
use Rattle.sgm_select.proofs.maps.select_rows.Goals as goal

pub loop-place-preserved : goal.loop-place-preserved
loop-place-preserved c =
    let parcel = c.args.parcel.now in
    let left = c.args.planes.now.left.now in
    let right = c.args.planes.now.right.now in
    let g : Problem = problem_of parcel.scene in
    let top = first_row parcel.cut parcel.strip in
    let place = c.loop-place.place in
    let first_is : c.first-first.result ≡ top = c.first-first.ensures.row ∙ ap (λ k. first_row k c.strip-strip.result) c.cut-cut.ensures ∙ ap (first_row parcel.cut) c.strip-strip.ensures.value in
    record {
      done = subst (λ (s : Disparities). HoldsFrom g left right s.first top (place + 1) c.select_at.new.into) c.requires.span
          (c.select_at.ensures.exact g top (sym (ap (λ (s : Disparities). s.count) c.requires.span))
          (record { same_width = sym c.requires.width; same_height = sym c.requires.height })
          (ap (λ n. n + place) first_is)
          (complete_row g parcel.done _ c.sums_row-sums.result.now c.requires.complete c.sums_row-sums.ensures)
          (subst (λ (s : Disparities). HoldsFrom g left right s.first top place c.loop-place.into) (sym c.requires.span) c.loop-place.invariant.done));
      wide = c.select_at.ensures.room ∙ c.loop-place.invariant.wide;
    }

pub returns : goal.returns
returns c x r hx hr =
    let parcel = c.args.parcel.now in
    let rows_is : c.rows-rows.result ≡ rows_of parcel.cut parcel.strip = c.rows-rows.ensures.rows ∙ ap (λ k. rows_of k c.strip-strip.result) c.cut-cut.ensures ∙ ap (rows_of parcel.cut) c.strip-strip.ensures.value in
    c.loop-place.invariant.done x r hx (omega (arith, rows_is, c.loop-place-test.false, hr))
