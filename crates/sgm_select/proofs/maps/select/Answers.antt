use Rattle.std.proofs.Common.{map, subst, sym, arith}
use Rattle.sgm_base.specs.declared.limits.TheConstants.{MAX_DISPARITY}
use Rattle.sgm_strip.specs.Scenes.{problem_of}
use Rattle.sgm_select.specs.Selection.{disparities_of}
use Rattle.sgm_select.specs.Strips.{AreRowsOf}
use Rattle.sgm_select.proofs.Greatest.{rows_low}
use Rattle.sgm_select.proofs.Strips.{low_from}
use Rattle.sgm_select.proofs.maps.select.Goals as goal

pub join_strips-requires : goal.join_strips-requires
join_strips-requires c =
    let whole = disparities_of (problem_of c.args.scene.now) c.args.left.now c.args.right.now c.args.scene.now.span.first in
    let cut = c.requires.parcels.cut in
    record {
      rows = (
        whole,
        cut,
        subst (λ vs. AreRowsOf whole cut (map (λ v. v.items) vs)) (sym c.deref.ensures.value) (c.in_ok-strips.ensures cut c.requires.parcels.strips),
        c.size.ensures.width,
        c.size.ensures.height,
      );
    }

pub returns-clause-exact : goal.returns-clause-exact
returns-clause-exact c =
    let whole = disparities_of (problem_of c.args.scene.now) c.args.left.now c.args.right.now c.args.scene.now.span.first in
    let cut = c.requires.parcels.cut in
    c.join_strips.ensures.exact whole cut
    (subst (λ vs. AreRowsOf whole cut (map (λ v. v.items) vs)) (sym c.deref.ensures.value) (c.in_ok-strips.ensures cut c.requires.parcels.strips))
    c.size.ensures.width c.size.ensures.height

pub returns-clause-bound : goal.returns-clause-bound
returns-clause-bound c =
    let g = problem_of c.args.scene.now in
    low_from c.join_strips.result (disparities_of g c.args.left.now c.args.right.now c.args.scene.now.span.first) MAX_DISPARITY (returns-clause-exact c)
    (rows_low g c.args.left.now c.args.right.now c.args.scene.now.span.first (omega (arith, c.size.ensures.kept.count_in_range)) (omega (arith, c.size.ensures.kept.count_in_range)))
