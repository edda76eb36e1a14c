use Rattle.std.proofs.Common.{ℕ, ◌≤◌, ℤ, neg_ℤ, subst, sym}
use Rattle.sgm_base.specs.Ranges.{IsFromTo}
use Rattle.sgm_grid.specs.declared.limits.TheConstants.{MAX_PLACE}
use Rattle.sgm_report.specs.declared.outline.TheConstants.{MAX_CORNERS, MIN_CORNERS}
use Rattle.sgm_calib.proofs.WarpLemmas.{pairs_kept}
use Rattle.sgm_calib.proofs.regions.outline.Goals as goal

pub returns-clause-kept : goal.returns-clause-kept
returns-clause-kept c =
    let many = sym c.in_ok-corners.ensures.count in
    record {
      some_corners = subst (λ (n : ℕ). MIN_CORNERS ≤ n) many c.in_ok-items.ensures.count.1;
      few_corners = subst (λ (n : ℕ). n ≤ MAX_CORNERS) many c.in_ok-items.ensures.count.2;
      in_range =
          pairs_kept (λ (z : ℤ). IsFromTo (neg_ℤ MAX_PLACE) MAX_PLACE z) c.in_ok-items.items.now c.in_ok-corners.corners.items
          c.in_ok-corners.ensures.value c.in_ok-items.ensures.range;
    }
