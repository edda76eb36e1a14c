-- The map of a survey, refined.
use Rattle.std.specs.Prelude.{ℕ, ℤ, if◌then◌else◌}
use Rattle.sgm_base.specs.Values.{Values}
use Rattle.sgm_refine.specs.Filling.{filled}
use Rattle.sgm_base.specs.Refining.{Refining}
use Rattle.sgm_refine.specs.Segments.{kept}

-- the disparities without the segments of fewer than `peak` pixels, and of these, where `fill` is
-- asked for, those filled, with the matches of the right image and the left plane
abbrev pub refined : Values → Values → Values → ℤ → ℕ → Refining → Values
refined disparities matches left first count refine =
    let large = kept disparities refine.peak in
    if refine.fill then filled large matches left first count else large
