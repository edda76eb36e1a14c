-- What contracts see of a refinement.
use Rattle.std.specs.Prelude.{ℕ, ◌≤◌, Bool, false}
use Rattle.sgm_base.specs.declared.limits.TheConstants.{MAX_PEAK}

-- a least number of pixels that a segment may be asked to have
abbrev pub IsPeak : ℕ → Type 0
IsPeak n = n ≤ MAX_PEAK

-- segments of fewer than `peak` pixels are removed, and then pixels are filled where `fill` is true
pub record Refining : Type 0 where
  pub peak : ℕ
  pub fill : Bool

-- the map as it is
abbrev pub plain : Refining
plain = record { peak = 0; fill = false }
