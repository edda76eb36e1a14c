-- What is matched: two planes of codes, the disparities that are tried, the penalties, and the
-- guide that they may follow.
use Rattle.std.specs.Prelude.{◌≡◌, ℕ, ◌*◌, ◌≤◌}
use Rattle.sgm_base.specs.declared.limits.TheConstants.{MAX_PENALTY}
use Rattle.sgm_base.specs.Disparities.{Disparities, IsCount, IsFirst}
use Rattle.sgm_base.specs.Values.{Values, IsValues}
use Rattle.sgm_census.specs.Codes.{Codes, IsCodes}
use Rattle.sgm_census.specs.Matching.{matching_problem}
use Rattle.sgm_energy.specs.Pens.{Penalties}
use Rattle.sgm_energy.specs.Rays.{Problem}

-- what contracts see of a scene
pub record SceneParts : Type 0 where
  pub left : Codes
  pub right : Codes
  pub span : Disparities
  pub penalties : Penalties
  pub guide : Values

abbrev pub scene_of : Codes → Codes → Disparities → Penalties → Values → SceneParts
scene_of left right span penalties guide =
    record { left = left; right = right; span = span; penalties = penalties; guide = guide }

-- what every scene keeps
pub record IsScene (scene : SceneParts) : Type 0 where
  pub left_kept : IsCodes scene.left
  pub right_kept : IsCodes scene.right
  pub same_width : scene.left.width ≡ scene.right.width
  pub same_height : scene.left.height ≡ scene.right.height
  pub same_window : scene.left.window ≡ scene.right.window
  pub same_rule : scene.left.rule ≡ scene.right.rule
  pub first_in_range : IsFirst scene.span.first
  pub count_in_range : IsCount scene.span.count
  pub ordered : scene.penalties.p1 ≤ scene.penalties.p2
  pub limited : scene.penalties.p2 ≤ MAX_PENALTY
  pub guide_kept : IsValues scene.guide
  pub guide_width : scene.guide.width ≡ scene.left.width
  pub guide_height : scene.guide.height ≡ scene.left.height

-- the problem of a scene. All that is kept of costs and path values is said of it
abbrev pub problem_of : SceneParts → Problem
problem_of scene = matching_problem scene.left scene.right scene.span scene.penalties scene.guide

-- how many entries a row of its volume has: one for each column and index
abbrev pub row_length : SceneParts → ℕ
row_length scene = scene.left.width * scene.span.count
