-- Parcels: the costs and the sums of a strip, with the set of directions whose path values are in
-- the sums.
use Rattle.std.specs.Prelude.{◌≡◌, ℕ, ◌<◌, ◌≤◌, Bool, true, false, List, [], ◌∷◌, length}
use Rattle.std.specs.Prelude.{slice_index_or, slice_set, All}
use Rattle.sgm_base.specs.declared.limits.TheConstants.{MAX_COST}
use Rattle.sgm_base.specs.Disparities.{Disparities}
use Rattle.sgm_base.specs.Sides.{Sides}
use Rattle.sgm_base.specs.Values.{Values}
use Rattle.sgm_energy.specs.declared.dir.Dir.{Dir}
use Rattle.sgm_energy.specs.declared.dir.Dir.TheVariants.{Right, Left}
use Rattle.sgm_energy.specs.Dirs.{number_of}
use Rattle.sgm_energy.specs.Energies.{sum_done}
use Rattle.sgm_energy.specs.Pens.{Penalties}
use Rattle.sgm_strip.specs.Cuts.{CutParts, IsCut, first_row, rows_of}
use Rattle.sgm_strip.specs.Scenes.{SceneParts, IsScene, problem_of}
use Rattle.sgm_strip.specs.Volumes.{HoldsRows}

-- a set of directions is a list of truth values, by the direction's number
abbrev pub is_done : List Bool → Dir → Bool
is_done done dir = slice_index_or done (number_of dir) false

-- the same set, and this direction
abbrev pub with_done : List Bool → Dir → List Bool
with_done done dir = slice_set done (number_of dir) true

-- the two level directions and no other
abbrev pub level_done : List Bool
level_done = true ∷ true ∷ false ∷ false ∷ false ∷ false ∷ false ∷ false ∷ []

-- all eight
abbrev pub IsComplete : List Bool → Type 0
IsComplete done = (dir : Dir) → is_done done dir ≡ true

-- what contracts see of a parcel
pub record ParcelParts : Type 0 where
  pub scene : SceneParts
  pub cut : CutParts
  pub strip : ℕ
  pub done : List Bool
  pub costs : List ℕ
  pub sums : List ℕ

abbrev pub parcel_of : SceneParts → CutParts → ℕ → List Bool → List ℕ → List ℕ → ParcelParts
parcel_of scene cut strip done costs sums =
    record { scene = scene; cut = cut; strip = strip; done = done; costs = costs; sums = sums }

-- what every parcel keeps: the costs are the scene's costs of its rows, and each sum is that of the
-- path values, along the whole image's rays, over the directions done
pub record IsParcel (parcel : ParcelParts) : Type 0 where
  pub scene_kept : IsScene parcel.scene
  pub cut_kept : IsCut parcel.cut
  pub same_height : parcel.cut.height ≡ parcel.scene.left.height
  pub inside : parcel.strip < parcel.cut.strips
  pub directions : length parcel.done ≡ 8
  pub right_done : is_done parcel.done Right ≡ true
  pub left_done : is_done parcel.done Left ≡ true
  pub costs_low : All (λ c. c ≤ MAX_COST) parcel.costs
  pub costs_held : let g = problem_of parcel.scene in
      HoldsRows g (first_row parcel.cut parcel.strip)
      (rows_of parcel.cut parcel.strip) g.cost parcel.costs
  pub sums_held : let g = problem_of parcel.scene in
      HoldsRows g (first_row parcel.cut parcel.strip) (rows_of parcel.cut parcel.strip)
      (sum_done (is_done parcel.done) g) parcel.sums

-- a size, a span, penalties and a guide are those of the scene
pub record RunsOn (scene : SceneParts) (size : Sides) (span : Disparities) (penalties : Penalties)
    (guide : Values) : Type 0 where
  pub same_width : size.width ≡ scene.left.width
  pub same_height : size.height ≡ scene.left.height
  pub same_span : span ≡ scene.span
  pub same_penalties : penalties ≡ scene.penalties
  pub same_guide : guide ≡ scene.guide

-- a parcel of this scene and this cut
abbrev pub IsOf : SceneParts → CutParts → ParcelParts → Type 0
IsOf scene cut parcel = (parcel.scene ≡ scene) × (parcel.cut ≡ cut)
