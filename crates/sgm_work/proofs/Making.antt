-- Parcels and fronts as they are made.
use Rattle.std.proofs.Common.{◌≡◌, ℕ, List, [], ◌∷◌, ◌++◌, length, get_or, Some, sym, ap, subst, ◌∙◌, inl, inr}
use Rattle.std.specs.Prelude.{All, slice_get}
use Rattle.std.proofs.lemmas.Option.{slice_get-get_or}
use Rattle.sgm_energy.specs.declared.dir.Dir.{Dir}
use Rattle.sgm_energy.specs.declared.dir.Dir.TheVariants.{Right, Left, Down, DownRight, DownLeft, Up, UpRight, UpLeft}
use Rattle.sgm_energy.specs.Dirs.{dir_of_front, front_of}
use Rattle.sgm_strip.specs.Cuts.{CutParts, IsCut}
use Rattle.sgm_strip.specs.Fronts.{FrontParts, front_parts}
use Rattle.sgm_strip.specs.Parcels.{ParcelParts, level_done}
use Rattle.sgm_strip.specs.Scenes.{SceneParts}
use Rattle.sgm_strip.specs.Strips.{AreStrips}
use Rattle.sgm_board.specs.Ready.{AreReady, IsNewFront}
use Rattle.sgm_board.proofs.Getting.{get-push}
use Rattle.sgm_work.specs.Made.{AreNewFronts, IsNewParcel}

-- ---- parcels

pub are_strips : (scene : SceneParts) (cut : CutParts) (parcels : List ParcelParts) → IsCut cut → cut.height ≡ scene.left.height → length parcels ≡ cut.strips
    → ((k : ℕ) (parcel : ParcelParts) → slice_get parcels k ≡ Some parcel → IsNewParcel scene cut k parcel) → AreStrips scene cut parcels
are_strips scene cut parcels kept high all each = record {
  cut_kept = kept;
  same_height = high;
  all = all;
  each = λ k parcel at. (each k parcel at).is;
}

pub are_level : (scene : SceneParts) (cut : CutParts) (parcels : List ParcelParts)
    → ((k : ℕ) (parcel : ParcelParts) → slice_get parcels k ≡ Some parcel → IsNewParcel scene cut k parcel) → All (λ parcel. parcel.done ≡ level_done) parcels
are_level scene cut parcels each k d h = (each k (get_or parcels k d) (slice_get-get_or parcels k d h)).level

-- ---- fronts

dir_back : (dir : Dir) (k : ℕ) → front_of dir ≡ Some k → dir_of_front k ≡ Some dir
dir_back Right k e = absurd (cc)
dir_back Left k e = absurd (cc)
dir_back Down k e = ap dir_of_front (let q : k ≡ 0 = cc in q)
dir_back DownRight k e = ap dir_of_front (let q : k ≡ 1 = cc in q)
dir_back DownLeft k e = ap dir_of_front (let q : k ≡ 2 = cc in q)
dir_back Up k e = ap dir_of_front (let q : k ≡ 3 = cc in q)
dir_back UpRight k e = ap dir_of_front (let q : k ≡ 4 = cc in q)
dir_back UpLeft k e = ap dir_of_front (let q : k ≡ 5 = cc in q)

-- the direction with this front is the one that was asked for
same_dir : (dir other : Dir) (k : ℕ) → front_of dir ≡ Some k → dir_of_front k ≡ Some other → other ≡ dir
same_dir dir other k e f = let same : Some other ≡ Some dir = sym f ∙ dir_back dir k e in cc

pub front_more : (scene : SceneParts) (cut : CutParts) (fronts : List FrontParts) (made : FrontParts) (other : Dir) (place : ℕ) → length fronts ≡ place → dir_of_front place ≡ Some other
    → made ≡ front_parts scene cut other made.row []
    → ((dir : Dir) (k : ℕ) (front : FrontParts) → front_of dir ≡ Some k → slice_get fronts k ≡ Some front → IsNewFront scene cut dir front)
    → (dir : Dir) (k : ℕ) (front : FrontParts) → front_of dir ≡ Some k → slice_get (fronts ++ made ∷ []) k ≡ Some front → IsNewFront scene cut dir front
front_more scene cut fronts made other place all asked is each dir k front e at = elim (get-push fronts made front k at) [
  | inl old ↦ each dir k front e old
  | inr new ↦
      (let here : dir_of_front k ≡ Some other = ap dir_of_front (new.0 ∙ all) ∙ asked in
      let same : other ≡ dir = same_dir dir other k e here in
      subst (λ (f : FrontParts). IsNewFront scene cut dir f) new.1
      (record {
        same_scene = ap (λ (f : FrontParts). f.scene) is;
        same_cut = ap (λ (f : FrontParts). f.cut) is;
        same_dir = ap (λ (f : FrontParts). f.dir) is ∙ same;
        unvisited = ap (λ (f : FrontParts). f.visits) is;
      }))
]

pub ready : (scene : SceneParts) (cut : CutParts) (parcels : List ParcelParts) (fronts : List FrontParts) → AreStrips scene cut parcels → All (λ parcel. parcel.done ≡ level_done) parcels
    → AreNewFronts scene cut fronts → AreReady scene cut parcels fronts
ready scene cut parcels fronts strips level new = record { strips = strips; level = level; six = new.six; new = new.new }
