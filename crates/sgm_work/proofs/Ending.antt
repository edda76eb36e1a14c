-- Fronts that have all visits, one after the other.
use Rattle.std.proofs.Common.{◌≡◌, ◌≢◌, ℕ, zero, suc, ◌<◌, List, [], ◌∷◌, length, get_or, set, true, nat_lt, Some, None, refl, sym, ap, subst, ◌∙◌, inl, inr, arith}
use Rattle.std.specs.Prelude.{All, slice_get}
use Rattle.std.proofs.lemmas.Bool.{lt-ltb}
use Rattle.std.proofs.lemmas.List.{length-set}
use Rattle.std.proofs.lemmas.Option.{slice_get-get_or, slice_get_within, get_or_from_slice_get}
use Rattle.sgm_energy.specs.declared.dir.Dir.{Dir}
use Rattle.sgm_energy.specs.declared.dir.Dir.TheVariants.{Right, Left, Down, DownRight, DownLeft, Up, UpRight, UpLeft}
use Rattle.sgm_energy.specs.Dirs.{front_of, dir_of_front, number_of, position_of}
use Rattle.sgm_energy.proofs.DirLemmas.{position_inside, same_number}
use Rattle.sgm_strip.specs.Cuts.{CutParts}
use Rattle.sgm_strip.specs.Scenes.{SceneParts}
use Rattle.sgm_strip.specs.Parcels.{ParcelParts, is_done}
use Rattle.sgm_strip.specs.Fronts.{FrontParts}
use Rattle.sgm_strip.specs.Strips.{AreStrips}
use Rattle.sgm_board.specs.Settled.{AreSettled, IsFrontOf}
use Rattle.sgm_work.specs.Finished.{AreFinished, HasVisitedAll}
use Rattle.sgm_work.specs.Left.{IsDoneFirst, KeepsOthers}
use Rattle.sgm_work.proofs.Lists.{get_set}

-- ---- directions by the numbers of their fronts

pub dir_at : (k : ℕ) → k < 6 → (dir : Dir) × (front_of dir ≡ Some k)
dir_at zero h = (Down, refl)
dir_at (suc zero) h = (DownRight, refl)
dir_at (suc (suc zero)) h = (DownLeft, refl)
dir_at (suc (suc (suc zero))) h = (Up, refl)
dir_at (suc (suc (suc (suc zero)))) h = (UpRight, refl)
dir_at (suc (suc (suc (suc (suc zero))))) h = (UpLeft, refl)
dir_at (suc (suc (suc (suc (suc (suc k)))))) h = absurd (omega arith)

pub dir_back : (dir : Dir) (k : ℕ) → front_of dir ≡ Some k → dir_of_front k ≡ Some dir
dir_back Right k e = absurd (cc)
dir_back Left k e = absurd (cc)
dir_back Down k e = ap dir_of_front (let q : k ≡ 0 = cc in q)
dir_back DownRight k e = ap dir_of_front (let q : k ≡ 1 = cc in q)
dir_back DownLeft k e = ap dir_of_front (let q : k ≡ 2 = cc in q)
dir_back Up k e = ap dir_of_front (let q : k ≡ 3 = cc in q)
dir_back UpRight k e = ap dir_of_front (let q : k ≡ 4 = cc in q)
dir_back UpLeft k e = ap dir_of_front (let q : k ≡ 5 = cc in q)

-- two directions with one front are one
pub at_one : (a b : Dir) (i j : ℕ) → front_of a ≡ Some i → front_of b ≡ Some j → i ≡ j → a ≡ b
at_one a b i j ea eb same = let e : Some a ≡ Some b = sym (dir_back a i ea) ∙ ap dir_of_front same ∙ dir_back b j eb in cc

-- and a direction has one front
pub one_place : (a b : Dir) (i j : ℕ) → front_of a ≡ Some i → front_of b ≡ Some j → number_of a ≡ number_of b → i ≡ j
one_place a b i j ea eb same = let e : Some i ≡ Some j = sym ea ∙ ap front_of (same_number a b same) ∙ eb in cc

level_apart : (level d dir : Dir) (k : ℕ) → front_of level ≡ None → d ≡ dir → front_of dir ≡ Some k → number_of level ≢ number_of d
level_apart level d dir k none same e same' = let e' : None ≡ Some k = sym none ∙ ap front_of (same_number level d same' ∙ same) ∙ e in absurd (cc)

-- ---- one front that is settled

module _ (scene : SceneParts) (cut : CutParts) (parcels : List ParcelParts) (fronts : List FrontParts) (settled : AreSettled scene cut parcels fronts) where
  pub front_is : (k : ℕ) (front : FrontParts) (h : k < 6) → slice_get fronts k ≡ Some front → IsFrontOf scene cut (dir_at k h).0 front
  front_is k front h e = settled.each (dir_at k h).0 front (k, (dir_at k h).1, e)

  pub done_first : (k : ℕ) (front : FrontParts) → k < 6 → slice_get fronts k ≡ Some front → IsDoneFirst front.dir front.cut.strips (length front.visits) parcels
  done_first k front h e strip parcel e' =
      let is = front_is k front h e in
      ap (is_done parcel.done) is.same_dir
      ∙ settled.done (dir_at k h).0 strip front parcel (k, (dir_at k h).1, e) e'
      ∙ ap (λ d. nat_lt (position_of d strip cut.strips) (length front.visits)) (sym is.same_dir)
      ∙ ap (λ (c : CutParts). nat_lt (position_of front.dir strip c.strips) (length front.visits)) (sym is.same_cut)

  pub front_strips : (k : ℕ) (front : FrontParts) → k < 6 → slice_get fronts k ≡ Some front → AreStrips front.scene front.cut parcels
  front_strips k front h e = let is = front_is k front h e in
      subst (λ s. AreStrips s front.cut parcels) (sym is.same_scene) (subst (λ c. AreStrips scene c parcels) (sym is.same_cut) settled.strips)

  -- the front at one place went through the rest of the strips
  pub settled_more : (k : ℕ) (old new : FrontParts) (after : List ParcelParts) → k < 6 → slice_get fronts k ≡ Some old → AreStrips old.scene old.cut after
      → IsDoneFirst old.dir old.cut.strips old.cut.strips after → KeepsOthers old.dir parcels after → new.scene ≡ old.scene → new.cut ≡ old.cut → new.dir ≡ old.dir → HasVisitedAll old.cut new
      → AreSettled scene cut after (set fronts k new)
  settled_more k old new after h e strips done keeps same_scene same_cut same_dir visited =
      let is = front_is k old h e in
      let dir = (dir_at k h).0 in
      let strips' : AreStrips scene cut after = subst (λ s. AreStrips s cut after) is.same_scene (subst (λ c. AreStrips old.scene c after) is.same_cut strips) in
      record {
        strips = strips';
        level = λ j d hj. let was = settled.level j d (omega (arith, settled.strips.all, strips'.all)) in
            let b = slice_get-get_or parcels j d (omega (arith, settled.strips.all, strips'.all)) in
            let a = slice_get-get_or after j d hj in (
              keeps j (get_or parcels j d) (get_or after j d) Right (level_apart Right old.dir dir k refl is.same_dir (dir_at k h).1) b a ∙ was.0,
              keeps j (get_or parcels j d) (get_or after j d) Left (level_apart Left old.dir dir k refl is.same_dir (dir_at k h).1) b a ∙ was.1,
            );
        six = length-set fronts k new ∙ settled.six;
        each = λ d front at. elim (get_set fronts k new at.0 front at.2) [
          | inl same ↦ (let same' : d ≡ dir = at_one d dir at.0 k at.1 (dir_at k h).1 same.0 in
              record {
                same_scene = ap (λ (f : FrontParts). f.scene) same.1 ∙ same_scene ∙ is.same_scene;
                same_cut = ap (λ (f : FrontParts). f.cut) same.1 ∙ same_cut ∙ is.same_cut;
                same_dir = ap (λ (f : FrontParts). f.dir) same.1 ∙ same_dir ∙ is.same_dir ∙ sym same';
              })
          | inr other ↦ settled.each d front (at.0, at.1, other.1)
        ];
        done = λ d strip front parcel at e'. elim (get_set fronts k new at.0 front at.2) [
          | inl same ↦ (let same' : d ≡ old.dir = at_one d dir at.0 k at.1 (dir_at k h).1 same.0 ∙ sym is.same_dir in
              let visits : length front.visits ≡ old.cut.strips = ap (λ (f : FrontParts). length f.visits) same.1 ∙ visited.all in
              ap (is_done parcel.done) same' ∙ done strip parcel e'
              ∙ ap (λ x. nat_lt (position_of x strip old.cut.strips) old.cut.strips) (sym same')
              ∙ ap (λ (c : CutParts). nat_lt (position_of d strip c.strips) old.cut.strips) is.same_cut
              ∙ ap (nat_lt (position_of d strip cut.strips)) (sym visits))
          | inr other ↦ (let inside : strip < length parcels = omega (arith, settled.strips.all, strips'.all, slice_get_within after strip parcel e') in
              let b = slice_get-get_or parcels strip parcel inside in
              let apart : number_of d ≢ number_of old.dir = λ same. other.0 (one_place d dir at.0 k at.1 (dir_at k h).1 (same ∙ ap number_of is.same_dir)) in
              keeps strip (get_or parcels strip parcel) parcel d apart b e' ∙ settled.done d strip front (get_or parcels strip parcel) (at.0, at.1, other.1) b)
        ];
      }

-- ---- all fronts

finished_dir : (scene : SceneParts) (cut : CutParts) (parcels : List ParcelParts) (fronts : List FrontParts) (settled : AreSettled scene cut parcels fronts) → All (HasVisitedAll cut) fronts
    → (strip : ℕ) (parcel : ParcelParts) (dir : Dir) (k : ℕ) → slice_get parcels strip ≡ Some parcel → front_of dir ≡ Some k → k < 6 → is_done parcel.done dir ≡ true
finished_dir scene cut parcels fronts settled visited strip parcel dir k e at h =
    let inside : strip < cut.strips = omega (arith, settled.strips.all, slice_get_within parcels strip parcel e) in
    let first : k < length fronts = omega (arith, settled.six) in
    let zero_front = front_here k fronts first in
    settled.done dir strip zero_front.0 parcel (k, at, zero_front.1) e
    ∙ lt-ltb (position_of dir strip cut.strips) (length zero_front.0.visits) (let all = (subst (HasVisitedAll cut) (get_or_from_slice_get fronts k zero_front.0 zero_front.0 zero_front.1) (visited k zero_front.0 first)).all in omega (arith, all, position_inside dir strip cut.strips inside))
  where
    front_here : (k : ℕ) (xs : List FrontParts) → k < length xs → (x : FrontParts) × (slice_get xs k ≡ Some x)
    front_here k [] h = absurd (omega arith)
    front_here zero (x ∷ xs) h = (x, refl)
    front_here (suc k) (x ∷ xs) h = front_here k xs (omega arith)

pub finished : (scene : SceneParts) (cut : CutParts) (parcels : List ParcelParts) (fronts : List FrontParts) → AreSettled scene cut parcels fronts → All (HasVisitedAll cut) fronts → AreFinished scene cut parcels fronts
finished scene cut parcels fronts settled visited = record {
  strips = settled.strips;
  complete = λ strip d h dir. done dir strip (get_or parcels strip d) (slice_get-get_or parcels strip d h) (let was = settled.level strip d h in was);
  six = settled.six;
  each = settled.each;
  visited = visited;
}
  where
    done : (dir : Dir) (strip : ℕ) (parcel : ParcelParts) → slice_get parcels strip ≡ Some parcel → (is_done parcel.done Right ≡ true) × (is_done parcel.done Left ≡ true) → is_done parcel.done dir ≡ true
    done Right strip parcel e level = level.0
    done Left strip parcel e level = level.1
    done Down strip parcel e level = finished_dir scene cut parcels fronts settled visited strip parcel Down 0 e refl (omega arith)
    done DownRight strip parcel e level = finished_dir scene cut parcels fronts settled visited strip parcel DownRight 1 e refl (omega arith)
    done DownLeft strip parcel e level = finished_dir scene cut parcels fronts settled visited strip parcel DownLeft 2 e refl (omega arith)
    done Up strip parcel e level = finished_dir scene cut parcels fronts settled visited strip parcel Up 3 e refl (omega arith)
    done UpRight strip parcel e level = finished_dir scene cut parcels fronts settled visited strip parcel UpRight 4 e refl (omega arith)
    done UpLeft strip parcel e level = finished_dir scene cut parcels fronts settled visited strip parcel UpLeft 5 e refl (omega arith)
