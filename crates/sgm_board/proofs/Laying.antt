-- The slots of a new board.
use Rattle.std.proofs.Common.{◌≡◌, ℕ, zero, suc, ◌+◌, ◌<◌, false, List, [], ◌∷◌, ◌++◌, map, length, refl, sym, ap, append_assoc, ◌∙◌, arith, length-append, get_or, All}
use mathlib.Core.Option.{some}
use lib.ListN.{get_elem?, length-map}
use Rattle.std.proofs.lemmas.List.{map-append}
use Rattle.std.proofs.lemmas.Option.{slice_get_read}
use Rattle.atomic_table.proofs.Lists.{at_map, at_longer}
use Rattle.sgm_energy.specs.declared.dir.Dir.{Dir}
use Rattle.sgm_energy.specs.Dirs.{is_level}
use Rattle.sgm_handover.proofs.Dirs.{front_is}
use Rattle.sgm_strip.specs.Parcels.{ParcelParts, IsParcel, level_done}
use Rattle.sgm_strip.specs.Fronts.{FrontParts, IsFront}
use Rattle.sgm_strip.specs.Cuts.{CutParts}
use Rattle.sgm_strip.specs.Scenes.{SceneParts}
use Rattle.sgm_board.specs.declared.view.About.{About}
use Rattle.sgm_board.specs.declared.slot.Slot.{Slot}
use Rattle.sgm_board.specs.declared.slot.Slot.TheVariants.{OfStrip, OfFront}
use Rattle.sgm_board.specs.Words.{dir_word, strip_word, word_count}
use Rattle.sgm_board.specs.Ready.{AreReady}
use Rattle.sgm_board.proofs.Dirs.{dir_word_lt}
use Rattle.sgm_board.proofs.Getting.{all_at, get_from_slice, some_at}

-- a new parcel of this strip, and a new front of this direction
pub record IsNewParcelAt (about : About) (strip : ℕ) (parcel : ParcelParts) : Type 0 where
  pub kept : IsParcel parcel
  pub same_scene : parcel.scene ≡ about.scene
  pub same_cut : parcel.cut ≡ about.cut
  pub same_strip : parcel.strip ≡ strip
  pub level : parcel.done ≡ level_done

pub record IsNewFrontAt (about : About) (dir : Dir) (front : FrontParts) : Type 0 where
  pub kept : IsFront front
  pub same_scene : front.scene ≡ about.scene
  pub same_cut : front.cut ≡ about.cut
  pub same_dir : front.dir ≡ dir
  pub unvisited : front.visits ≡ []

-- the slots have the six fronts and then the parcels
pub record AreLaid (about : About) (slots : List Slot) : Type 0 where
  pub count : length slots ≡ word_count about.cut.strips
  pub fronts : (dir : Dir) → is_level dir ≡ false → (front : FrontParts) × (get_elem? slots (dir_word dir) ≡ some (OfFront front)) × IsNewFrontAt about dir front
  pub parcels : (strip : ℕ) → strip < about.cut.strips → (parcel : ParcelParts) × (get_elem? slots (strip_word strip) ≡ some (OfStrip parcel)) × IsNewParcelAt about strip parcel

-- one front more, and after the fronts one parcel more
pub front_more : (fronts : List FrontParts) (front : FrontParts) (old new : List Slot) → new ≡ old ++ OfFront front ∷ [] → old ≡ map OfFront fronts → new ≡ map OfFront (fronts ++ front ∷ [])
front_more fronts front old new items is = items ∙ (ap (λ (xs : List Slot). xs ++ OfFront front ∷ []) is ∙ sym (map-append OfFront fronts (front ∷ [])))

pub parcel_more : (before : List Slot) (parcels : List ParcelParts) (parcel : ParcelParts) (old new : List Slot) → new ≡ old ++ OfStrip parcel ∷ [] → old ≡ before ++ map OfStrip parcels
    → new ≡ before ++ map OfStrip (parcels ++ parcel ∷ [])
parcel_more before parcels parcel old new items is =
    items
    ∙ (ap (λ (xs : List Slot). xs ++ OfStrip parcel ∷ []) is
    ∙ (append_assoc before (map OfStrip parcels) (OfStrip parcel ∷ []) ∙ ap (λ (xs : List Slot). before ++ xs) (sym (map-append OfStrip parcels (parcel ∷ [])))))

at_after : {A : Type 0} (xs ys : List A) (k : ℕ) (a : A) → get_elem? ys k ≡ some a → (i : ℕ) → i ≡ length xs + k → get_elem? (xs ++ ys) i ≡ some a
at_after {A} [] ys k a h i e = let q : i ≡ k = omega arith in ap (λ (j : ℕ). get_elem? ys j) q ∙ h
at_after (x ∷ xs) ys k a h zero e = absurd (omega arith)
at_after (x ∷ xs) ys k a h (suc i) e = at_after xs ys k a h i (omega arith)

pub laid : (about : About) (ps : List ParcelParts) (fs : List FrontParts) → AreReady about.scene about.cut ps fs → All IsParcel ps → All IsFront fs → AreLaid about (map OfFront fs ++ map OfStrip ps)
laid about ps fs ready kept_ps kept_fs =
    let six = ready.six in
    let all = ready.strips.all in
    let long : length (map OfFront fs) ≡ 6 = length-map fs OfFront ∙ six in
    record {
      count = omega (arith, length-append (map OfFront fs) (map OfStrip ps), long, length-map ps OfStrip ∙ all);
      fronts = λ dir level.
          let place = dir_word dir in
          let lt = dir_word_lt dir in
          let x = some_at fs place (omega arith) in
          let new = ready.new dir place x.0 (front_is dir level) x.1 in (
            x.0,
            at_longer (map OfFront fs) (map OfStrip ps) place (OfFront x.0) (at_map OfFront fs place x.0 (get_from_slice fs place x.0 x.1)),
            record { kept = all_at IsFront fs place x.0 kept_fs x.1; same_scene = new.same_scene; same_cut = new.same_cut; same_dir = new.same_dir; unvisited = new.unvisited },
          );
      parcels = λ strip l.
          let x = some_at ps strip (omega arith) in
          let is = ready.strips.each strip x.0 x.1 in (
            x.0,
            at_after (map OfFront fs) (map OfStrip ps) strip (OfStrip x.0) (at_map OfStrip ps strip x.0 (get_from_slice ps strip x.0 x.1)) (strip_word strip) (omega arith),
            record { kept = all_at IsParcel ps strip x.0 kept_ps x.1; same_scene = is.same_scene; same_cut = is.same_cut; same_strip = is.same_strip; level = all_at (λ parcel. parcel.done ≡ level_done) ps strip x.0 ready.level x.1 },
          );
    }

-- the parcel at the beginning is of the scene and the cut
pub first_of : (scene : SceneParts) (cut : CutParts) (ps : List ParcelParts) (fs : List FrontParts) → AreReady scene cut ps fs → (first : ParcelParts) → first ≡ get_or ps 0 first → (first.scene ≡ scene) × (first.cut ≡ cut)
first_of scene cut ps fs ready first e =
    let all = ready.strips.all in
    let some = ready.strips.cut_kept.some in
    let is = ready.strips.each 0 first (slice_get_read ps (length ps) 0 first refl (omega arith) e) in
    (is.same_scene, is.same_cut)
