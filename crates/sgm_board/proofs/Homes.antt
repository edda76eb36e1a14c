-- Slots that keep their value over a step.
use Rattle.std.proofs.Common.{◌≡◌, ℕ, Bool, false, List, sym, ◌∙◌, subst}
use mathlib.Core.Option as maybe
use lib.ListN.{get_elem?}
use Rattle.sgm_energy.specs.declared.dir.Dir.{Dir}
use Rattle.sgm_energy.specs.Dirs.{is_level}
use Rattle.sgm_strip.specs.Parcels.{ParcelParts}
use Rattle.sgm_strip.specs.Fronts.{FrontParts}
use Rattle.sgm_board.specs.Words.{dir_word, strip_word}
use Rattle.sgm_board.specs.declared.view.About.{About}
use Rattle.sgm_board.specs.declared.slot.Slot.{Slot}
use Rattle.sgm_board.specs.declared.slot.Slot.TheVariants.{OfStrip, OfFront}
use Rattle.sgm_board.specs.Shows.{IsHome, IsParcelAt, IsFrontAt}

module _ (about : About) where
  -- the parcel of a strip is in its slot
  abbrev pub ParcelIn : List (maybe.Option Slot) → ℕ → (Dir → Bool) → Type 0
  ParcelIn homes strip due = (parcel : ParcelParts) × IsHome homes (strip_word strip) (OfStrip parcel) × IsParcelAt about strip due parcel

  -- the front of a direction is in its slot
  abbrev pub FrontIn : List (maybe.Option Slot) → Dir → ℕ → Type 0
  FrontIn homes dir visits = (front : FrontParts) × IsHome homes (dir_word dir) (OfFront front) × IsFrontAt about dir visits front

  pub parcel_stays : (homes homes' : List (maybe.Option Slot)) (strip : ℕ) (due due' : Dir → Bool) → get_elem? homes' (strip_word strip) ≡ get_elem? homes (strip_word strip) → ((dir : Dir) → is_level dir ≡ false → due' dir ≡ due dir)
      → ParcelIn homes strip due → ParcelIn homes' strip due'
  parcel_stays homes homes' strip due due' same still t = (
    t.0,
    same ∙ t.1,
    record {
      kept = t.2.kept;
      same_scene = t.2.same_scene;
      same_cut = t.2.same_cut;
      same_strip = t.2.same_strip;
      done = λ dir l. t.2.done dir l ∙ sym (still dir l);
    },
  )

  pub front_stays : (homes homes' : List (maybe.Option Slot)) (dir : Dir) (visits visits' : ℕ) → get_elem? homes' (dir_word dir) ≡ get_elem? homes (dir_word dir) → visits' ≡ visits → FrontIn homes dir visits → FrontIn homes' dir visits'
  front_stays homes homes' dir visits visits' same still t = (t.0, same ∙ t.1, subst (λ (n : ℕ). IsFrontAt about dir n t.0) (sym still) t.2)
