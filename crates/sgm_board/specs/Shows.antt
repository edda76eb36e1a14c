-- What a board shows by its words, the values in its slots, and what its passes know: a state of
-- the hand-over machine.
use Rattle.std.specs.Prelude.{◌≡◌, ℕ, ◌+◌, ◌*◌, ◌<◌, ◌≤◌, Bool, true, false, ◌&&◌, nat_lt, List}
use Rattle.std.specs.Prelude.{length, slice_index, Option, Some, None}
use mathlib.Core.Option as maybe
use mathlib.Core.Option.{some}
use lib.ListN.{get_elem?}
use Rattle.atomic_table.specs.Table.{State}
use Rattle.sgm_energy.specs.declared.dir.Dir.{Dir}
use Rattle.sgm_energy.specs.Dirs.{is_level, position_of}
use Rattle.sgm_strip.specs.Parcels.{ParcelParts, IsParcel, is_done}
use Rattle.sgm_strip.specs.Fronts.{FrontParts, IsFront}
use Rattle.sgm_handover.specs.Handover.{Handover, next, Holds}
use Rattle.sgm_board.specs.Tallies.{has}
use Rattle.sgm_board.specs.Words.{dir_word, strip_word, word_count}
use Rattle.sgm_board.specs.Views.{IsLive, has_read, is_known_done}
use Rattle.sgm_board.specs.declared.view.About.{About}
use Rattle.sgm_board.specs.declared.view.View.{View}
use Rattle.sgm_board.specs.declared.slot.Slot.{Slot}
use Rattle.sgm_board.specs.declared.slot.Slot.TheVariants.{OfStrip, OfFront}

-- some pass is so
abbrev pub Somewhere : List View → (View → Type 0) → Type 0
Somewhere views P = (at : ℕ) × (v : View) × (get_elem? views at ≡ some v) × P v

-- The numbers gathered are those below `made`, each is gathered by exactly one pass, and that pass
-- is live. So live passes, which have their own, have different numbers
pub record Numbers (made : ℕ) (views : List View) : Type 0 where
  pub below : (at number : ℕ) (v : View) → get_elem? views at ≡ some v
      → has v.gathered number ≡ true → number < made
  pub once : (a b number : ℕ) (v u : View) → get_elem? views a ≡ some v → get_elem? views b ≡ some u
      → has v.gathered number ≡ true → has u.gathered number ≡ true → a ≡ b
  pub all : (number : ℕ) → number < made → Somewhere views (λ v. has v.gathered number ≡ true)
  pub live : (at number : ℕ) (v : View) → get_elem? views at ≡ some v → has v.gathered number ≡ true
      → IsLive v

-- 1 where there is a worker
abbrev pub one_if_any : Option ℕ → ℕ
one_if_any None = 0
one_if_any (Some _) = 1

-- the word of a strip is 1 where one live pass shows the strip, whose number is then the holder,
-- and otherwise 0
pub record StripsShown (m : Handover) (words : List ℕ) (views : List View) : Type 0 where
  pub word : (strip : ℕ) → strip < m.strips
      → slice_index words (strip_word strip) ≡ one_if_any (m.holder strip)
  pub held : (strip worker : ℕ) → strip < m.strips → m.holder strip ≡ Some worker
      → Somewhere views (λ v. (v.strip ≡ Some strip) × (v.number ≡ worker))
  pub holds : (at strip : ℕ) (v : View) → get_elem? views at ≡ some v → v.strip ≡ Some strip
      → Holds m v.number strip × IsLive v

-- The word of a direction is twice the strips that its front has passed, and 1 more where one live
-- pass shows it, whose number is then `away`. That pass shows also the strip that the front goes
-- through next
pub record FrontsShown (m : Handover) (words : List ℕ) (views : List View) : Type 0 where
  pub word : (dir : Dir) → is_level dir ≡ false
      → slice_index words (dir_word dir) ≡ 2 * m.passed dir + one_if_any (m.away dir)
  pub out : (dir : Dir) (worker : ℕ) → is_level dir ≡ false → m.away dir ≡ Some worker
      → Somewhere views (λ v. (v.front ≡ Some dir) × (v.number ≡ worker))
  pub has_it : (at : ℕ) (dir : Dir) (v : View) → get_elem? views at ≡ some v → v.front ≡ Some dir
      → (is_level dir ≡ false) × (m.away dir ≡ Some v.number) × IsLive v
      × (v.strip ≡ Some (next m dir)) × (m.passed dir < m.strips)

-- no pass saw more than the word of a direction has
abbrev pub SeenBelow : List ℕ → List View → Type 0
SeenBelow words views = (at : ℕ) (dir : Dir) (v : View) → get_elem? views at ≡ some v
    → is_level dir ≡ false
    → slice_index v.seen (dir_word dir) ≤ slice_index words (dir_word dir)

-- whether the front of a direction has passed a strip
abbrev pub has_passed : Handover → ℕ → Dir → Bool
has_passed m strip dir = nat_lt (position_of dir strip m.strips) (m.passed dir)

-- of the directions that the mask names, a pass knows as done in the strip held just those whose
-- front has passed it
abbrev pub KnowsDue : (View → Dir → Bool) → Handover → List View → Type 0
KnowsDue mask m views = (at strip : ℕ) (dir : Dir) (v : View) → get_elem? views at ≡ some v
    → v.strip ≡ Some strip → is_level dir ≡ false
    → (mask v dir && is_known_done v dir) ≡ (mask v dir && has_passed m strip dir)

-- the parcel of a strip, of this scene and cut, in which besides the two level directions just
-- these are done
pub record IsParcelAt (about : About) (strip : ℕ) (due : Dir
    → Bool) (parcel : ParcelParts) : Type 0 where
  pub kept : IsParcel parcel
  pub same_scene : parcel.scene ≡ about.scene
  pub same_cut : parcel.cut ≡ about.cut
  pub same_strip : parcel.strip ≡ strip
  pub done : (dir : Dir) → is_level dir ≡ false → is_done parcel.done dir ≡ due dir

-- the front of a direction, of this scene and cut, with so many visits
pub record IsFrontAt (about : About) (dir : Dir) (visits : ℕ) (front : FrontParts) : Type 0 where
  pub kept : IsFront front
  pub same_scene : front.scene ≡ about.scene
  pub same_cut : front.cut ≡ about.cut
  pub same_dir : front.dir ≡ dir
  pub visited : length front.visits ≡ visits

-- the slot has this value, and no pass has taken it out
abbrev pub IsHome : List (maybe.Option Slot) → ℕ → Slot → Type 0
IsHome homes place value = get_elem? homes place ≡ some (some value)

-- a strip that nobody holds has its parcel in its slot, in which those directions are done whose
-- front has passed the strip
abbrev pub ParcelsHome : About → Handover → List (maybe.Option Slot) → Type 0
ParcelsHome about m homes = (strip : ℕ) → strip < m.strips → m.holder strip ≡ None
    → (parcel : ParcelParts) × IsHome homes (strip_word strip) (OfStrip parcel)
    × IsParcelAt about strip (has_passed m strip) parcel

-- a front that nobody has is in its slot, with a visit of each strip that it has passed
abbrev pub FrontsHome : About → Handover → List (maybe.Option Slot) → Type 0
FrontsHome about m homes = (dir : Dir) → is_level dir ≡ false → m.away dir ≡ None
    → (front : FrontParts) × IsHome homes (dir_word dir) (OfFront front)
    × IsFrontAt about dir (m.passed dir) front

-- a board about this scene and cut, for which so many passes were made, shows the state m
pub record Shows (about : About) (made : ℕ) (s : State Slot View) (m : Handover) : Type 0 where
  pub strips : m.strips ≡ about.cut.strips
  pub words : length s.words ≡ word_count m.strips
  pub slots : length s.homes ≡ word_count m.strips
  pub numbers : Numbers made s.views
  pub abouts : (at : ℕ) (v : View) → get_elem? s.views at ≡ some v → IsLive v → v.about ≡ Some about
  pub strip_words : StripsShown m s.words s.views
  pub front_words : FrontsShown m s.words s.views
  pub seen : SeenBelow s.words s.views
  -- a pass shows just those directions of which it has read the words
  pub due : KnowsDue has_read m s.views
  pub parcels : ParcelsHome about m s.homes
  pub fronts : FrontsHome about m s.homes

-- The rule that the table of a board keeps between any two steps: the board shows a state, and,
-- beyond what it shows, a pass knows of every direction whether it is done in the strip held, as it
-- has the parcel's set from the claim
abbrev pub Rule : About → ℕ → State Slot View → Type 0
Rule about made s = (m : Handover) × Shows about made s m × KnowsDue (λ _ _. true) m s.views
