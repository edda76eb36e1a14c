-- The steps that change a word, each as what it leaves.
use Rattle.std.specs.Prelude.{◌≡◌, ℕ, ◌+◌, ◌*◌, ◌<◌, Bool, false, List, slice_index, slice_set}
use Rattle.std.specs.Prelude.{Some, None}
use mathlib.Core.Option as maybe
use mathlib.Core.Option.{some}
use lib.ListN.{get_elem?}
use Rattle.atomic_table.specs.Table.{State}
use Rattle.sgm_energy.specs.declared.dir.Dir.{Dir}
use Rattle.sgm_energy.specs.Dirs.{is_level, position_of}
use Rattle.sgm_strip.specs.Parcels.{ParcelParts}
use Rattle.sgm_strip.specs.Fronts.{FrontParts}
use Rattle.sgm_handover.specs.Handover.{Handover}
use Rattle.sgm_handover.specs.declared.event.Event.{Event}
use Rattle.sgm_handover.specs.declared.event.Event.TheVariants.{Claim, Take, Put, Return}
use Rattle.sgm_board.specs.Words.{dir_word, strip_word}
use Rattle.sgm_board.specs.Views.{IsLive, after_look, after_claim, after_return, after_try}
use Rattle.sgm_board.specs.Views.{after_take, after_put}
use Rattle.sgm_board.specs.Shows.{IsParcelAt, IsFrontAt, has_passed}
use Rattle.sgm_board.specs.declared.view.About.{About}
use Rattle.sgm_board.specs.declared.view.View.{View}
use Rattle.sgm_board.specs.declared.slot.Slot.{Slot}
use Rattle.sgm_board.specs.declared.slot.Slot.TheVariants.{OfStrip, OfFront}

-- what a word was
abbrev pub found : State Slot View → ℕ → ℕ
found s word = slice_index s.words word

-- the pass at this place knows v
abbrev pub IsAt : State Slot View → ℕ → View → Type 0
IsAt s at v = get_elem? s.views at ≡ some v

-- the pass at this place knows v now, and nothing else changed
abbrev pub with_view : State Slot View → ℕ → View → State Slot View
with_view s at v = record s { views = slice_set s.views at v }

-- the word is now x, the slot of its number has this or is empty, and the pass at this place knows
-- w
abbrev pub after_step : State Slot View → ℕ → ℕ → ℕ → maybe.Option Slot → View → State Slot View
after_step s at word x value w =
    record {
      words = slice_set s.words word x;
      homes = slice_set s.homes word value;
      views = slice_set s.views at w;
    }

-- one step of the pass v, which stands at this place, where the board shows m
pub data Makes (about : About) (m : Handover) (s : State Slot View) (at : ℕ) (v : View) : Event
    → State Slot View → Type 0 where
  -- the pass, which is live, holds no strip. A strip's word goes from 0 to 1, and its parcel comes
  -- out
  claims : (strip : ℕ) (done : List Bool) → IsLive v → v.strip ≡ None → strip < m.strips
      → found s (strip_word strip) ≡ 0
      → Makes about m s at v (Claim v.number strip)
      (after_step s at (strip_word strip) 1 maybe.none
      (after_claim (after_look v (strip_word strip) (found s (strip_word strip))) strip done))
  -- the pass holds a strip and has no front. The strip's word becomes 0, and its parcel goes in,
  -- with the directions done whose front has passed the strip
  returns : (strip : ℕ) (parcel : ParcelParts) → v.strip ≡ Some strip → v.front ≡ None
      → IsParcelAt about strip (has_passed m strip) parcel
      → Makes about m s at v (Return v.number)
      (after_step s at (strip_word strip) 0 (some (OfStrip parcel))
      (after_return (after_look v (strip_word strip) (found s (strip_word strip)))))
  -- the pass holds a strip and has no front. A direction's word goes from twice the strip's
  -- position to 1 more, and its front comes out
  takes : (dir : Dir) (strip : ℕ) → is_level dir ≡ false → v.strip ≡ Some strip → v.front ≡ None
      → found s (dir_word dir) ≡ 2 * position_of dir strip m.strips
      → Makes about m s at v (Take v.number dir)
      (after_step s at (dir_word dir) (2 * position_of dir strip m.strips + 1) maybe.none
      (after_take (after_try (after_look v (dir_word dir) (found s (dir_word dir))) strip dir) dir))
  -- the pass has a front. The direction's word goes on by 1, and the front goes in, with one visit
  -- more
  puts : (dir : Dir) (front : FrontParts) → v.front ≡ Some dir
      → IsFrontAt about dir (m.passed dir + 1) front
      → Makes about m s at v (Put v.number dir)
      (after_step s at (dir_word dir) (found s (dir_word dir) + 1) (some (OfFront front))
      (after_put (after_look v (dir_word dir) (found s (dir_word dir))) dir))
