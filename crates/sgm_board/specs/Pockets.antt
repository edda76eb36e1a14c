-- What the seat of a pass has between two calls. No public clause speaks of this.
use Rattle.std.specs.Prelude.{◌≡◌, ℕ, ◌+◌, ◌*◌, ◌<◌, ◌≤◌, true, false, List, [], ◌∷◌, slice_index}
use Rattle.std.specs.Prelude.{Option, Some, None}
use Rattle.sgm_energy.specs.declared.dir.Dir.{Dir}
use Rattle.sgm_energy.specs.Dirs.{is_level}
use Rattle.sgm_board.specs.Tallies.{has}
use Rattle.sgm_board.specs.Words.{dir_word, strip_word}
use Rattle.sgm_board.specs.Views.{has_read}
use Rattle.sgm_board.specs.declared.view.View.{View}
use Rattle.sgm_board.specs.declared.slot.Slot.{Slot}
use Rattle.sgm_board.specs.declared.slot.Slot.TheVariants.{Empty}

-- the slots that a pass has out: that of the strip held and then that of the front. They are empty,
-- since the pass has the parcel and the front themselves
abbrev pub pocket : Option ℕ → Option Dir → List (ℕ × Slot)
pocket None front = []
pocket (Some strip) None = (strip_word strip, Empty) ∷ []
pocket (Some strip) (Some dir) = (dir_word dir, Empty) ∷ (strip_word strip, Empty) ∷ []

-- a pass that holds a strip has read the word of each direction since it claimed it
abbrev pub ReadsAll : View → Type 0
ReadsAll v = (strip : ℕ) (dir : Dir) → v.strip ≡ Some strip → is_level dir ≡ false
    → has_read v dir ≡ true

-- w is what v becomes where the words below k, of k directions, are read one after the other
pub record HasRead (strips k : ℕ) (v w : View) : Type 0 where
  pub number : w.number ≡ v.number
  pub about : w.about ≡ v.about
  pub gathered : w.gathered ≡ v.gathered
  pub strip : w.strip ≡ v.strip
  pub front : w.front ≡ v.front
  pub done_at_claim : w.done_at_claim ≡ v.done_at_claim
  pub put_since : w.put_since ≡ v.put_since
  pub claims : w.claims ≡ v.claims
  pub tries : w.tries ≡ v.tries
  pub puts : w.puts ≡ v.puts
  pub reads : (word : ℕ) → word < k → has w.read_since word ≡ true
  pub most : (word : ℕ) → word < k → slice_index w.seen word ≤ 2 * strips
  pub once : (word : ℕ) → word < k → slice_index w.looks word ≡ slice_index v.looks word + 1
  pub seen : (word : ℕ) → k ≤ word → slice_index w.seen word ≡ slice_index v.seen word
  pub looks : (word : ℕ) → k ≤ word → slice_index w.looks word ≡ slice_index v.looks word
