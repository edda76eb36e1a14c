-- What each kind of step tells the pass that makes it: of the step, what the pass knew and has out,
-- the number found, and what it knows and has out then.
use Rattle.std.specs.Prelude.{◌≡◌, ◌≢◌, ℕ, ◌*◌, ◌≤◌, Bool, false, ◌∷◌, Some}
use Rattle.atomic_table.specs.Table.{Me, Step, rest}
use Rattle.sgm_energy.specs.declared.dir.Dir.{Dir}
use Rattle.sgm_energy.specs.Dirs.{is_level}
use Rattle.sgm_strip.specs.Parcels.{ParcelParts}
use Rattle.sgm_strip.specs.Fronts.{FrontParts}
use Rattle.sgm_board.specs.Words.{dir_word, strip_word}
use Rattle.sgm_board.specs.Views.{after_look, after_read, after_claim, after_return, after_try}
use Rattle.sgm_board.specs.Views.{after_take, after_put, is_known_done}
use Rattle.sgm_board.specs.Shows.{IsParcelAt, IsFrontAt}
use Rattle.sgm_board.specs.declared.view.About.{About}
use Rattle.sgm_board.specs.declared.view.View.{View}
use Rattle.sgm_board.specs.declared.slot.Slot.{Slot}
use Rattle.sgm_board.specs.declared.slot.Slot.TheVariants.{OfStrip, OfFront}

-- what a pass knows, and the slots that it has out with their values, the one taken last first
abbrev pub Known : Type 0
Known = Me Slot View

abbrev pub Told : Type 1
Told = Step Slot → Known → ℕ → Known → Type 0

-- the word of a direction is at most twice the number of strips
abbrev pub IsWithin : View → ℕ → Type 0
IsWithin v found = (about : About) → v.about ≡ Some about → found ≤ 2 * about.cut.strips

-- a look at the word of a direction
abbrev pub look_told : Told
look_told step old found new = (new ≡ (after_look old.0 step.word found, old.1))
    × IsWithin old.0 found

-- the same after a claim
abbrev pub read_told : Told
read_told step old found new =
    (new ≡ (after_read (after_look old.0 step.word found) step.word, old.1)) × IsWithin old.0 found

-- the word of a strip was 0 and is 1, and its parcel comes out; or it was 1
abbrev pub claim_told : Told
claim_told step old found new = (strip : ℕ) → step.word ≡ strip_word strip
    → (found ≡ 0 → (parcel : ParcelParts) × (due : Dir → Bool) × (about : About)
    × (old.0.about ≡ Some about) × IsParcelAt about strip due parcel
    × (new ≡ (
      after_claim (after_look old.0 step.word found) strip parcel.done,
      (step.word, OfStrip parcel) ∷ old.1,
    )))
    × (found ≢ 0 → (found ≡ 1) × (new ≡ (after_look old.0 step.word found, old.1)))

-- the word of the strip held was 1 and is 0
abbrev pub return_told : Told
return_told step old found new = (found ≡ 1)
    × (new ≡ (after_return (after_look old.0 step.word found), rest old.1))

-- the word of a direction was twice the position of the strip held and is 1 more, and its front
-- comes out; or it was another number
abbrev pub take_told : Told
take_told step old found new = (strip : ℕ) (dir : Dir) → old.0.strip ≡ Some strip
    → is_level dir ≡ false → step.word ≡ dir_word dir
    → (found ≡ step.first → (front : FrontParts) × (visits : ℕ) × (about : About)
    × (old.0.about ≡ Some about) × IsFrontAt about dir visits front
    × (2 * visits ≡ found) × (is_known_done old.0 dir ≡ false)
    × (new ≡ (
      after_take (after_try (after_look old.0 step.word found) strip dir) dir,
      (step.word, OfFront front) ∷ old.1,
    )))
    × (found ≢ step.first → new ≡ (after_try (after_look old.0 step.word found) strip dir, old.1))

-- the word of the direction whose front the pass has goes on by 1
abbrev pub put_told : Told
put_told step old found new = (dir : Dir) → old.0.front ≡ Some dir
    → (found ≡ step.first) × (new ≡ (after_put (after_look old.0 step.word found) dir, rest old.1))
