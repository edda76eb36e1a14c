-- How a run ends, from the moment before to the moment after.
use Rattle.std.specs.Prelude.{◌≡◌, IsTrue}
use Rattle.sgm_io.specs.Held.{Held}
use Rattle.sgm_words.specs.Operands.{FileNames}
use Rattle.sgm_outcome.specs.declared.outcome.Outcome.{Outcome}
use Rattle.sgm_outcome.specs.declared.outcome.Outcome.TheVariants.{Done}
use Rattle.sgm_stages.specs.Deliver.{FilesPut}
use Rattle.sgm_stages.specs.Ends.{CountsShow, OutStands, OutUntouched, ShownBy, WritingEnds}
use Rattle.sgm_stages.specs.Moments.{Moment}
use Rattle.sgm_stages.specs.Unfinished.{AreFinished, UnfinishedStands}
use Rattle.sgm_stages.specs.Verdict.{Verdict, outputs_of}

-- what follows where this verdict is called for
pub record VerdictEnds (verdict : Verdict) (outcome : Outcome) (before now : Moment) : Type 0 where
  -- the verdict shows why the run ended so
  pub cause : ShownBy verdict outcome
  -- its files are held, so far as the run came, and each is finished after Done
  pub files : FilesPut outcome verdict before.held now.held
  pub finished : outcome ≡ Done → AreFinished (outputs_of verdict) now.unfinished
  -- `out` has received its summary, so far as the run came
  pub out : IsTrue before.out_tells → OutStands outcome verdict before.written now.written

-- the end of a run over files with these names; what is held before calls for a verdict so
pub record RunEnds (names : FileNames) (CallsFor : Held → Verdict → Type 0) (outcome : Outcome)
    (before now : Moment) : Type 0 where
  -- what a verdict that is called for says, where the shelf tells what it holds
  pub called : IsTrue before.tells → (verdict : Verdict) → CallsFor before.held verdict
      → VerdictEnds verdict outcome before now
  -- which name is being written, and which are begun and not finished
  pub writing : WritingEnds names outcome before.writing now.writing
  pub unfinished : UnfinishedStands names outcome before.unfinished now.unfinished
  -- `out` has received nothing but the summary
  pub untouched : IsTrue before.out_tells → OutUntouched outcome before.written now.written
  -- the counts of faults show the rest of the cause
  pub counts : CountsShow names outcome before.faults now.faults
