-- How a run ends, over its words.
use Rattle.std.specs.Prelude.{◌≡◌, ℕ, List, Result, Ok, Err}
use Rattle.sgm_io.specs.Held.{Held}
use Rattle.sgm_words.specs.declared.options.Options.{Options}
use Rattle.sgm_words.specs.declared.usage.UsageFault.{UsageFault}
use Rattle.sgm_outcome.specs.declared.outcome.Outcome.{Outcome}
use Rattle.sgm_outcome.specs.declared.outcome.Outcome.TheVariants.{Usage}
use Rattle.sgm_app.specs.Calls.{ReadCallsFor}
use Rattle.sgm_stages.specs.Ends.{run_names}
use Rattle.sgm_stages.specs.Moments.{Moment, told_at}
use Rattle.sgm_stages.specs.Verdict.{Verdict}
use Rattle.sgm_stages.specs.RunEnds.{RunEnds}

-- what words with these options call for
abbrev pub OptionsCallFor : Options → List (List ℕ) → Held → Verdict → Type 0
OptionsCallFor options words held verdict = ReadCallsFor (Ok options) words held verdict

-- the same over the words, as they are read: after a fault of theirs all is as before
abbrev pub WordsEnd : Result Options UsageFault → List (List ℕ) → Outcome → Moment → Moment → Type 0
WordsEnd (Err fault) words outcome before now = (outcome ≡ Usage fault) × (now ≡ before)
WordsEnd (Ok options) words outcome before now =
    RunEnds (run_names options words (told_at before))
    (OptionsCallFor options words) outcome before now
