-- Which verdict the words call for over what is held.
use Rattle.std.specs.Prelude.{◌≡◌, ℕ, List, Result, Ok, Err}
use Rattle.sgm_base.specs.Picture.{Picture}
use Rattle.sgm_io.specs.Held.{Held}
use Rattle.sgm_pgm.specs.declared.fault.PgmFault.{PgmFault}
use Rattle.sgm_energy.specs.declared.dir.Dir.{Dir}
use Rattle.sgm_base.specs.Refining.{Refining}
use Rattle.sgm_calib.specs.Calibration.{Calibration}
use Rattle.sgm_calib.specs.declared.keys.CalibFault.{CalibFault}
use Rattle.sgm_words.specs.Operands.{Operands, operands, change_operands}
use Rattle.sgm_words.specs.Operands.{merge_operands}
use Rattle.sgm_words.specs.Words.{read_of}
use Rattle.sgm_words.specs.declared.options.Options.{Options}
use Rattle.sgm_words.specs.declared.options.Options.TheVariants as options
use Rattle.sgm_words.specs.declared.usage.UsageFault.{UsageFault}
use Rattle.sgm_stages.specs.Readings.{Readings, AreReadings}
use Rattle.sgm_stages.specs.Verdict.{Verdict, usage, pair_fetched}
use Rattle.sgm_stages.specs.Verdict.{calib_of}
use Rattle.sgm_app.specs.Verdict.{matched, traced}
use Rattle.sgm_app.specs.Verdict.{demoed}
use Rattle.sgm_stages.specs.Calls.{ChangeCallsFor, MergeCallsFor}

-- A match or a trace of these operands calls for the verdict: it is that of some readings of the
-- inputs, from which `judged` says what they call for.
pub record PairCallsFor (asked : Operands) (judged : Result Picture PgmFault
    → Result Picture PgmFault → Result Calibration CalibFault
    → Verdict) (held : Held) (v : Verdict) : Type 0 where
  pub readings : Readings
  pub are_readings : AreReadings asked held readings
  pub is : pair_fetched asked held (judged readings.left readings.right (calib_of asked readings))
      ≡ v

-- a match of these operands, whose map is refined so, calls for the verdict
abbrev pub MatchCallsFor : Operands → Refining → Held → Verdict → Type 0
MatchCallsFor asked refine held v = PairCallsFor asked (matched asked.out refine) held v

-- a trace of these operands, along the ray that comes to the pixel in the direction, calls for the
-- verdict
abbrev pub TraceCallsFor : Operands → Dir → ℕ → ℕ → ℕ → Held → Verdict → Type 0
TraceCallsFor asked dir x y d held v = PairCallsFor asked (traced dir x y d) held v

-- the words, as they are read, call for the verdict
abbrev pub ReadCallsFor : Result Options UsageFault → List (List ℕ) → Held → Verdict → Type 0
ReadCallsFor (Err fault) words held v = usage fault ≡ v
ReadCallsFor (Ok (options.Match strips workers refine)) words held v =
    MatchCallsFor (operands words) refine held v
ReadCallsFor (Ok (options.Demo number strips workers refine)) words held v = demoed number refine
    ≡ v
ReadCallsFor (Ok (options.Trace dir x y d)) words held v =
    TraceCallsFor (operands words) dir x y d held v
ReadCallsFor (Ok options.Change) words held v = ChangeCallsFor (change_operands words) held v
ReadCallsFor (Ok options.Merge) words held v = MergeCallsFor (merge_operands words) held v

-- the words call for the verdict over what is held
abbrev pub CallsFor : List (List ℕ) → Held → Verdict → Type 0
CallsFor words held v = ReadCallsFor (read_of words) words held v
