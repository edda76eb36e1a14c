-- What is seen of a series at one moment. No public clause speaks of this.
use Rattle.std.specs.Prelude.{ℕ, List, Bool}
use Rattle.sgm_io.specs.declared.shelf.Shelf as shelf
use Rattle.sgm_io.specs.declared.sink.Sink as sink
use Rattle.sgm_stages.specs.Moments.{Moment, moment}
use Rattle.sgm_series.specs.declared.turns.Tally.{Tally}

pub record SeriesMoment : Type 0 where
  -- what is seen of the shelf and of `out`
  pub run : Moment
  -- whether `err` tells what it has received
  pub err_tells : Bool
  -- the lines that it has received, where it tells
  pub lines : List ℕ
  -- how often it has failed
  pub err_faults : ℕ
  -- how the turns went so far
  pub tally : Tally

-- the moment at which a shelf, `out`, `err` and the tally stand so
abbrev pub series_at : {S O E : Type 0} → shelf.Ghosts S → sink.Ghosts O → sink.Ghosts E
    → S → O → E → Tally → SeriesMoment
series_at s o e files out err tally = record {
  run = moment s o files out;
  err_tells = e.tells;
  lines = e.written err;
  err_faults = e.faults err;
  tally = tally;
}
