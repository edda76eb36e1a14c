-- What is seen of a run at one moment.
use Rattle.std.specs.Prelude.{◌≡◌, ℕ, List, Bool, Option, IsTrue}
use Rattle.sgm_io.specs.Held.{Held}
use Rattle.sgm_io.specs.Unfinished.{NameSet}
use Rattle.sgm_io.specs.declared.shelf.Shelf as shelf
use Rattle.sgm_io.specs.declared.sink.Sink as sink
use Rattle.sgm_stages.specs.Ends.{Faults, faults_at, told_by}

pub record Moment : Type 0 where
  -- whether the shelf tells what it holds
  pub tells : Bool
  -- what it holds, where it tells
  pub held : Held
  -- the name being written
  pub writing : Option (List ℕ)
  -- the names that were begun and not finished
  pub unfinished : NameSet
  -- whether `out` tells what it has received
  pub out_tells : Bool
  -- what `out` has received, where it tells
  pub written : List ℕ
  -- how often the shelf and `out` have failed
  pub faults : Faults

-- the moment at which a shelf and `out` stand so
abbrev pub moment : {S O : Type 0} → shelf.Ghosts S → sink.Ghosts O → S → O → Moment
moment s o files out = record {
  tells = s.tells;
  held = s.held files;
  writing = s.writing files;
  unfinished = s.unfinished files;
  out_tells = o.tells;
  written = o.written out;
  faults = faults_at s o files out;
}

-- what is held at a moment, where it is told
abbrev pub told_at : Moment → Option Held
told_at at = told_by at.tells at.held

-- a stage that fetches at most: the shelf holds what it held, and writes what it wrote
pub record Keeps {S : Type 0} (s : shelf.Ghosts S) (old new : S) : Type 0 where
  pub held : IsTrue s.tells → s.held new ≡ s.held old
  pub writing : s.writing new ≡ s.writing old
  pub unfinished : s.unfinished new ≡ s.unfinished old
