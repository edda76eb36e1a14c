-- What a trace prints: the certificate of an index at a pixel, along a ray of the pair.
use Rattle.std.specs.Prelude.{ℕ, List, nat_lt, ◌&&◌, Bool, Option, None, Some, Result}
use Rattle.std.specs.Prelude.{if◌then◌else◌}
use Rattle.sgm_base.specs.Picture.{Picture}
use Rattle.sgm_base.specs.declared.side.Side.TheVariants as side
use Rattle.sgm_pgm.specs.declared.fault.PgmFault.{PgmFault}
use Rattle.sgm_energy.specs.declared.dir.Dir.{Dir}
use Rattle.sgm_energy.specs.Rays.{Problem, pixel_at}
use Rattle.sgm_trace.specs.Texts.{trace_text}
use Rattle.sgm_calib.specs.Calibration.{Calibration}
use Rattle.sgm_calib.specs.declared.keys.CalibFault.{CalibFault}
use Rattle.sgm_job.specs.Survey.{prepared}
use Rattle.sgm_outcome.specs.declared.outcome.Refusal.{Refusal}
use Rattle.sgm_outcome.specs.declared.outcome.Refusal.TheVariants.{Pgm, Calib, NotInside}
use Rattle.sgm_stages.specs.Refusals.{or_refused, ◌>>=◌, unless}
use Rattle.sgm_app.specs.Refusals.{refusal_of}

-- the pixel is one of the image, and the index is below the count
abbrev pub is_inside : Problem → ℕ → ℕ → ℕ → Bool
is_inside g x y d = nat_lt x g.width && (nat_lt y g.height && nat_lt d g.count)

-- the refusal of a pixel or an index that there isn't
unfoldable pub inside_refusal : Problem → ℕ → ℕ → ℕ → Option Refusal
inside_refusal g x y d = if is_inside g x y d then None else Some (NotInside x y d)

-- the certificate that a pair with these readings calls for, or its first refusal
unfoldable pub certificate_for : Result Picture PgmFault → Result Picture PgmFault
    → Result Calibration CalibFault → Dir → ℕ → ℕ → ℕ → Result (List ℕ) Refusal
certificate_for left right calib dir x y d = do
  a ← or_refused (Pgm side.Left) left
  b ← or_refused (Pgm side.Right) right
  c ← or_refused Calib calib
  made ← or_refused refusal_of (prepared a b c)
  unless (inside_refusal made.problem x y d) (trace_text made.problem dir (pixel_at x y) d)
