-- What is made of a pair that is judged.
use Rattle.std.specs.Prelude.{ℕ, List, Result, Ok}
use Rattle.sgm_outcome.specs.declared.outcome.Refusal.{Refusal}
use Rattle.sgm_energy.specs.declared.dir.Dir.{Dir}
use Rattle.sgm_energy.specs.Rays.{pixel_at}
use Rattle.sgm_trace.specs.Texts.{trace_text}
use Rattle.sgm_base.specs.Refining.{Refining}
use Rattle.sgm_job.specs.Survey.{prepared, surveyed}
use Rattle.sgm_stages.specs.Refusals.{or_refused, ◌>>=◌, unless}
use Rattle.sgm_app.specs.Refusals.{refusal_of}
use Rattle.sgm_app.specs.Certificates.{inside_refusal}
use Rattle.sgm_stages.specs.Texts.{Texts, demo_text}
use Rattle.sgm_app.specs.Texts.{texts_of}
use Rattle.sgm_stages.specs.declared.judge.Judged.{Judged}

-- the texts of what is judged, or its refusal
unfoldable pub texts_of_judged : Judged → Refining → Result Texts Refusal
texts_of_judged judged refine = do
  survey ← or_refused refusal_of (surveyed judged.left judged.right judged.calib refine)
  Ok (texts_of judged.calib survey)

-- the summary of its demo, or its refusal
unfoldable pub demo_of_judged : Judged → Refining → Result (List ℕ) Refusal
demo_of_judged judged refine = do
  survey ← or_refused refusal_of (surveyed judged.left judged.right judged.calib refine)
  Ok (demo_text survey.disp)

-- its certificate, or its refusal
unfoldable pub certificate_of_judged : Judged → Dir → ℕ → ℕ → ℕ → Result (List ℕ) Refusal
certificate_of_judged judged dir x y d = do
  made ← or_refused refusal_of (prepared judged.left judged.right judged.calib)
  unless (inside_refusal made.problem x y d) (trace_text made.problem dir (pixel_at x y) d)
