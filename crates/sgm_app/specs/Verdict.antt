-- What a match, a trace and a demo call for.
use Rattle.std.specs.Prelude.{ℕ, List, [], Result, Ok}
use Rattle.sgm_base.specs.Picture.{Picture}
use Rattle.sgm_base.specs.declared.side.Side.TheVariants as side
use Rattle.sgm_pgm.specs.declared.fault.PgmFault.{PgmFault}
use Rattle.sgm_calib.specs.Calibration.{Calibration, plain}
use Rattle.sgm_calib.specs.declared.keys.CalibFault.{CalibFault}
use Rattle.sgm_energy.specs.declared.dir.Dir.{Dir}
use Rattle.sgm_base.specs.Refining.{Refining}
use Rattle.sgm_job.specs.Survey.{surveyed}
use Rattle.sgm_outcome.specs.declared.outcome.Refusal.{Refusal}
use Rattle.sgm_outcome.specs.declared.outcome.Refusal.TheVariants.{Pgm, Calib}
use Rattle.sgm_stages.specs.Pair.{pair_image}
use Rattle.sgm_stages.specs.Refusals.{or_refused, ◌>>=◌}
use Rattle.sgm_app.specs.Refusals.{refusal_of}
use Rattle.sgm_stages.specs.Texts.{Texts, demo_text}
use Rattle.sgm_app.specs.Texts.{texts_of}
use Rattle.sgm_app.specs.Certificates.{certificate_for}
use Rattle.sgm_stages.specs.Outputs.{files_of}
use Rattle.sgm_app.specs.declared.demo.TheConstants.{DEMO_WIDTH, DEMO_HEIGHT}
use Rattle.sgm_stages.specs.Verdict.{Verdict, unless_refused, files}

-- the texts that inputs with these readings call for, their map being refined so, or their first
-- refusal
unfoldable pub texts_for : Result Picture PgmFault → Result Picture PgmFault
    → Result Calibration CalibFault → Refining → Result Texts Refusal
texts_for left right calib refine = do
  a ← or_refused (Pgm side.Left) left
  b ← or_refused (Pgm side.Right) right
  c ← or_refused Calib calib
  survey ← or_refused refusal_of (surveyed a b c refine)
  Ok (texts_of c survey)

-- the summary that a demo calls for, its map being refined so, or its refusal
unfoldable pub demo_for : ℕ → Refining → Result (List ℕ) Refusal
demo_for number refine = do
  survey ← or_refused refusal_of
      (surveyed (pair_image number side.Left DEMO_WIDTH DEMO_HEIGHT)
      (pair_image number side.Right DEMO_WIDTH DEMO_HEIGHT) plain refine)
  Ok (demo_text survey.disp)

-- what a match calls for whose inputs have these readings: their texts under OUT, and the summary
abbrev pub matched : List ℕ → Refining → Result Picture PgmFault → Result Picture PgmFault
    → Result Calibration CalibFault → Verdict
matched out refine left right calib = unless_refused (texts_for left right calib refine)
    (λ texts. files (files_of out texts) texts.summary)

-- what a trace calls for whose inputs have these readings: no file, and the certificate
abbrev pub traced : Dir → ℕ → ℕ → ℕ → Result Picture PgmFault → Result Picture PgmFault
    → Result Calibration CalibFault → Verdict
traced dir x y d left right calib = unless_refused (certificate_for left right calib dir x y d)
    (λ text. files [] text)

-- what a demo calls for
abbrev pub demoed : ℕ → Refining → Verdict
demoed number refine = unless_refused (demo_for number refine) (λ summary. files [] summary)
