-- The texts that are written of a survey.
use Rattle.sgm_calib.specs.Calibration.{Calibration}
use Rattle.sgm_job.specs.Survey.{Survey}
use Rattle.sgm_stages.specs.Texts.{Texts, map_texts}

abbrev pub texts_of : Calibration → Survey → Texts
texts_of calib survey = map_texts calib survey.disp survey.grid survey.tallies
