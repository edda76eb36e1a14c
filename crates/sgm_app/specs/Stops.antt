-- The stop that a survey without an answer makes.
use Rattle.sgm_job.specs.declared.job.SurveyError.{SurveyError}
use Rattle.sgm_job.specs.declared.job.SurveyError.TheVariants as survey
use Rattle.sgm_app.specs.Refusals.{refusal_of}
use Rattle.sgm_stages.specs.declared.stops.TextsError.{TextsError}
use Rattle.sgm_stages.specs.declared.stops.TextsError.TheVariants as texts

abbrev pub survey_stop : SurveyError → TextsError
survey_stop (survey.Fault fault) = texts.Refused (refusal_of fault)
survey_stop survey.NoMemory = texts.NoMemory
