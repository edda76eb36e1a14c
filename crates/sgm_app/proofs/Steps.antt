-- From a survey to what it is wanted for.
use Rattle.std.proofs.Common.{◌≡◌, ap, Result, Ok, Err}
use Rattle.sgm_job.specs.Survey.{Survey}
use Rattle.sgm_job.specs.Answers.{Answers}
use Rattle.sgm_job.specs.declared.job.SurveyFault.{SurveyFault}
use Rattle.sgm_job.specs.declared.job.SurveyError.{SurveyError}
use Rattle.sgm_job.specs.declared.job.SurveyError.TheVariants as survey
use Rattle.sgm_stages.specs.Judge.{StopsFor}
use Rattle.sgm_app.specs.Stops.{survey_stop}
use Rattle.sgm_stages.specs.Refusals.{or_refused}
use Rattle.sgm_app.specs.Refusals.{refusal_of}

-- a survey that was answered is the one that is wanted
pub survey_goes : (wanted : Result Survey SurveyFault) (made : Survey) → wanted ≡ Ok made → or_refused refusal_of wanted ≡ Ok made
survey_goes wanted made is = ap (λ (w : Result Survey SurveyFault). or_refused refusal_of w) is

-- a survey that wasn't is the refusal, or there was no memory
pub survey_stops : (wanted : Result Survey SurveyFault) (error : SurveyError) → Answers wanted (Err error) → StopsFor (or_refused refusal_of wanted) (survey_stop error)
survey_stops wanted (survey.Fault fault) is = ap (λ (w : Result Survey SurveyFault). or_refused refusal_of w) is
survey_stops wanted survey.NoMemory is = tt
