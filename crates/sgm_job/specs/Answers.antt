-- What a survey answers, and what is matched in it: what is wanted, or out of memory.
use Rattle.std.specs.Prelude.{◌≡◌, ⊤, option_map, Result, Ok, Err}
use Rattle.sgm_strip.specs.Scenes.{SceneParts, problem_of}
use Rattle.sgm_job.specs.Survey.{Prepared, Survey}
use Rattle.sgm_job.specs.declared.job.SurveyFault.{SurveyFault}
use Rattle.sgm_job.specs.declared.job.SurveyError.{SurveyError}
use Rattle.sgm_job.specs.declared.job.SurveyError.TheVariants.{Fault, NoMemory}
use Rattle.sgm_job.specs.declared.job.Surveyed.{Surveyed}

-- what is seen of a survey
abbrev pub seen : Surveyed → Survey
seen survey =
    record {
      disp = survey.disp;
      grid = survey.grid;
      tallies = option_map
          (λ v. v.items) survey.tallies;
    }

abbrev pub Answers : Result Survey SurveyFault → Result Surveyed SurveyError → Type 0
Answers wanted (Ok survey) = wanted ≡ Ok (seen survey)
Answers wanted (Err (Fault fault)) = wanted ≡ Err fault
Answers wanted (Err NoMemory) = ⊤

-- what is matched in a scene
abbrev pub matched_in : SceneParts → Prepared
matched_in scene = record { problem = problem_of scene; span = scene.span; guide = scene.guide }

abbrev pub Prepares : Result Prepared SurveyFault → Result SceneParts SurveyError → Type 0
Prepares wanted (Ok scene) = wanted ≡ Ok (matched_in scene)
Prepares wanted (Err (Fault fault)) = wanted ≡ Err fault
Prepares wanted (Err NoMemory) = ⊤
