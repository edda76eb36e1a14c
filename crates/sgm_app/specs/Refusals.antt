-- The refusals of a survey.
use Rattle.sgm_job.specs.declared.job.SurveyFault.{SurveyFault}
use Rattle.sgm_job.specs.declared.job.SurveyFault.TheVariants as fault
use Rattle.sgm_outcome.specs.declared.outcome.Refusal.{Refusal}
use Rattle.sgm_outcome.specs.declared.outcome.Refusal.TheVariants.{SizesDiffer, VolumeTooLarge}
use Rattle.sgm_outcome.specs.declared.outcome.Refusal.TheVariants.{Warp}

abbrev pub refusal_of : SurveyFault → Refusal
refusal_of (fault.SizesDiffer left right) = SizesDiffer left right
refusal_of (fault.VolumeTooLarge cells) = VolumeTooLarge cells
refusal_of (fault.Warp side found) = Warp side found
