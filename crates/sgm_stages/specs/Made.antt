-- What contracts see of the texts that were made.
use Rattle.std.specs.Prelude.{option_map}
use Rattle.sgm_stages.specs.Changing.{GridTexts}
use Rattle.sgm_stages.specs.Merging.{MergePlan, MergedTexts}
use Rattle.sgm_words.specs.Operands.{bytes_of}
use Rattle.sgm_stages.specs.Texts.{Texts}
use Rattle.sgm_stages.specs.declared.change_pipeline.ChangeTexts.{ChangeTexts}
use Rattle.sgm_stages.specs.declared.made.MadeTexts.{MadeTexts}
use Rattle.sgm_stages.specs.declared.merge_plan.MergeTexts.{MergeTexts}
use Rattle.sgm_stages.specs.declared.merge_plan.Plan.{Plan}

abbrev pub texts_in : MadeTexts → Texts
texts_in made = record {
  disparity = made.disparity.items;
  heights = option_map (λ text. text.items) made.heights;
  report = option_map (λ text. text.items) made.report;
  summary = made.summary.items;
}

abbrev pub change_texts_in : ChangeTexts → GridTexts
change_texts_in made = record {
  difference = made.difference.items;
  volumes = made.volumes.items;
  summary = made.summary.items;
}

abbrev pub merge_texts_in : MergeTexts → MergedTexts
merge_texts_in made = record {
  heights = made.heights.items;
  report = option_map (λ text. text.items) made.report;
  summary = made.summary.items;
}

abbrev pub plan_in : Plan → MergePlan
plan_in plan = record { names = bytes_of plan.names.items; calib = plan.calib; spec = plan.spec }
