use Rattle.std.proofs.Common.{◌∙◌}
use Rattle.sgm_io.proofs.UnfinishedLaws.{finished}
use Rattle.sgm_survey_tests.proofs.io.keep.Goals as goal

pub returns : goal.returns
returns g c =
    finished c.args.name.now _ _ _ _
    (c.in_ok-append_whole.ensures.writing ∙ c.in_ok-create.ensures.writing)
    (c.in_ok-append_whole.ensures.unfinished ∙ c.in_ok-create.ensures.unfinished)
    c.in_ok-finish.ensures.unfinished
