use Rattle.std.proofs.Common.{ap, ◌∙◌, ◌==◌, option_map}
use Rattle.std.specs.List.{find}
use Rattle.sgm_calib.specs.Rows.{meant}
use Rattle.sgm_calib.specs.Paths.{row_of}
use Rattle.sgm_calib.proofs.TableLemmas.{find-meant, option_map-meant}
use Rattle.sgm_calib.proofs.keys.row_of.Goals as goal

pub returns : goal.returns
unfolding row_of
returns c =
    option_map-meant c.find_row.result
    ∙ ap (option_map meant) c.find_row.ensures
    ∙ find-meant (λ row. row.number == c.args.number) c.rows.result.now
    ∙ ap (find _) c.rows.ensures
