use Rattle.std.proofs.Common.{ap, sym, ◌∙◌}
use Rattle.std.specs.List.{list_any}
use Rattle.sgm_calib.specs.Table.{is_known}
use Rattle.sgm_calib.proofs.TableLemmas.{list_any-meant}
use Rattle.sgm_calib.proofs.checks.is_known.Goals as goal

pub returns : goal.returns
unfolding is_known
returns c = c.gives_name.ensures ∙ sym (list_any-meant _ c.rows.result.now) ∙ ap (list_any _) c.rows.ensures
