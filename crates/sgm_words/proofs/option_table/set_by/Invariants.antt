use Rattle.std.proofs.Common.{◌≡◌, drop}
use Rattle.sgm_words.specs.OptionTable.{option_table, set_among, set_by}
use Rattle.sgm_words.proofs.option_table.set_by.Given as goal

abbrev pub invariant-loop-place : goal.invariant-loop-place
invariant-loop-place l = set_among l.place (drop l.place option_table) l.text ≡ set_by l.text
