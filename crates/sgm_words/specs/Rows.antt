-- A row of the table of options in the code, as contracts see it.
use Rattle.sgm_words.specs.OptionTable.{OptionEntry, option_entry}
use Rattle.sgm_words.specs.declared.option_table.OptionRow.{OptionRow}

abbrev pub option_seen : OptionRow → OptionEntry
option_seen row = option_entry row.name.now row.least row.greatest row.missing
