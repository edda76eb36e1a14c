-- The line that the outcome of a series prints.
use Rattle.std.specs.Prelude.{ℕ, List, [], ◌++◌, codes, decimal}
use Rattle.sgm_words.specs.Files.{input_word, output_word}
use Rattle.sgm_list.specs.Lines.{fault_line}
use Rattle.sgm_series.specs.declared.words.SeriesUsage.{SeriesUsage}
use Rattle.sgm_series.specs.declared.words.SeriesUsage.TheVariants.{NoList, BadWord}
use Rattle.sgm_series.specs.declared.outcome.SeriesOutcome.{SeriesOutcome}
use Rattle.sgm_series.specs.declared.outcome.SeriesOutcome.TheVariants.{Done, Usage, RefusedList}
use Rattle.sgm_series.specs.declared.outcome.SeriesOutcome.TheVariants.{SomeRefused, ListUnread}
use Rattle.sgm_series.specs.declared.outcome.SeriesOutcome.TheVariants.{ReadFault, WriteFault}
use Rattle.sgm_series.specs.declared.outcome.SeriesOutcome.TheVariants.{NoMemory}

-- the line of a fault of the words
abbrev pub usage_line : SeriesUsage → List ℕ
usage_line NoList = codes "sgm_series: no list\n"
usage_line (BadWord position) = codes "sgm_series: word " ++ decimal position
    ++ codes " is not accepted\n"

-- what became of an entry
abbrev pub entry_line : ℕ → List ℕ → List ℕ
entry_line entry what = codes "sgm_series: entry " ++ decimal entry ++ what

-- the line of an outcome; nothing for Done
unfoldable pub series_line : SeriesOutcome → List ℕ
series_line Done = []
series_line (Usage fault) = usage_line fault
series_line (RefusedList fault) = fault_line fault
series_line (SomeRefused entries) = codes "sgm_series: " ++ decimal entries
    ++ codes " entries refused\n"
series_line ListUnread = codes "sgm_series: cannot read the list\n"
series_line (ReadFault entry input) =
    entry_line entry (codes ": cannot read " ++ input_word input ++ codes "\n")
series_line (WriteFault entry output) =
    entry_line entry (codes ": cannot write " ++ output_word output ++ codes "\n")
series_line NoMemory = codes "sgm_series: no memory\n"
