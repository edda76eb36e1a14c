use Rattle.sgm_series.specs.Lines.{series_line}
use Rattle.sgm_series.proofs.EntryLines.{told}
use Rattle.sgm_series.proofs.lines.outcome_line.Goals as goal

pub returns-in-ReadFault : goal.returns-in-ReadFault
unfolding series_line
returns-in-ReadFault c = rw c.in-ReadFault.is (told _ _ _ _ _ _ _ _ c.entry_line.ensures.bytes c.word.ensures.value c.text-in-ReadFault.ensures.bytes c.text-in-ReadFault-2.ensures.bytes)

pub returns-in-WriteFault : goal.returns-in-WriteFault
unfolding series_line
returns-in-WriteFault c =
    rw c.in-WriteFault.is (told _ _ _ _ _ _ _ _ c.entry_line-in-WriteFault.ensures.bytes c.word-in-WriteFault.ensures.value c.text-in-WriteFault.ensures.bytes c.text-in-WriteFault-2.ensures.bytes)
