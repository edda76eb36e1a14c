use Rattle.std.proofs.Common.{◌≡◌, ◌++◌}
use Rattle.sgm_list.specs.Entries.{entries_in, entries_of}
use Rattle.sgm_text.specs.Words.{lines_left}
use Rattle.sgm_list.specs.Reading.{size_left}
use Rattle.sgm_list.proofs.read.make_entries.Given as goal

abbrev pub invariant-loop-left : goal.invariant-loop-left
invariant-loop-left l = l.entries.items ++ entries_in (lines_left l.left) ≡ entries_of l.text

abbrev pub decreases-loop-left : goal.decreases-loop-left
decreases-loop-left l = size_left l.left
