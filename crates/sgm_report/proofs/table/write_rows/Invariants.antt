use Rattle.std.proofs.Common.{◌≡◌, ◌++◌, length, take}
use Rattle.sgm_report.specs.Table.{table_text}
use Rattle.sgm_report.specs.Writers.{IsBetweenRows, text_of}
use Rattle.sgm_report.proofs.table.write_rows.Given as goal

abbrev pub invariant-loop-region : goal.invariant-loop-region
invariant-loop-region l = record {
  writer : IsBetweenRows l.writer;
  text : text_of l.writer ≡ text_of l.fn.writer ++ table_text l.fn.columns (take (length l.yielded) l.regions) (take (length l.yielded) l.tallies);
}
