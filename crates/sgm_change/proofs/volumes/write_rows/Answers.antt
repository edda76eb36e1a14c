use Rattle.std.proofs.Common.{codes, decimal, map}
use Rattle.sgm_text.specs.Texts.{line}
use Rattle.sgm_text.proofs.Beginnings.{two_parts}
use Rattle.sgm_report.specs.Table.{fields_line}
use Rattle.sgm_report.specs.Writers.{text_of}
use Rattle.sgm_change.specs.Texts.{volumes_of}
use Rattle.sgm_change.proofs.volumes.write_rows.Goals as goal

pub returns : goal.returns
returns c =
    two_parts c.write_numbers.result (text_of c.args.writer.now) (text_of c.write_names.new.writer)
    (text_of c.write_numbers.new.writer) (line (codes "both,come,gone,empty,fill,cut"))
    (fields_line (map decimal (volumes_of c.args.changed.now)))
    c.in_ok-write_names.ensures.text c.write_numbers.ensures
