use Rattle.std.proofs.Common.{Fits, rules, sym, subst, ◌∙◌}
use mir.Syntax.{w128}
use Rattle.csv.specs.Writing.{fields_written}
use Rattle.std.specs.Prelude.{decimal}
use Rattle.sgm_report.specs.Writers.{IsPlain, text_of}
use Rattle.sgm_report.proofs.Plain.{count_plain, on_ok, one_later}
use Rattle.sgm_report.proofs.table.write_bridged.Goals as goal

pub write_field-requires-clause-plain : goal.write_field-requires-clause-plain
write_field-requires-clause-plain c =
    let fits : Fits w128 c.args.tally.bridged = search rules in
    subst IsPlain (sym (c.as_bytes.ensures.value ∙ c.format.ensures.text)) (count_plain c.args.tally.bridged fits)

pub returns-in-Bridged-clause-text : goal.returns-in-Bridged-clause-text
returns-in-Bridged-clause-text c =
    let writer = c.args.writer.now in
    rw c.in-Bridged.is
    (on_ok c.write_field.result
    (λ h. one_later (fields_written writer) (text_of writer) (text_of c.write_field.new.writer) c.as_bytes.result.now (decimal c.args.tally.bridged)
    h c.requires.begun (c.as_bytes.ensures.value ∙ c.format.ensures.text))
    c.write_field.ensures.text)
