use Rattle.std.proofs.Common.{◌≢◌, ◌++◌, ℕ, List, ap, ◌∙◌}
use Rattle.csv.specs.Writing.{field_text, fields_written, next_sep, writer_setup}
use Rattle.csv.specs.declared.writer.QuoteStyle.TheVariants as style
use Rattle.csv.specs.declared.writer.WriterBuilder.{WriterBuilder}
use Rattle.sgm_report.specs.Writers.{text_of}
use Rattle.sgm_report.proofs.Plain.{next_is, on_ok}
use Rattle.sgm_report.proofs.table.write_field.Goals as goal

pub returns-clause-text : goal.returns-clause-text
returns-clause-text c =
    let writer = c.args.writer.now in
    let field = c.args.field.now in
    let plain : (writer_setup writer).style ≢ style.NonNumeric = rw c.requires.setup (λ e. cc e) in
    on_ok c.write_field.result
    (λ h. h plain
    ∙ ap (λ (t : List ℕ). text_of writer ++ t)
    (ap (λ (b : WriterBuilder). next_sep b (fields_written writer) ++ field_text b field) c.requires.setup ∙ next_is (fields_written writer) field c.requires.plain))
    c.write_field.ensures.text
