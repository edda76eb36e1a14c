use Rattle.std.proofs.Common.{◌≢◌, ◌++◌, ℕ, List, ap, ◌∙◌}
use Rattle.csv.specs.Writing.{row_text, writer_setup}
use Rattle.csv.specs.declared.writer.QuoteStyle.TheVariants as style
use Rattle.csv.specs.declared.writer.WriterBuilder.{WriterBuilder}
use Rattle.sgm_report.specs.declared.table.Columns.TheVariants.{Plain, Bridged}
use Rattle.sgm_report.specs.Writers.{text_of}
use Rattle.sgm_report.proofs.Plain.{head_fields, head_is, on_ok}
use Rattle.sgm_report.proofs.table.write_head.Goals as goal

pub returns-in-Plain-clause-text : goal.returns-in-Plain-clause-text
returns-in-Plain-clause-text c =
    let writer = c.args.writer.now in
    let plain : (writer_setup writer).style ≢ style.NonNumeric = rw c.requires.setup (λ e. cc e) in
    rw c.in-Plain.is
    (on_ok c.write_fields.result
    (λ h. h c.requires.no_field c.requires.no_byte plain
    ∙ ap (λ (t : List ℕ). text_of writer ++ t) (ap (λ (b : WriterBuilder). row_text b (head_fields Plain)) c.requires.setup ∙ head_is Plain))
    c.write_fields.ensures.bytes)

pub returns-in-Bridged-clause-text : goal.returns-in-Bridged-clause-text
returns-in-Bridged-clause-text c =
    let writer = c.args.writer.now in
    let plain : (writer_setup writer).style ≢ style.NonNumeric = rw c.requires.setup (λ e. cc e) in
    rw c.in-Bridged.is
    (on_ok c.write_fields-in-Bridged.result
    (λ h. h c.requires.no_field c.requires.no_byte plain
    ∙ ap (λ (t : List ℕ). text_of writer ++ t) (ap (λ (b : WriterBuilder). row_text b (head_fields Bridged)) c.requires.setup ∙ head_is Bridged))
    c.write_fields-in-Bridged.ensures.bytes)
