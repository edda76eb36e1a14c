use Rattle.std.proofs.Common.{◌≢◌, ◌++◌, ℕ, List, ap, ◌∙◌}
use Rattle.csv.specs.Writing.{row_text, writer_setup}
use Rattle.csv.specs.declared.writer.QuoteStyle.TheVariants as style
use Rattle.csv.specs.declared.writer.WriterBuilder.{WriterBuilder}
use Rattle.sgm_report.specs.Writers.{text_of}
use Rattle.sgm_report.proofs.Plain.{on_ok}
use Rattle.sgm_change.proofs.Names.{names, names_are}
use Rattle.sgm_change.proofs.volumes.write_names.Goals as goal

pub returns-clause-text : goal.returns-clause-text
returns-clause-text c =
    let writer = c.args.writer.now in
    let plain : (writer_setup writer).style ≢ style.NonNumeric =
    rw c.requires.setup (λ e. cc e) in
    on_ok c.write_fields.result
    (λ h. h c.requires.no_field c.requires.no_byte plain
    ∙ ap (λ (t : List ℕ). text_of writer ++ t)
    (ap (λ (b : WriterBuilder). row_text b names) c.requires.setup ∙ names_are))
    c.write_fields.ensures.bytes
