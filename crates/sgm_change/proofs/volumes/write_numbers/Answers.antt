use Rattle.std.proofs.Common.{◌≢◌, ◌≡◌, ◌++◌, ℕ, List, [], ◌∷◌, ap, ◌∙◌, Fits, rules, map}
use Rattle.std.specs.Prelude.{decimal}
use mir.Syntax.{w128}
use Rattle.csv.specs.Writing.{default_writer, row_text, writer_setup}
use Rattle.csv.specs.declared.writer.QuoteStyle.TheVariants as style
use Rattle.csv.specs.declared.writer.WriterBuilder.{WriterBuilder}
use Rattle.sgm_report.specs.Writers.{text_of}
use Rattle.sgm_report.proofs.Plain.{count_plain, on_ok, row_is}
use Rattle.sgm_change.specs.Texts.{volumes_of}
use Rattle.sgm_change.proofs.volumes.write_numbers.Goals as goal

pub returns : goal.returns
returns c =
    let writer = c.args.writer.now in
    let changed = c.args.changed.now in
    let plain : (writer_setup writer).style ≢ style.NonNumeric =
    rw c.requires.setup (λ e. cc e) in
    let both : Fits w128 changed.both = search rules in
    let come : Fits w128 changed.come = search rules in
    let gone : Fits w128 changed.gone = search rules in
    let empty : Fits w128 changed.empty = search rules in
    let fill : Fits w128 changed.fill = search rules in
    let cut : Fits w128 changed.cut = search rules in
    let row : List (List ℕ) = map decimal (volumes_of changed) in
    let fields : List (List ℕ) = c.as_bytes.result.now ∷ c.as_bytes-2.result.now
    ∷ c.as_bytes-3.result.now ∷ c.as_bytes-4.result.now ∷ c.as_bytes-5.result.now
    ∷ c.as_bytes-6.result.now ∷ [] in
    let same : fields ≡ row = cc in
    on_ok c.write_fields.result
    (λ h. h c.requires.no_field c.requires.no_byte plain
    ∙ ap (λ (t : List ℕ). text_of writer ++ t)
    (ap (λ (b : WriterBuilder). row_text b fields) c.requires.setup
    ∙ ap (λ (t : List (List ℕ)). row_text default_writer t) same
    ∙ row_is _ _ _ (
      count_plain changed.both both,
      (
        count_plain changed.come come,
        (
          count_plain changed.gone gone,
          (
            count_plain changed.empty empty,
            (count_plain changed.fill fill, (count_plain changed.cut cut, tt)),
          ),
        ),
      ),
    )))
    c.write_fields.ensures.bytes
