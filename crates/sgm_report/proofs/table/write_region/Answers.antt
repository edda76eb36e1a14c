use Rattle.std.proofs.Common.{◌≡◌, ℕ, ◌≤◌, ◌++◌, List, [], ◌∷◌, Fits, rules, sym, ap, subst, ◌∙◌, arith}
use mir.Syntax.{w128}
use Rattle.sgm_report.specs.Areas.{Area}
use Rattle.csv.specs.Writing.{fields_written, has_written, tail_text}
use Rattle.csv.specs.declared.writer.WriterBuilder.{WriterBuilder}
use Rattle.std.specs.Prelude.{decimal}
use Rattle.sgm_report.specs.Table.{bridged_field, end_field}
use Rattle.sgm_report.specs.Writers.{IsPlain, text_of}
use Rattle.sgm_report.proofs.Plain.{count_plain, end_is, field_before, fields_before, on_ok, rest_text, row_behind}
use Rattle.sgm_report.proofs.table.write_region.Goals as goal

pub write_field-requires-2-clause-plain : goal.write_field-requires-2-clause-plain
write_field-requires-2-clause-plain c =
    let fits : Fits w128 c.args.tally.cells = search rules in
    subst IsPlain (sym (c.as_bytes-2.ensures.value ∙ c.format.ensures.text)) (count_plain c.args.tally.cells fits)

pub write_field-requires-3-clause-plain : goal.write_field-requires-3-clause-plain
write_field-requires-3-clause-plain c =
    let fits : Fits w128 c.args.tally.empty = search rules in
    subst IsPlain (sym (c.as_bytes-3.ensures.value ∙ c.format-2.ensures.text)) (count_plain c.args.tally.empty fits)

pub write_field-requires-4-clause-plain : goal.write_field-requires-4-clause-plain
write_field-requires-4-clause-plain c =
    let fits : Fits w128 c.args.tally.fill = search rules in
    subst IsPlain (sym (c.as_bytes-4.ensures.value ∙ c.format-3.ensures.text)) (count_plain c.args.tally.fill fits)

pub write_field-requires-5-clause-plain : goal.write_field-requires-5-clause-plain
write_field-requires-5-clause-plain c =
    let fits : Fits w128 c.args.tally.cut = search rules in
    subst IsPlain (sym (c.as_bytes-5.ensures.value ∙ c.format-4.ensures.text)) (count_plain c.args.tally.cut fits)

pub returns-clause-text : goal.returns-clause-text
returns-clause-text c =
    let area = c.args.region.now in
    let tally = c.args.tally in
    let w0 = c.args.writer.now in
    let w1 = c.write_field.new.writer in
    let w2 = c.write_field-2.new.writer in
    let w3 = c.write_bridged.new.writer in
    let w4 = c.write_field-3.new.writer in
    let w5 = c.write_field-4.new.writer in
    let w6 = c.write_field-5.new.writer in
    let w7 = c.write_field-6.new.writer in
    let w8 = c.write_field-7.new.writer in
    let n1 : fields_written w1 ≡ 1 = omega (arith, c.in_ok-write_field.ensures.count, c.requires.writer.no_field) in
    let n2 : fields_written w2 ≡ 2 = omega (arith, c.in_ok-write_field-2.ensures.count) in
    let n3 : 2 ≤ fields_written w3 = omega (arith, c.in_ok-write_bridged.ensures.count) in
    let n4 : 3 ≤ fields_written w4 = omega (arith, c.in_ok-write_field-3.ensures.count) in
    let n5 : 4 ≤ fields_written w5 = omega (arith, c.in_ok-write_field-4.ensures.count) in
    let n6 : 5 ≤ fields_written w6 = omega (arith, c.in_ok-write_field-5.ensures.count) in
    let n7 : 6 ≤ fields_written w7 = omega (arith, c.in_ok-write_field-6.ensures.count) in
    let n8 : 7 ≤ fields_written w8 = omega (arith, c.in_ok-write_field-7.ensures.count) in
    let low = end_field tally.cells tally.lowest in
    let high = end_field tally.cells tally.highest in
    let f6 : List (List ℕ) = high ∷ [] in
    let f5 : List (List ℕ) = low ∷ f6 in
    let f4 : List (List ℕ) = decimal tally.cut ∷ f5 in
    let f3 : List (List ℕ) = decimal tally.fill ∷ f4 in
    let f2 : List (List ℕ) = decimal tally.empty ∷ f3 in
    let f1 : List (List ℕ) = bridged_field c.args.columns tally ++ f2 in
    let f0 : List (List ℕ) = decimal tally.cells ∷ f1 in
    on_ok c.end_record.result
    (λ h.
    let all = text_of c.end_record.new.self in
    let r8 : all ≡ text_of w8 ++ rest_text [] =
    h ∙ ap (λ (t : List ℕ). text_of w8 ++ t)
    (ap (λ (b : WriterBuilder). tail_text b (has_written w8) (fields_written w8)) c.in_ok-write_field-7.ensures.setup
    ∙ end_is (has_written w8) (fields_written w8) (omega (arith, n8))) in
    let r7 = field_before (fields_written w7) (text_of w7) (text_of w8) all c.end_text-2.result.now high []
    c.in_ok-write_field-7.ensures.text (omega (arith, n7)) c.end_text-2.ensures.value r8 in
    let r6 = field_before (fields_written w6) (text_of w6) (text_of w7) all c.end_text.result.now low f6
    c.in_ok-write_field-6.ensures.text (omega (arith, n6)) c.end_text.ensures.value r7 in
    let r5 = field_before (fields_written w5) (text_of w5) (text_of w6) all c.as_bytes-5.result.now (decimal tally.cut) f5
    c.in_ok-write_field-5.ensures.text (omega (arith, n5)) (c.as_bytes-5.ensures.value ∙ c.format-4.ensures.text) r6 in
    let r4 = field_before (fields_written w4) (text_of w4) (text_of w5) all c.as_bytes-4.result.now (decimal tally.fill) f4
    c.in_ok-write_field-4.ensures.text (omega (arith, n4)) (c.as_bytes-4.ensures.value ∙ c.format-3.ensures.text) r5 in
    let r3 = field_before (fields_written w3) (text_of w3) (text_of w4) all c.as_bytes-3.result.now (decimal tally.empty) f3
    c.in_ok-write_field-3.ensures.text (omega (arith, n3)) (c.as_bytes-3.ensures.value ∙ c.format-2.ensures.text) r4 in
    let r2 = fields_before (text_of w2) (text_of w3) all (bridged_field c.args.columns tally) f2 c.in_ok-write_bridged.ensures.text r3 in
    let r1 = field_before (fields_written w1) (text_of w1) (text_of w2) all c.as_bytes-2.result.now (decimal tally.cells) f1
    c.in_ok-write_field-2.ensures.text (omega (arith, n1)) (c.as_bytes-2.ensures.value ∙ c.format.ensures.text) r2 in
    row_behind (fields_written w0) (text_of w0) (text_of w1) all c.as_bytes.result.now area.name f0
    c.in_ok-write_field.ensures.text c.requires.writer.no_field (c.as_bytes.ensures.value ∙ ap (λ (a : Area). a.name) c.region.view_is) r1)
    c.end_record.ensures.bytes
