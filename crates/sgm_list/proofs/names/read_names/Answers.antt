use Rattle.std.proofs.Common.{◌≡◌, ◌∙◌, ap, sym, map, List, ℕ, Some, None, string_bytes, length, ◌≤◌, arith}
use Rattle.std.proofs.lemmas.List.{length-map}
use Rattle.std.specs.List.{position_from}
use Rattle.sgm_list.specs.declared.limits.TheConstants.{MAX_ENTRIES}
use Rattle.sgm_text.specs.Words.{lines_of}
use Rattle.sgm_list.specs.Faults.{is_faulty}
use Rattle.sgm_list.specs.Names.{is_written, names_in, unless_fault}
use Rattle.sgm_list.proofs.CountLaws.{name_count}
use Rattle.sgm_list.proofs.NamesLaws.{bad_count, bad_line, few_names, no_text, output_left}
use Rattle.sgm_list.proofs.names.read_names.Goals as goal

pub returns-in_default-clause-names : goal.returns-in_default-clause-names
returns-in_default-clause-names c = no_text c.args.out.now c.args.bytes.now c.in_default.ensures.cases.0

pub returns-in-Err-clause-names : goal.returns-in-Err-clause-names
returns-in-Err-clause-names c =
    let at = c.in-Ok.ensures.cases in
    bad_line c.args.out.now c.args.bytes.now at.1 c.in-Err.number
    (ap (λ (text : List ℕ). position_from (is_faulty 1) 1 (lines_of text)) (sym at.0) ∙ c.in-Err.ensures.first)

pub returns-in-Some-clause-names : goal.returns-in-Some-clause-names
returns-in-Some-clause-names c =
    let at = c.in-Ok.ensures.cases in
    let count = c.in-Ok-count_lines in
    bad_count c.args.out.now c.args.bytes.now at.1
    (ap (λ (text : List ℕ). position_from (is_faulty 1) 1 (lines_of text)) (sym at.0) ∙ count.ensures.none)
    count.count (name_count c.args.bytes.now c.in-Ok.text.now count.count at.0 count.ensures.count) c.in-Some.fault c.in-Some.ensures

pub returns-in-Some-first_written-clause-names : goal.returns-in-Some-first_written-clause-names
returns-in-Some-first_written-clause-names c =
    let at = c.in-Ok.ensures.cases in
    let count = c.in-Ok-count_lines in
    let same : map string_bytes c.deref.result.now ≡ names_in c.args.bytes.now = ap (map string_bytes) c.deref.ensures.value ∙ (c.in_ok-names.ensures ∙ ap names_in at.0) in
    output_left c.args.out.now c.args.bytes.now at.1
    (ap (λ (text : List ℕ). position_from (is_faulty 1) 1 (lines_of text)) (sym at.0) ∙ count.ensures.none)
    count.count (name_count c.args.bytes.now c.in-Ok.text.now count.count at.0 count.ensures.count)
    (Some c.in-Some-first_written.entry) (sym c.in_default-count_fault.is ∙ c.count_fault.ensures)
    (sym c.in-Some-first_written.is ∙ (c.first_written.ensures ∙ ap (position_from (is_written c.args.out.now) 0) same))

pub returns-in-None-clause-names : goal.returns-in-None-clause-names
returns-in-None-clause-names c =
    let at = c.in-Ok.ensures.cases in
    let count = c.in-Ok-count_lines in
    let made : map string_bytes c.in_ok-names.names.items ≡ names_in c.args.bytes.now = c.in_ok-names.ensures ∙ ap names_in at.0 in
    let same : map string_bytes c.deref.result.now ≡ names_in c.args.bytes.now = ap (map string_bytes) c.deref.ensures.value ∙ made in
    output_left c.args.out.now c.args.bytes.now at.1
    (ap (λ (text : List ℕ). position_from (is_faulty 1) 1 (lines_of text)) (sym at.0) ∙ count.ensures.none)
    count.count (name_count c.args.bytes.now c.in-Ok.text.now count.count at.0 count.ensures.count)
    None (sym c.in_default-count_fault.is ∙ c.count_fault.ensures)
    (sym c.in-None.is ∙ (c.first_written.ensures ∙ ap (position_from (is_written c.args.out.now) 0) same))
    ∙ ap (λ (names : List (List ℕ)). unless_fault None names) (sym made)

pub returns-in-None-clause-few : goal.returns-in-None-clause-few
returns-in-None-clause-few c =
    let at = c.in-Ok.ensures.cases in
    let count = c.in-Ok-count_lines in
    let made : map string_bytes c.in_ok-names.names.items ≡ names_in c.args.bytes.now = c.in_ok-names.ensures ∙ ap names_in at.0 in
    let long : length c.in_ok-names.names.items ≡ length (names_in c.args.bytes.now) = sym (length-map c.in_ok-names.names.items string_bytes) ∙ ap length made in
    let is : count.count ≡ length (names_in c.args.bytes.now) = name_count c.args.bytes.now c.in-Ok.text.now count.count at.0 count.ensures.count in
    let few : count.count ≤ MAX_ENTRIES = few_names count.count (sym c.in_default-count_fault.is ∙ c.count_fault.ensures) in
    omega arith
