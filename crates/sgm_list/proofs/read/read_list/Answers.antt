use Rattle.std.proofs.Common.{◌≡◌, ◌∙◌, ap, sym, List, ℕ, Some, None}
use Rattle.std.specs.List.{position_from}
use Rattle.sgm_list.specs.Entries.{entries_of}
use Rattle.sgm_text.specs.Words.{lines_of}
use Rattle.sgm_list.specs.Clashes.{first_clash}
use Rattle.sgm_list.specs.Faults.{is_faulty}
use Rattle.sgm_list.proofs.FaultLaws.{bad_line, clash_left, no_text, too_many}
use Rattle.sgm_list.proofs.CountLaws.{entry_count}
use Rattle.sgm_list.proofs.read.read_list.Goals as goal

pub returns-in_default-clause-fault : goal.returns-in_default-clause-fault
returns-in_default-clause-fault c = no_text c.args.list.now c.args.bytes.now c.requires c.in_default.ensures.cases.0

pub returns-in-Err-clause-fault : goal.returns-in-Err-clause-fault
returns-in-Err-clause-fault c =
    let at = c.in-Ok.ensures.cases in
    bad_line c.args.list.now c.args.bytes.now c.requires at.1 c.in-Err.number
    (ap (λ (text : List ℕ). position_from (is_faulty 4) 1 (lines_of text)) (sym at.0) ∙ c.in-Err.ensures.first)

pub returns-then-count-gt-MAX_ENTRIES-clause-fault : goal.returns-then-count-gt-MAX_ENTRIES-clause-fault
returns-then-count-gt-MAX_ENTRIES-clause-fault c =
    let at = c.in-Ok.ensures.cases in
    let count = c.in-Ok-count_lines in
    too_many c.args.list.now c.args.bytes.now c.requires at.1
    (ap (λ (text : List ℕ). position_from (is_faulty 4) 1 (lines_of text)) (sym at.0) ∙ count.ensures.none)
    count.count (entry_count c.args.bytes.now c.in-Ok.text.now count.count at.0 count.ensures.count) c.if-count-gt-MAX_ENTRIES.true

pub returns-in-Some-clause-fault : goal.returns-in-Some-clause-fault
returns-in-Some-clause-fault c =
    let at = c.in-Ok.ensures.cases in
    let count = c.in-Ok-count_lines in
    let same : c.deref.result.now ≡ entries_of c.args.bytes.now = c.deref.ensures.value ∙ (c.in_ok-entries.ensures ∙ ap entries_of at.0) in
    clash_left c.args.list.now c.args.bytes.now c.requires at.1
    (ap (λ (text : List ℕ). position_from (is_faulty 4) 1 (lines_of text)) (sym at.0) ∙ count.ensures.none)
    count.count (Some c.in-Some.entry) (entry_count c.args.bytes.now c.in-Ok.text.now count.count at.0 count.ensures.count) c.if-count-gt-MAX_ENTRIES.false
    (sym c.in-Some.is ∙ (c.in_ok-entry.ensures ∙ ap (first_clash c.args.list.now) same))

pub returns-in-None-clause-sound : goal.returns-in-None-clause-sound
returns-in-None-clause-sound c =
    let at = c.in-Ok.ensures.cases in
    let count = c.in-Ok-count_lines in
    let same : c.deref.result.now ≡ entries_of c.args.bytes.now = c.deref.ensures.value ∙ (c.in_ok-entries.ensures ∙ ap entries_of at.0) in
    clash_left c.args.list.now c.args.bytes.now c.requires at.1
    (ap (λ (text : List ℕ). position_from (is_faulty 4) 1 (lines_of text)) (sym at.0) ∙ count.ensures.none)
    count.count None (entry_count c.args.bytes.now c.in-Ok.text.now count.count at.0 count.ensures.count) c.if-count-gt-MAX_ENTRIES.false
    (sym c.in-None.is ∙ (c.in_ok-entry.ensures ∙ ap (first_clash c.args.list.now) same))
