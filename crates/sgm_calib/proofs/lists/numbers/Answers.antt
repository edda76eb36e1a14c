use Rattle.std.proofs.Common.{◌≡◌, true, false, Some, rules, refl, ap, sym, ◌∙◌}
use Rattle.serde_json.specs.View.{view}
use Rattle.sgm_calib.specs.declared.keys.CalibFault.TheVariants.{Type_, Range}
use Rattle.sgm_calib.specs.Checks.{numbers_fault}
use Rattle.sgm_calib.specs.Rows.{meant, form_meant, is_in_range}
use Rattle.sgm_calib.proofs.ListLemmas.{are_full, full_allows, numbers_fault-items, numbers-there}
use Rattle.sgm_calib.proofs.lists.numbers.Goals as goal

pub returns-then-not-are_whole-clause-fault : goal.returns-then-not-are_whole-clause-fault
returns-then-not-are_whole-clause-fault c =
    numbers_fault-items _ _ _ _ _ _ _ _ c.in-Some.ensures c.in-Some-elements.ensures.list c.in-Some-elements.ensures.items c.if-not-are_whole.ensures refl
    ∙ ap (λ key. Some (Type_ key)) (sym c.key_at-then-not-are_whole.ensures)

pub returns-then-is_full-clause-ok : goal.returns-then-is_full-clause-ok
returns-then-is_full-clause-ok c =
    let full : true ≡ are_full c.in-Some-elements.items.now c.args.amount (is_in_range (form_meant c.args.row.now.form) c.args.place (view c.args.object.now)) = search rules in
    numbers_fault-items c.args.place (view c.args.object.now) (view c.in-Some.value.now) (meant c.args.row.now) c.args.amount c.in-Some-elements.items.now true true
    c.in-Some.ensures c.in-Some-elements.ensures.list c.in-Some-elements.ensures.items c.if-not-are_whole.ensures full

pub returns-then-is_full-clause-count : goal.returns-then-is_full-clause-count
returns-then-is_full-clause-count c =
    full_allows c.in-Some-elements.items.now c.args.amount (is_in_range (form_meant c.args.row.now.form) c.args.place (view c.args.object.now)) (search rules)

pub returns-then-is_full-clause-value : goal.returns-then-is_full-clause-value
returns-then-is_full-clause-value c =
    numbers-there (view c.args.object.now) (view c.in-Some.value.now) (meant c.args.row.now) c.in-Some-elements.items.now c.in-Some.ensures c.in-Some-elements.ensures.items

pub returns-else-is_full-clause-fault : goal.returns-else-is_full-clause-fault
returns-else-is_full-clause-fault c =
    let full : false ≡ are_full c.in-Some-elements.items.now c.args.amount (is_in_range (form_meant c.args.row.now.form) c.args.place (view c.args.object.now)) = search rules in
    numbers_fault-items c.args.place (view c.args.object.now) (view c.in-Some.value.now) (meant c.args.row.now) c.args.amount c.in-Some-elements.items.now true false
    c.in-Some.ensures c.in-Some-elements.ensures.list c.in-Some-elements.ensures.items c.if-not-are_whole.ensures full
    ∙ ap (λ key. Some (Range key)) (sym c.key_at-else-is_full.ensures)

pub returns-in_default-clause-fault : goal.returns-in_default-clause-fault
unfolding numbers_fault
returns-in_default-clause-fault c = search rules

pub returns-in_default-elements-clause-fault : goal.returns-in_default-elements-clause-fault
unfolding numbers_fault
returns-in_default-elements-clause-fault c = search rules
