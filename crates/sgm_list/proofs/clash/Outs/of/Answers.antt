use Rattle.std.proofs.Common.{◌≡◌, ◌∙◌, ap, sym, ℕ, List, nat_cmp, Option, Some}
use Rattle.std.specs.BTreeMap.{BTreeMap, get_by}
use Rattle.std.specs.Borrow.{Bor}
use Rattle.std.specs.Cmp.Lexicographic.{slice_cmp}
use Rattle.std.proofs.lemmas.Map.Text.{btree_map_updates_str}
use Rattle.sgm_list.specs.Entries.{EntryNames}
use Rattle.sgm_list.proofs.ClashLaws.{knows_new, knows_old}
use Rattle.sgm_list.proofs.clash.Outs.of.Goals as goal
use Rattle.sgm_list.proofs.clash.Outs.of.Goals.{then-not-contains_key+in_ok-insert, else-not-contains_key}

abbrev found_in : BTreeMap (Bor (List ℕ)) ℕ → List ℕ → Option ℕ
found_in m cs = get_by (λ k. slice_cmp nat_cmp cs k.now) m

pub loop-place-preserved : goal.loop-place-preserved
loop-place-preserved c =
    let entry = c.index-entries-place.result in
    let out = c.as_str-out.result.now in
    let is : out ≡ entry.out = c.as_str-out.ensures.value ∙ ap (λ (e : EntryNames). e.out) c.entry.view_is in
    elim c.if-not-contains_key.branch [
      | then-not-contains_key+in_ok-insert w ↦
          knows_new c.args.entries.now c.loop-place.place entry c.loop-place-test.true (sym c.index-entries-place.is)
          (found_in c.loop-place.firsts) (found_in c.if-not-contains_key.firsts) out is c.loop-place.invariant
          (sym c.contains_key.ensures ∙ w.if-not-contains_key.true)
          (λ cs. ap (λ (m : BTreeMap (Bor (List ℕ)) ℕ). found_in m cs) w.firsts-is
          ∙ btree_map_updates_str out c.loop-place.firsts w.insert.new.self (Some c.loop-place.place) w.in_ok-insert.ensures.updates cs)
      | else-not-contains_key w ↦
          let same = w.firsts-is in
          λ cs. ap (λ (m : BTreeMap (Bor (List ℕ)) ℕ). found_in m cs) same
          ∙ knows_old c.args.entries.now c.loop-place.place entry c.loop-place-test.true (sym c.index-entries-place.is)
          (found_in c.loop-place.firsts) out is c.loop-place.invariant (sym c.contains_key.ensures ∙ w.if-not-contains_key.false) cs
    ]
