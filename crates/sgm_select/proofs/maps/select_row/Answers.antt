use Rattle.std.proofs.Common.{◌≡◌, ◌<◌, ◌≤◌, ◌∙◌, ap, subst, arith, List, ℕ, Option, length, slice_index}
use Rattle.std.proofs.lemmas.List.{with_items_is}
use Rattle.std.proofs.lemmas.Option.{get_or_from_slice_get}
use Rattle.std.specs.Prelude.{EachIndex, None}
use Rattle.sgm_base.specs.Disparities.{Disparities}
use Rattle.sgm_select.specs.Rows.{base_in, checked_in}
use Rattle.sgm_select.proofs.Selected.{row_selected}
use Rattle.sgm_select.proofs.maps.select_row.Goals as goal

pub returns-clause-room : goal.returns-clause-room
returns-clause-room c =
    ap length (with_items_is c.args.indices.now.bases c.base_row.new.into (omega (arith, c.base_row.auto.into, c.deref_mut.ensures.len)))
    ∙ c.base_row.auto.into ∙ ap length c.deref_mut.ensures.value

pub returns-clause-exact : goal.returns-clause-exact
returns-clause-exact c g y planes others ec ew hy h sp so el er x hx =
    let n = length c.args.into.now in
    let sums = c.args.sums.now in
    let lefts = c.args.left.now in
    let rights = c.args.right.now in
    let first = c.args.span.first in
    let count = c.args.span.count in
    let bases = c.base_row.new.into in
    let matches = c.match_row.new.into in
    let lx : x < n = omega (arith, c.check_row.auto.into) in
    let some : 1 ≤ count = omega (arith, c.span.invariant, ap (λ (s : Disparities). s.count) c.span.view_is) in
    let each = subst (λ k. EachIndex bases (λ x. slice_index bases x ≡ base_in sums k x)) (ap (λ (s : Disparities). s.count) c.span.view_is) c.base_row.ensures.each in
    let own : c.deref.result.now ≡ bases = c.deref.ensures.value ∙ with_items_is c.args.indices.now.bases bases (omega (arith, c.base_row.auto.into, c.deref_mut.ensures.len)) in
    let others_own : c.deref-2.result.now ≡ matches = c.deref-2.ensures.value ∙ with_items_is c.args.indices.now.matches matches (omega (arith, c.match_row.auto.into, c.deref_mut-2.ensures.len)) in
    get_or_from_slice_get c.check_row.new.into x _ None (c.check_row.ensures x hx)
    ∙ ap (λ (bs : List ℕ). checked_in sums count bs c.deref-2.result.now lefts rights first x) own
    ∙ ap (λ (ms : List (Option ℕ)). checked_in sums count bases ms lefts rights first x) others_own
    ∙ row_selected g planes others first y count n sums bases matches lefts rights ec some ew hy h sp so el er
    (omega (arith, c.base_row.auto.into, ap length c.deref_mut.ensures.value, c.requires.indices_length))
    (omega (arith, c.match_row.auto.into, ap length c.deref_mut-2.ensures.value, c.args.indices.now.same_length, c.requires.indices_length)) each c.match_row.ensures x lx
