use Rattle.std.proofs.Common.{◌≡◌, ◌∙◌, ap, subst, sym, arith, length, get_or, None, true, false}
use Rattle.std.specs.Prelude.{is_some, slice_get}
use Rattle.std.specs.List.{flat_map}
use Rattle.std.specs.List.Sorted.{IsPermutation}
use Rattle.std.proofs.lemmas.List.Sorted.{length_permutation}
use Rattle.std.specs.Option.{option_to_list}
use Rattle.sgm_base.specs.Sides.{Sides}
use Rattle.sgm_base.specs.Values.{value_at}
use Rattle.sgm_energy.specs.Rays.{pixel_at}
use Rattle.sgm_refine.specs.Filling.{entry_taken, met}
use Rattle.sgm_refine.proofs.Filled.{filled_own, filled_void, filled_met}
use Rattle.sgm_refine.proofs.MetLemmas.{row_value}
use Rattle.sgm_refine.proofs.Ranks.{in_order}
use Rattle.sgm_refine.proofs.filling.value_at.Goals as goal

pub returns-then-is_some : goal.returns-then-is_some
returns-then-is_some c =
    let m = c.args.from.now.map.now in
    let own = get_or c.row.result.now c.args.x None in
    let is : own ≡ value_at m c.args.x c.args.met.now.y = ap (λ vs. get_or vs c.args.x None) c.row.ensures.value ∙ row_value m c.args.x c.args.met.now.y c.requires.column c.requires.met.inside in
    let some : is_some own ≡ true = (cc) in
    filled_own m c.args.from.now.left.now c.args.mismatched (pixel_at c.args.x c.args.met.now.y) own is some

pub returns-in-None : goal.returns-in-None
returns-in-None c =
    let m = c.args.from.now.map.now in
    let left = c.args.from.now.left.now in
    let own = get_or c.row.result.now c.args.x None in
    let is : own ≡ value_at m c.args.x c.args.met.now.y = ap (λ vs. get_or vs c.args.x None) c.row.ensures.value ∙ row_value m c.args.x c.args.met.now.y c.requires.column c.requires.met.inside in
    let some : is_some own ≡ false = (cc) in
    let void : value_at left c.args.x c.args.met.now.y ≡ None =
    sym (ap (λ vs. get_or vs c.args.x None) c.row-2.ensures.value ∙ row_value left c.args.x c.args.met.now.y (omega (arith, c.args.from.now.left_width)) (omega (arith, c.args.from.now.left_height))) ∙ c.in-None.is in
    filled_void m left c.args.mismatched (pixel_at c.args.x c.args.met.now.y) own is some void

pub returns-in-Some : goal.returns-in-Some
unfolding met
returns-in-Some c =
    let m = c.args.from.now.map.now in
    let left = c.args.from.now.left.now in
    let p = pixel_at c.args.x c.args.met.now.y in
    let own = get_or c.row.result.now c.args.x None in
    let is : own ≡ value_at m c.args.x c.args.met.now.y = ap (λ vs. get_or vs c.args.x None) c.row.ensures.value ∙ row_value m c.args.x c.args.met.now.y c.requires.column c.requires.met.inside in
    let some : is_some own ≡ false = (cc) in
    let there = sym (ap (λ vs. get_or vs c.args.x None) c.row-2.ensures.value ∙ row_value left c.args.x c.args.met.now.y (omega (arith, c.args.from.now.left_width)) (omega (arith, c.args.from.now.left_height))) ∙ c.in-Some.is in
    let wide : m.width ≡ c.width.inside.width = sym (ap (λ (s : Sides). s.width) c.width.view_is ∙ c.size.ensures.width) in
    let list = c.sorted.result.items in
    let found : flat_map option_to_list c.met_at-values.result ≡ met m p =
    ap (flat_map option_to_list) (c.met_at-values.ensures m c.args.met.now.y wide c.requires.met.level_met c.requires.met.down_met c.requires.met.up_met) in
    let moved : IsPermutation (met m p) list = subst (λ zs. IsPermutation zs list) found c.sorted.ensures.permutation in
    c.taken.ensures ∙ ap (λ zs. slice_get zs (entry_taken c.args.mismatched (length zs))) c.as_slice.ensures.value
    ∙ ap (λ n. slice_get list (entry_taken c.args.mismatched n)) (length_permutation (met m p) list moved)
    ∙ sym (in_order (met m p) list (entry_taken c.args.mismatched (length (met m p))) moved c.sorted.ensures.ascending)
    ∙ filled_met m left c.args.mismatched p own _ is some there
