use Rattle.std.proofs.Common.{◌≡◌, ◌*◌, ◌∙◌, sym, ap, length}
use Rattle.sgm_select.proofs.Selected.{values_same}
use Rattle.sgm_select.proofs.maps.join_strips.Goals as goal

pub unreachable-requires : goal.unreachable-requires
unreachable-requires c =
    let whole = c.requires.rows.0 in
    let cut = c.requires.rows.1 in
    let are = c.requires.rows.2 in
    let w = c.args.size.width in
    let h = c.args.size.height in
    let full : length c.in_ok-entries.entries.items ≡ w * h =
    ap length (c.in_ok-entries.ensures whole cut are) ∙ are.full ∙ ap (λ k. k * whole.height) (sym c.requires.rows.3) ∙ ap (λ k. w * k) (sym c.requires.rows.4) in
    let some = c.in_default.ensures.exact.1 full in cc

pub returns : goal.returns
returns c = record {
  exact = λ whole cut are ew eh.
      c.in-Some.ensures.made ∙ values_same c.args.size.width whole.width c.args.size.height whole.height _ _ ew eh (c.in_ok-entries.ensures whole cut are);
}
