use Rattle.std.proofs.Common.{◌≡◌, ◌+◌, ◌-◌, ◌*◌, ◌/◌, pos, ◌-ℤ◌, to_z, of_z, ap, ap₂, arith, subst, sym, ◌∙◌}
use Rattle.std.proofs.lemmas.Int.{ints}
use Rattle.std.specs.Int.{w32}
use Rattle.sgm_base.specs.Ranges.{Within}
use Rattle.sgm_select.proofs.Offsets.{vertex_is, vertex_near}
use Rattle.sgm_select.proofs.check.sixteenths.Goals as goal

pub returns-clause-exact : goal.returns-clause-exact
returns-clause-exact c =
    let a = c.from-a.result in
    let b = c.from-c.result in
    let q = (33 * a + b) / (2 * (a + b)) in
    let same : q ≡ (33 * (c.args.before - c.args.at) + (c.args.after - c.args.at)) / (2 * ((c.args.before - c.args.at) + (c.args.after - c.args.at))) =
    ap₂ (λ m n. (33 * m + n) / (2 * (m + n))) c.from-a.ensures c.from-c.ensures in
    let is = vertex_is c.args.before c.args.at c.args.after c.requires.falls c.requires.rises in
    let near = vertex_near c.args.before c.args.at c.args.after c.requires.falls c.requires.rises in
    let small : pos q -ℤ pos 8 ≡ _ = ap (λ n. pos n -ℤ pos 8) same ∙ sym is in
    let kept : to_z w32 (of_z w32 (to_z w32 q -ℤ pos 8)) ≡ pos q -ℤ pos 8 = omega (arith, ints, small, near.0, near.1) in
    kept ∙ small

pub returns-clause-near : goal.returns-clause-near
returns-clause-near c =
    subst (λ z. Within 8 z) (sym (returns-clause-exact c)) (vertex_near c.args.before c.args.at c.args.after c.requires.falls c.requires.rises)
