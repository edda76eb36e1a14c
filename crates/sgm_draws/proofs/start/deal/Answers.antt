use Rattle.std.proofs.Common.{rules, ◌≡◌, suc, ◌+◌, ◌-◌, [], arith, sym, ap, ◌∙◌, subst}
use Rattle.atomic_table.specs.Table.{Splits}
use Rattle.sgm_draws.specs.declared.view.View.{View}
use Rattle.sgm_draws.specs.Views.{dealer, kept_view, dealt_view}
use Rattle.sgm_draws.specs.Rules.{Rule}
use Rattle.sgm_draws.specs.Dealt.{AreDealt}
use Rattle.sgm_draws.proofs.Seats.{deals}
use Rattle.sgm_draws.proofs.Dealing.{AreDealt-push}
use Rattle.sgm_draws.proofs.start.deal.Goals as goal

pub split_seat-rest-requires : goal.split_seat-rest-requires
split_seat-rest-requires c =
    let key = c.args.shown.now.key in
    let k = c.loop-number.number in
    let more : c.args.passes - k ≡ suc (suc (c.args.passes - k - 2)) = omega arith in (
      search rules,
      search rules,
      subst (λ (v : View). Splits (Rule key.count key.passes) c.loop-number.seat.id v (kept_view v) (dealt_view v)) (sym (ap (λ m. m.0) c.loop-number.invariant.view ∙ ap (dealer key.count key.passes k) more)) (deals key.count key.passes c.loop-number.seat.id k (c.args.passes - k - 2)),
    )

pub loop-number-preserved : goal.loop-number-preserved
loop-number-preserved c =
    let inv = c.loop-number.invariant in
    let table = c.args.shown.now.table_id in
    let key = c.args.shown.now.key in
    let k = c.loop-number.number in
    let more : c.args.passes - k ≡ suc (suc (c.args.passes - k - 2)) = omega arith in
    let less : suc (c.args.passes - k - 2) ≡ c.args.passes - (k + 1) = omega arith in
    let is = ap (λ m. m.0) inv.view ∙ ap (dealer key.count key.passes k) more in
    let did = c.split_seat-rest.ensures in
    record {
      table = did.3 ∙ inv.table;
      view = did.4 ∙ ((λ i. (dealt_view (is i), [])) ∙ (λ i. (dealer key.count key.passes (k + 1) (less i), [])));
      count = omega (arith, c.push_reserved.ensures.len, inv.count);
      room = omega (arith, c.push_reserved.ensures.capacity, inv.room);
      made = subst (AreDealt table key) (sym c.push_reserved.ensures.items)
          (AreDealt-push table key c.loop-number.made.items _ k (omega (arith, inv.count, c.loop-number.made.ok)) inv.made
          record { same_table = did.0 ∙ (inv.table ∙ c.requires.table.0); me = did.2 ∙ (λ i. (kept_view (is i), (inv.view i).1)) });
    }

pub returns : goal.returns
returns c =
    let inv = c.loop-number.invariant in
    let table = c.args.shown.now.table_id in
    let key = c.args.shown.now.key in
    let k = c.loop-number.number in
    let one : c.args.passes - k ≡ 1 = omega arith in
    record {
      count = omega (arith, c.push_reserved-2.ensures.len, inv.count);
      each = subst (AreDealt table key) (sym c.push_reserved-2.ensures.items)
          (AreDealt-push table key c.loop-number.made.items _ k (omega (arith, inv.count, c.loop-number.made.ok)) inv.made
          record { same_table = inv.table ∙ c.requires.table.0; me = inv.view ∙ (λ i. (dealer key.count key.passes k (one i), [])) });
    }
