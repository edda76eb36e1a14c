use Rattle.std.proofs.Common.{◌≡◌, ℤ, ◌*ℤ◌, to_z, of_z, w16, ap, ap₂, arith, sym, ◌∙◌}
use Rattle.std.proofs.lemmas.Int.{ints}
use Rattle.sgm_fine.specs.Windows.{number}
use Rattle.sgm_fine.proofs.Numbers.{within_all}
use Rattle.sgm_fine.proofs.Totals.{products_below, products_more, products_none, products_padded}
use Rattle.sgm_fine.proofs.sums.products_of.Goals as goal

pub loop-k-init : goal.loop-k-init
loop-k-init c = record {
  few = omega arith;
  sum = sym (products_none c.args.a.now c.args.b.now);
  small = (omega (arith, ints), omega (arith, ints));
}

pub loop-k-preserved : goal.loop-k-preserved
loop-k-preserved c =
    let more = products_more c.loop-k.k c.args.a.now c.args.b.now in
    let s = c.loop-k.invariant.sum in
    let low = c.loop-k.invariant.small.0 in
    let high = c.loop-k.invariant.small.1 in
    let t = c.product-sum.ensures.small in
    let x = number c.args.a.now c.loop-k.k in
    let y = number c.args.b.now c.loop-k.k in
    let p = within_all 4096 c.args.a.now c.requires.a_small c.requires.padded.0 c.loop-k.k in
    let q = within_all 4096 c.args.b.now c.requires.b_small c.requires.padded.1 c.loop-k.k in
    let left : to_z w16 (of_z w16 x) ≡ x = omega (arith, ints, p.0, p.1) in
    let right : to_z w16 (of_z w16 y) ≡ y = omega (arith, ints, q.0, q.1) in
    let value = c.product-sum.ensures.value ∙ ap₂ (λ (u v : ℤ). u *ℤ v) left right in
    record {
      few = omega arith;
      sum = omega (arith, ints, more, s, low, high, t.0, t.1, value);
      small = (omega (arith, ints, low, t.0, t.1), omega (arith, ints, high, t.0, t.1));
    }

pub returns : goal.returns
returns c =
    let all : c.loop-k.k ≡ 32 = omega (arith, c.loop-k.invariant.few, c.loop-k-test.false) in
    c.loop-k.invariant.sum ∙ ap (λ n. products_below n c.args.a.now c.args.b.now) all ∙ products_padded c.args.a.now c.args.b.now c.requires.padded.0

pub product-sum-requires-clause-a_small : goal.product-sum-requires-clause-a_small
product-sum-requires-clause-a_small c =
    let h = within_all 4096 c.args.a.now c.requires.a_small c.requires.padded.0 c.loop-k.k in
    (omega (arith, ints, h.0, h.1), omega (arith, ints, h.0, h.1))

pub product-sum-requires-clause-b_small : goal.product-sum-requires-clause-b_small
product-sum-requires-clause-b_small c =
    let h = within_all 4096 c.args.b.now c.requires.b_small c.requires.padded.1 c.loop-k.k in
    (omega (arith, ints, h.0, h.1), omega (arith, ints, h.0, h.1))
