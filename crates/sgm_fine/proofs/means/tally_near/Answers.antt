use Rattle.std.proofs.Common.{◌≡◌, ◌<◌, ◌≤◌, None, Some, ap, arith, sym, ◌∙◌, ⊎_elim}
use Rattle.std.proofs.lemmas.Bool.{cases_lt}
use Rattle.sgm_fine.specs.Means.{near_at}
use Rattle.sgm_fine.specs.declared.means.Tally.{Tally}
use Rattle.sgm_fine.proofs.Nearby.{count_all, count_near, count_none, count_some, count_zero, near_own, sum_all, sum_near, sum_none, sum_some, sum_zero}
use Rattle.sgm_fine.proofs.means.tally_near.Goals as goal
use Rattle.sgm_fine.proofs.means.tally_near.Goals.{in-Some, in_default}

pub loop-k-init : goal.loop-k-init
loop-k-init g c = record {
  few = omega arith;
  sum = sym (sum_zero c.args.map.now c.args.x c.args.y c.args.m);
  number = sym (count_zero c.args.map.now c.args.x c.args.y c.args.m);
  most = omega arith;
  fewer = omega arith;
  some = λ h. absurd (omega (arith, h));
}

pub loop-k-preserved : goal.loop-k-preserved
loop-k-preserved g c =
    let map = c.args.map.now in
    let x = c.args.x in
    let y = c.args.y in
    let m = c.args.m in
    let k = c.loop-k.k in
    elim c.match-near_value.branch [
      | in-Some w ↦
          let here : Some w.in-Some.value ≡ near_at map x y m k = w.in-Some.ensures in
          let sum = ap (λ (t : Tally). t.sum) w.tally-is in
          let number = ap (λ (t : Tally). t.number) w.tally-is in
          record {
            few = omega arith;
            sum = omega (arith, sum, w.from.ensures, c.loop-k.invariant.sum, sum_some map x y m k w.in-Some.value here);
            number = omega (arith, number, c.loop-k.invariant.number, count_some map x y m k w.in-Some.value here);
            most = omega (arith, sum, w.from.ensures, number, c.loop-k.invariant.most);
            fewer = omega (arith, number, c.loop-k.invariant.fewer);
            some = λ _. omega (arith, number);
          }
      | in_default w ↦
          let none : None ≡ near_at map x y m k = sym w.in_default.is ∙ c.near_value.ensures in
          let sum = ap (λ (t : Tally). t.sum) w.tally-is in
          let number = ap (λ (t : Tally). t.number) w.tally-is in
          record {
            few = omega arith;
            sum = omega (arith, sum, c.loop-k.invariant.sum, sum_none map x y m k none);
            number = omega (arith, number, c.loop-k.invariant.number, count_none map x y m k none);
            most = omega (arith, sum, number, c.loop-k.invariant.most);
            fewer = omega (arith, number, c.loop-k.invariant.fewer);
            some = λ h. ⊎_elim (λ (past : 4 < k). omega (arith, number, c.loop-k.invariant.some past))
                (λ (le : k ≤ 4).
                let fifth : k ≡ 4 = omega (arith, h, le) in
                let both : None ≡ Some m = none ∙ ap (near_at map x y m) fifth ∙ near_own map x y m c.requires.value in
                cc)
                (cases_lt 4 k);
          }
    ]

pub returns-clause-sum : goal.returns-clause-sum
returns-clause-sum g c =
    let all : c.loop-k.k ≡ 9 = omega (arith, c.loop-k.invariant.few, c.loop-k-test.false) in
    c.loop-k.invariant.sum ∙ ap (sum_near c.args.map.now c.args.x c.args.y c.args.m) all ∙ sum_all c.args.map.now c.args.x c.args.y c.args.m

pub returns-clause-number : goal.returns-clause-number
returns-clause-number g c =
    let all : c.loop-k.k ≡ 9 = omega (arith, c.loop-k.invariant.few, c.loop-k-test.false) in
    c.loop-k.invariant.number ∙ ap (count_near c.args.map.now c.args.x c.args.y c.args.m) all ∙ count_all c.args.map.now c.args.x c.args.y c.args.m
