use Rattle.std.proofs.Common.{◌≡◌, ℕ, ◌-◌, ◌*◌, ◌/◌, ◌+◌, ◌<◌, ◌≤◌, ◌∙◌, length, not, nat_eq, refl, subst, arith}
use Rattle.sgm_lanes.specs.Steps.{StepsTo, nth_of}
use Rattle.sgm_lanes.proofs.Bounds.{step_le}
use Rattle.sgm_lanes.proofs.Lanes.{all_came, came_before, chunk_added_or, chunk_or, hadnt_come, high, low, none_yet, yet_to_come}
use Rattle.sgm_lanes.proofs.recurrence.step_chunks.Goals as goal

pub put-requires-clause-fits : goal.put-requires-clause-fits
put-requires-clause-fits g c adds i lt =
    let t = c.args.terms.now in
    let k : ℕ = 16 * c.nth-at.result + i in
    let inside : k < length c.args.sums.now = omega (arith, lt, c.nth-at.ensures.inside, c.requires.sums_length adds, c.requires.same_length) in
    omega (
      arith,
      step_le t.prev.now t.floor t.cost.now t.p1 t.p2 k _ t.can.penalties (t.can.costs k 0 (omega (arith, lt, c.nth-at.ensures.inside, t.can.cost_length))) (c.chunk-first.ensures.each i lt),
      c.requires.room adds k inside,
    )

pub loop-number-init : goal.loop-number-init
loop-number-init g c =
    let t = c.args.terms.now in
    let back = not (nat_eq g.row.BACK 0) in
    let chunks : ℕ = length t.prev.now / 16 in
    let m : ℕ = c.nth-at.result in
    let some : 0 < chunks = omega (arith, c.nth-at.ensures.inside) in
    let is = c.nth-at.ensures.value in
    record {
      begun = omega arith;
      inside = some;
      done = λ d le lt. chunk_or (StepsTo t.prev.now t.floor t.cost.now t.p1 t.p2) c.args.into.now c.put.new.into c.chunk-first.result (16 * m) d
          (λ beside. let it = came_before back chunks 0 m d some is le lt beside in absurd (omega (arith, none_yet back chunks d it.0 it.1)))
          c.chunk-first.ensures.each c.put.ensures.inside c.put.ensures.outside;
      added = λ adds d le lt. chunk_added_or c.args.sums.now c.args.sums.now c.put.new.sums c.args.into.now c.put.new.into c.chunk-first.result (16 * m) d
          (λ beside. let it = came_before back chunks 0 m d some is le lt beside in absurd (omega (arith, none_yet back chunks d it.0 it.1)))
          (λ i h. refl)
          c.put.ensures.inside c.put.ensures.outside (c.put.ensures.added adds) c.put.ensures.others;
      left = λ adds k out. c.put.ensures.others k (hadnt_come back chunks 0 m k some is out).0;
    }

pub put-requires-in-loop-number-clause-fits : goal.put-requires-in-loop-number-clause-fits
put-requires-in-loop-number-clause-fits g c adds i lt =
    let t = c.args.terms.now in
    let chunks : ℕ = length t.prev.now / 16 in
    let m : ℕ = c.nth-at-in-loop-number.result in
    let k : ℕ = 16 * m + i in
    let inside : k < length c.args.sums.now = omega (arith, lt, c.nth-at-in-loop-number.ensures.inside, c.requires.sums_length adds, c.requires.same_length) in
    omega (
      arith,
      step_le t.prev.now t.floor t.cost.now t.p1 t.p2 k _ t.can.penalties (t.can.costs k 0 (omega (arith, lt, c.nth-at-in-loop-number.ensures.inside, t.can.cost_length))) (c.chunk-inner.ensures.each i lt),
      c.requires.room adds k inside,
      c.loop-number.invariant.left adds k
          (yet_to_come (not (nat_eq g.row.BACK 0)) chunks c.loop-number.number m k (omega arith) c.nth-at-in-loop-number.ensures.value (omega arith) (omega (arith, lt))),
    )

pub loop-number-preserved : goal.loop-number-preserved
loop-number-preserved g c =
    let t = c.args.terms.now in
    let back = not (nat_eq g.row.BACK 0) in
    let chunks : ℕ = length t.prev.now / 16 in
    let n = c.loop-number.number in
    let m : ℕ = c.nth-at-in-loop-number.result in
    let some : n < chunks = omega arith in
    let is = c.nth-at-in-loop-number.ensures.value in
    let before = c.loop-number.invariant in
    record {
      begun = omega arith;
      inside = omega arith;
      done = λ d le lt. chunk_or (StepsTo t.prev.now t.floor t.cost.now t.p1 t.p2) c.loop-number.into c.put-in-loop-number.new.into c.chunk-inner.result (16 * m) d
          (λ beside. let it = came_before back chunks n m d some is le lt beside in before.done d it.0 it.1)
          c.chunk-inner.ensures.each c.put-in-loop-number.ensures.inside c.put-in-loop-number.ensures.outside;
      added = λ adds d le lt. chunk_added_or c.args.sums.now c.loop-number.sums c.put-in-loop-number.new.sums c.loop-number.into c.put-in-loop-number.new.into c.chunk-inner.result (16 * m) d
          (λ beside. let it = came_before back chunks n m d some is le lt beside in before.added adds d it.0 it.1)
          (λ i h. before.left adds (16 * m + i) (yet_to_come back chunks n m (16 * m + i) some is (omega arith) (omega (arith, h))))
          c.put-in-loop-number.ensures.inside c.put-in-loop-number.ensures.outside (c.put-in-loop-number.ensures.added adds) c.put-in-loop-number.ensures.others;
      left = λ adds k out. let it = hadnt_come back chunks n m k some is out in c.put-in-loop-number.ensures.others k it.0 ∙ before.left adds k it.1;
    }

pub put-requires-then-chunks-gt1-clause-fits : goal.put-requires-then-chunks-gt1-clause-fits
put-requires-then-chunks-gt1-clause-fits g c adds i lt =
    let t = c.args.terms.now in
    let back = not (nat_eq g.row.BACK 0) in
    let chunks : ℕ = length t.prev.now / 16 in
    let n = c.loop-number.number in
    let m : ℕ = c.nth-at-then-chunks-gt1.result in
    let last : chunks - 1 ≡ n = omega arith in
    let is : m ≡ nth_of back chunks n = subst (λ j. m ≡ nth_of back chunks j) last c.nth-at-then-chunks-gt1.ensures.value in
    let k : ℕ = 16 * m + i in
    let inside : k < length c.args.sums.now = omega (arith, lt, c.nth-at-then-chunks-gt1.ensures.inside, c.requires.sums_length adds, c.requires.same_length) in
    omega (
      arith,
      step_le t.prev.now t.floor t.cost.now t.p1 t.p2 k _ t.can.penalties (t.can.costs k 0 (omega (arith, lt, c.nth-at-then-chunks-gt1.ensures.inside, t.can.cost_length))) (c.chunk-last.ensures.each i lt),
      c.requires.room adds k inside,
      c.loop-number.invariant.left adds k (yet_to_come back chunks n m k (omega arith) is (omega arith) (omega (arith, lt))),
    )

pub returns-then-chunks-gt1-clause-steps : goal.returns-then-chunks-gt1-clause-steps
returns-then-chunks-gt1-clause-steps g c d lt =
    let t = c.args.terms.now in
    let back = not (nat_eq g.row.BACK 0) in
    let chunks : ℕ = length t.prev.now / 16 in
    let n = c.loop-number.number in
    let m : ℕ = c.nth-at-then-chunks-gt1.result in
    let last : chunks - 1 ≡ n = omega arith in
    let all : chunks ≡ n + 1 = omega arith in
    let is : m ≡ nth_of back chunks n = subst (λ j. m ≡ nth_of back chunks j) last c.nth-at-then-chunks-gt1.ensures.value in
    let among = all_came back chunks d (omega (arith, lt)) in
    chunk_or (StepsTo t.prev.now t.floor t.cost.now t.p1 t.p2) c.loop-number.into c.put-then-chunks-gt1.new.into c.chunk-last.result (16 * m) d
    (λ beside. let it = came_before back chunks n m d (omega arith) is (subst (λ j. low back chunks j ≤ d) all among.0) (subst (λ j. d < high back chunks j) all among.1) beside in
    c.loop-number.invariant.done d it.0 it.1)
    c.chunk-last.ensures.each c.put-then-chunks-gt1.ensures.inside c.put-then-chunks-gt1.ensures.outside

pub returns-then-chunks-gt1-clause-added : goal.returns-then-chunks-gt1-clause-added
returns-then-chunks-gt1-clause-added g c adds d lt =
    let t = c.args.terms.now in
    let back = not (nat_eq g.row.BACK 0) in
    let chunks : ℕ = length t.prev.now / 16 in
    let n = c.loop-number.number in
    let m : ℕ = c.nth-at-then-chunks-gt1.result in
    let last : chunks - 1 ≡ n = omega arith in
    let all : chunks ≡ n + 1 = omega arith in
    let some : n < chunks = omega arith in
    let is : m ≡ nth_of back chunks n = subst (λ j. m ≡ nth_of back chunks j) last c.nth-at-then-chunks-gt1.ensures.value in
    let among = all_came back chunks d (omega (arith, lt)) in
    chunk_added_or c.args.sums.now c.loop-number.sums c.put-then-chunks-gt1.new.sums c.loop-number.into c.put-then-chunks-gt1.new.into c.chunk-last.result (16 * m) d
    (λ beside. let it = came_before back chunks n m d some is (subst (λ j. low back chunks j ≤ d) all among.0) (subst (λ j. d < high back chunks j) all among.1) beside in
    c.loop-number.invariant.added adds d it.0 it.1)
    (λ i h. c.loop-number.invariant.left adds (16 * m + i) (yet_to_come back chunks n m (16 * m + i) some is (omega arith) (omega (arith, h))))
    c.put-then-chunks-gt1.ensures.inside c.put-then-chunks-gt1.ensures.outside (c.put-then-chunks-gt1.ensures.added adds) c.put-then-chunks-gt1.ensures.others
