use Rattle.std.proofs.Common.{◌≡◌, ℕ, ◌<◌, ◌≤◌, pos, to_z, w16, inl, inr, unsigned_abs, arith, length-set, subst, sym, ◌∙◌}
use Rattle.std.proofs.lemmas.Bool.{cases_lt}
use Rattle.std.proofs.lemmas.Int.{ints}
use Rattle.sgm_base.specs.Ranges.{IsFromTo}
use Rattle.sgm_fine.specs.Bands.{AreBetween}
use Rattle.sgm_fine.specs.Windows.{IsPadded, number}
use Rattle.sgm_fine.proofs.SmallRights.{at_more, between_named, past_none, rest_none}
use Rattle.sgm_fine.proofs.whole.window_of.Goals as goal

pub loop-k-preserved : goal.loop-k-preserved
loop-k-preserved c =
    let k = c.loop-k.k in
    let w = c.loop-k.window in
    let before = c.loop-k.invariant in
    let rights = c.rights_between-rights.result in
    let small = c.rights_between-rights.ensures.small in
    let whole = c.requires.whole k c.loop-k-test.true in
    let ex : to_z w16 rights.after ≡ pos rights.after = omega (arith, ints, small.0) in
    let ey : to_z w16 rights.here ≡ pos rights.here = omega (arith, ints, small.1) in
    let ez : to_z w16 rights.before ≡ pos rights.before = omega (arith, ints, small.2) in
    let g = c.args.gathered.now in
    let is : AreBetween (to_z w16 rights.after) (to_z w16 rights.here) (to_z w16 rights.before) (unsigned_abs (number g.first k)) (unsigned_abs (number g.second k)) (unsigned_abs (number g.third k))
    (unsigned_abs (number g.part k)) =
    between_named (pos rights.after) (pos rights.here) (pos rights.before) _ _ _ _ _ _ _ _ _ _ _ ex ey ez (omega (arith, ints, whole.first)) (omega (arith, ints, whole.second))
    (omega (arith, ints, whole.third)) (omega (arith, ints, whole.part)) c.rights_between-rights.ensures.value in
    record {
      few = omega (arith, c.loop-k-test.true);
      left = before.left;
      long_after = length-set w.after k _ ∙ before.long_after;
      long_here = length-set w.here k _ ∙ before.long_here;
      long_before = length-set w.before k _ ∙ before.long_before;
      each = at_more c.args.gathered.now w.after w.here w.before k _ _ _ (omega (arith, c.loop-k-test.true, before.long_after)) (omega (arith, c.loop-k-test.true, before.long_here))
          (omega (arith, c.loop-k-test.true, before.long_before)) is (omega (arith, ints, ex, small.0), omega (arith, ints, ex, small.0))
          (omega (arith, ints, ey, small.1), omega (arith, ints, ey, small.1)) (omega (arith, ints, ez, small.2), omega (arith, ints, ez, small.2)) before.each;
    }

pub returns-clause-kept : goal.returns-clause-kept
returns-clause-kept c =
    let w = c.loop-k.window in
    let g = c.args.gathered.now in
    let i = c.loop-k.invariant in
    let each = λ (k : ℕ) (lt : k < 25). i.each k (omega (arith, lt, c.loop-k-test.false)) in
    let none = λ (k : ℕ) (le : 25 ≤ k) (lt : k < 32).
    rest_none g w.after w.here w.before k lt (c.requires.padded.first.1 k le) (c.requires.padded.second.1 k le) (c.requires.padded.third.1 k le) (c.requires.padded.part.1 k le)
    (i.each k (omega (arith, lt, c.loop-k-test.false))) in
    record {
      left = λ k lt. subst (λ xs. IsFromTo (pos 0) (pos 255) (number xs k)) (sym i.left) (c.requires.whole k (omega (arith, lt))).left;
      after = λ k lt. (each k lt).after;
      here = λ k lt. (each k lt).here;
      before = λ k lt. (each k lt).before;
      padded_left = subst IsPadded (sym i.left) c.requires.padded.left.1;
      padded_after = λ k le. elim (cases_lt k 32) [ inl lt ↦ (none k le lt).0 | inr ge ↦ past_none w.after k i.long_after ge ];
      padded_here = λ k le. elim (cases_lt k 32) [ inl lt ↦ (none k le lt).1 | inr ge ↦ past_none w.here k i.long_here ge ];
      padded_before = λ k le. elim (cases_lt k 32) [ inl lt ↦ (none k le lt).2 | inr ge ↦ past_none w.before k i.long_before ge ];
    }
