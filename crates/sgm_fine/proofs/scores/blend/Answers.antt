use Rattle.std.proofs.Common.{◌≡◌, ℕ, ◌-◌, ◌*◌, ◌≤◌, ℤ, pos, ◌+ℤ◌, ◌-ℤ◌, ◌*ℤ◌, FitsSigned, to_z, of_z, w64, arith, subst, sym}
use Rattle.std.proofs.lemmas.Int.{ints}
use Rattle.sgm_base.specs.Ranges.{Within}
use Rattle.sgm_fine.proofs.SideSums.{eighths_within, of_eight, stepped, wide_product}
use Rattle.sgm_fine.proofs.scores.blend.Goals as goal

-- the way between two numbers, and so many times that, as the code computes them
wide : (h s : ℤ) → Within 36028797018963968 h → Within 36028797018963968 s → Within 72057594037927936 (s -ℤ h)
wide h s p q = (omega (arith, ints, p.0, q.0, p.1, q.1), omega (arith, ints, p.0, q.0, p.1, q.1))

times : (n : ℕ) (r h s : ℤ) → n ≤ 8 → r ≡ pos n → Within 36028797018963968 h → Within 36028797018963968 s
    → to_z w64 (of_z w64 (to_z w64 (of_z w64 r) *ℤ to_z w64 (of_z w64 (to_z w64 (of_z w64 s) -ℤ to_z w64 (of_z w64 h))))) ≡ pos n *ℤ (s -ℤ h)
times n r h s few e p q =
    let w = wide h s p q in
    wide_product 8 72057594037927936 (pos n) (s -ℤ h) (to_z w64 (of_z w64 r)) (to_z w64 (of_z w64 (to_z w64 (of_z w64 s) -ℤ to_z w64 (of_z w64 h)))) (omega arith)
    (omega (arith, ints, few, e)) (omega (arith, ints, p.0, p.1, q.0, q.1)) (omega (arith, ints, few), omega (arith, ints, few)) w

eight : (h : ℤ) → Within 36028797018963968 h → to_z w64 (of_z w64 (pos 8 *ℤ to_z w64 (of_z w64 h))) ≡ pos 8 *ℤ h
eight h p = omega (arith, ints, p.0, p.1)

fits : (n : ℕ) (h s y z : ℤ) → n ≤ 8 → Within 36028797018963968 h → Within 36028797018963968 s → y ≡ pos 8 *ℤ h → z ≡ pos n *ℤ (s -ℤ h) → FitsSigned w64 (y +ℤ z)
fits n h s y z few p q ey ez =
    let w = eighths_within (8 - n) n 36028797018963968 h s (of_eight n few) p q in
    omega (arith, ints, ey, ez, stepped n h s few, w.0, w.1)

kept : (n : ℕ) (h s y z : ℤ) → n ≤ 8 → Within 36028797018963968 h → Within 36028797018963968 s → y ≡ pos 8 *ℤ h → z ≡ pos n *ℤ (s -ℤ h)
    → to_z w64 (of_z w64 (y +ℤ z)) ≡ (pos (8 - n) *ℤ h) +ℤ (pos n *ℤ s)
kept n h s y z few p q ey ez =
    let w = eighths_within (8 - n) n 36028797018963968 h s (of_eight n few) p q in
    omega (arith, ints, ey, ez, stepped n h s few, w.0, w.1)

pub overflow_add-result : goal.overflow_add-result
overflow_add-result c =
    let r = c.requires in
    fits c.args.n c.args.here c.args.side _ _ r.eighths r.here r.side (eight c.args.here r.here)
    (times c.args.n c.from.result c.args.here c.args.side r.eighths c.from.ensures r.here r.side)

pub returns-clause-value : goal.returns-clause-value
returns-clause-value c =
    let r = c.requires in
    kept c.args.n c.args.here c.args.side _ _ r.eighths r.here r.side (eight c.args.here r.here)
    (times c.args.n c.from.result c.args.here c.args.side r.eighths c.from.ensures r.here r.side)

pub returns-clause-small : goal.returns-clause-small
returns-clause-small c = λ m p q.
    let r = c.requires in
    let value = kept c.args.n c.args.here c.args.side _ _ r.eighths r.here r.side (eight c.args.here r.here)
    (times c.args.n c.from.result c.args.here c.args.side r.eighths c.from.ensures r.here r.side) in
    subst (Within (8 * m)) (sym value) (eighths_within (8 - c.args.n) c.args.n m c.args.here c.args.side (of_eight c.args.n r.eighths) p q)
