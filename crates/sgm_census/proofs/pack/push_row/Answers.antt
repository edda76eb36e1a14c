use Rattle.std.proofs.Common.{◌≡◌, ◌+◌, ◌-◌, ◌^◌, ◌<◌, ◌≤◌, ap, ◌∙◌, arith, drop, length, slice_index, subst, take}
use Rattle.std.proofs.Math.Nat.{pow-le-pow_right}
use Rattle.std.proofs.lemmas.List.{length-drop}
use Rattle.sgm_census.specs.Packed.{lesser, pushed}
use Rattle.sgm_census.proofs.RowBits.{bits_more, bits_small, bits_whole}
use Rattle.sgm_census.proofs.pack.push_row.Goals as goal

pub push_bits-requires-clause-room : goal.push_bits-requires-clause-room
push_bits-requires-clause-room c = λ k h.
    let few : c.loop-i.i ≤ 9 = omega arith in
    let power : 2 ^ c.loop-i.i ≤ 2 ^ 9 = pow-le-pow_right {n = 2} (omega arith) few in
    omega (arith, c.loop-i.invariant k h, bits_small (slice_index c.args.centres.now k) c.args.row.now k c.loop-i.i, power)

pub loop-i-preserved : goal.loop-i-preserved
loop-i-preserved c = λ k h.
    let row = c.args.row.now in
    let i = c.loop-i.i in
    bits_more (slice_index c.args.centres.now k) row k i (i + length c.args.bits.now - i) (slice_index c.loop-i.bits k) (slice_index c.push_bits.new.bits k)
    (omega arith) (omega (arith, length-drop k row)) (c.loop-i.invariant k (omega arith)) (c.push_bits.ensures k h)

pub append-requires-clause-small : goal.append-requires-clause-small
append-requires-clause-small c = λ k h.
    let end : c.loop-i.i ≡ c.args.wide = omega arith in
    subst (λ n. slice_index c.loop-i.bits k < 2 ^ n) end (omega (arith, c.loop-i.invariant k (omega arith), bits_small (slice_index c.args.centres.now k) c.args.row.now k c.loop-i.i))

pub returns : goal.returns
returns c = λ k h.
    let row = c.args.row.now in
    let centre = slice_index c.args.centres.now k in
    let end : c.loop-i.i ≡ c.args.wide = omega arith in
    c.append.ensures k h
    ∙ bits_whole centre (slice_index c.args.words.now k) row k c.args.wide (slice_index c.loop-i.bits k) (omega arith)
    (c.loop-i.invariant k (omega arith) ∙ ap (λ i. pushed 0 (lesser centre (take i (drop k row)))) end)
