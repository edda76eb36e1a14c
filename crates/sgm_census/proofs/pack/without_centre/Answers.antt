use Rattle.std.proofs.Common.{◌≡◌, ℕ, ◌+◌, ◌-◌, ◌*◌, ◌/◌, ◌%◌, ◌^◌, ◌<◌, ◌≤◌, ap, ◌∙◌, arith, bit_or, bit_and}
use Rattle.std.proofs.lemmas.Nat.{one_shl, and_mask, or_shifted, shr_split, mod_below, pow_pos}
use Rattle.std.proofs.Math.Nat.{mod-eq_of_lt, mul-le-mul_left}
use Rattle.std.proofs.lemmas.Grind.{pow_more}
use Rattle.sgm_census.proofs.pack.without_centre.Goals as goal

-- the bits above the centre, moved down by one, still fit
high_fits : (word half : ℕ) → word < 2 ^ 64 → word / 2 ^ (half + 1) * 2 ^ half < 2 ^ 64
high_fits word half h =
    let q = word / 2 ^ (half + 1) in
    let less : q * 2 ^ half ≤ q * 2 ^ (half + 1) = mul-le-mul_left q (omega (arith, pow_more 2 half)) in
    omega (arith, less, shr_split word (half + 1))

pub returns : goal.returns
returns c =
    let word = c.args.word in
    let half = c.args.half in
    let high : word / 2 ^ (half + 1) * 2 ^ half % 2 ^ 64 ≡ word / 2 ^ (half + 1) * 2 ^ half = mod-eq_of_lt (high_fits word half (omega arith)) in
    let one : 1 * 2 ^ half % 2 ^ 64 ≡ 2 ^ half = one_shl half 64 (omega arith) in
    let low : bit_and word (1 * 2 ^ half % 2 ^ 64 - 1) ≡ word % 2 ^ half = ap (λ n. bit_and word (n - 1)) one ∙ and_mask word half in
    ap (λ n. bit_or n (bit_and word (1 * 2 ^ half % 2 ^ 64 - 1))) high ∙ ap (λ n. bit_or (word / 2 ^ (half + 1) * 2 ^ half) n) low
    ∙ or_shifted (word / 2 ^ (half + 1)) half (word % 2 ^ half) (mod_below word (2 ^ half) (pow_pos half))
