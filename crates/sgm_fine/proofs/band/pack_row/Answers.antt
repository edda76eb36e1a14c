use Rattle.std.proofs.Common.{◌≡◌, ◌+◌, ◌-◌, ◌*◌, ◌/◌, ◌<◌, ℕ, List, Option, None, take, drop, length, rules, arith, ◌∙◌}
use Rattle.std.proofs.lemmas.List.{places}
use Rattle.std.proofs.lemmas.List.Edits.{get_or-between}
use Rattle.sgm_fine.proofs.Bands.{joined}
use Rattle.sgm_fine.proofs.band.pack_row.Goals as goal

length_part : (xs : List (Option ℕ)) (a b : ℕ) → b < length xs + 1 → length (take (b - a) (drop a xs)) ≡ b - a
length_part xs a b le = search (rules, places)

pub loop-n-preserved : goal.loop-n-preserved
loop-n-preserved c =
    let n = c.loop-n.n in
    let row = c.args.row.now in
    let before = c.loop-n.invariant in
    let made = c.pack_chunk.ensures in
    let a : ℕ = n * 64 in
    let b : ℕ = (n + 1) * 64 in
    let long : length (take (b - a) (drop a row)) ≡ b - a = length_part row a b (omega (arith, c.loop-n-test.true)) in
    record {
      few = omega (arith, c.loop-n-test.true);
      written = λ q hq.
          joined c.args.from a row (take (b - a) (drop a row)) c.loop-n.band c.pack_chunk.new.band (λ k hk. before.written k (omega (arith, hk)))
          (λ k hk. get_or-between row a b k None (omega (arith, hk, long))) made q (omega (arith, hq, long));
      kept = λ k hk. made.kept k (omega (arith, hk)) ∙ before.kept k hk;
    }

pub returns : goal.returns
returns c =
    let row = c.args.row.now in
    let before = c.loop-n.invariant in
    let made = c.pack_each.ensures in
    let a : ℕ = length row / 64 * 64 in
    let b : ℕ = length row in
    let long : length (take (b - a) (drop a row)) ≡ b - a = length_part row a b (omega arith) in
    record {
      written = λ q hq.
          joined c.args.from a row (take (b - a) (drop a row)) c.loop-n.band c.pack_each.new.band (λ k hk. before.written k (omega (arith, hk, c.loop-n-test.false)))
          (λ k hk. get_or-between row a b k None (omega (arith, hk, long))) made q (omega (arith, hq, long));
      kept = λ k hk. made.kept k (omega (arith, hk)) ∙ before.kept k hk;
    }
