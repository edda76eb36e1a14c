use Rattle.std.proofs.Common.{ap, ◌≡◌, ℕ, ◌+◌, ◌<◌, slice_index, ◌++◌, ◌∙◌, length, sym, subst, arith}
use Rattle.sgm_path.specs.Paths.{RowTerms, terms_of}
use Rattle.sgm_strip.specs.Passing.{AddsTwo}
use Rattle.sgm_strip.proofs.Adding.{adds_down, adds_up, joined_three, later_was}
use Rattle.sgm_strip.proofs.sweeping.advance_two.Goals as goal

pub returns-then-at-at_second-clause-added : goal.returns-then-at-at_second-clause-added
returns-then-at-at_second-clause-added c =
    let t : RowTerms = terms_of c.args.first.now in
    let u : RowTerms = terms_of c.args.second.now in
    let n : ℕ = length c.args.last.now in
    let at = c.args.at in
    let a = c.split_at_mut-rest.result.0.now in
    let v = c.split_at_mut-upper.result.0.now in
    let w = c.split_at_mut-lower.result.0.now in
    let tail = c.split_at_mut-lower.result.1.now in
    let v' = c.pass_two.new.sums in
    let w' = c.pass_two.new.more in
    let after = c.pass_two.new.values in
    let least : c.min.result ≡ at = omega (arith, c.min.ensures, c.if-at-at_second.true) in
    let la : length a ≡ at = c.split_at_mut-rest.ensures.front_len ∙ least in
    let lv : length v ≡ n = c.split_at_mut-upper.ensures.front_len in
    let lw : length w ≡ n = c.split_at_mut-lower.ensures.front_len in
    let old : a ++ (v ++ (w ++ tail)) ≡ c.args.sums.now =
    joined_three c.args.sums.now a c.split_at_mut-rest.result.1.now v c.split_at_mut-upper.result.1.now w tail c.min.result n
    c.split_at_mut-rest.ensures.front c.split_at_mut-rest.ensures.back c.split_at_mut-upper.ensures.front c.split_at_mut-upper.ensures.back
    c.split_at_mut-lower.ensures.front c.split_at_mut-lower.ensures.back in
    let next : at + n ≡ c.args.at_second = omega (arith, c.requires.beside, c.if-at-at_second.true) in
    subst (λ l. AddsTwo t u at c.args.at_second c.args.last.now after l (a ++ (v' ++ (w' ++ tail)))) old
    (subst (λ m. AddsTwo t u at m c.args.last.now after (a ++ (v ++ (w ++ tail))) (a ++ (v' ++ (w' ++ tail)))) next
    (adds_down t u at n c.args.last.now after a v v' w w' tail la lv c.pass_two.auto.sums c.pass_two.auto.more
    (omega (arith, c.pass_two.auto.values, lw)) (sym c.requires.last.whole) (sym lw) c.pass_two.ensures.passes))

pub returns-else-at-at_second-clause-added : goal.returns-else-at-at_second-clause-added
returns-else-at-at_second-clause-added c =
    let t : RowTerms = terms_of c.args.first.now in
    let u : RowTerms = terms_of c.args.second.now in
    let n : ℕ = length c.args.last.now in
    let at = c.args.at_second in
    let a = c.split_at_mut-rest.result.0.now in
    let v = c.split_at_mut-upper.result.0.now in
    let w = c.split_at_mut-lower.result.0.now in
    let tail = c.split_at_mut-lower.result.1.now in
    let v' = c.pass_two-else-at-at_second.new.more in
    let w' = c.pass_two-else-at-at_second.new.sums in
    let after = c.pass_two-else-at-at_second.new.values in
    let least : c.min.result ≡ at = omega (arith, c.min.ensures, c.if-at-at_second.false) in
    let la : length a ≡ at = c.split_at_mut-rest.ensures.front_len ∙ least in
    let lv : length v ≡ n = c.split_at_mut-upper.ensures.front_len in
    let lw : length w ≡ n = c.split_at_mut-lower.ensures.front_len in
    let old : a ++ (v ++ (w ++ tail)) ≡ c.args.sums.now =
    joined_three c.args.sums.now a c.split_at_mut-rest.result.1.now v c.split_at_mut-upper.result.1.now w tail c.min.result n
    c.split_at_mut-rest.ensures.front c.split_at_mut-rest.ensures.back c.split_at_mut-upper.ensures.front c.split_at_mut-upper.ensures.back
    c.split_at_mut-lower.ensures.front c.split_at_mut-lower.ensures.back in
    let next : at + n ≡ c.args.at = omega (arith, c.requires.beside, c.if-at-at_second.false) in
    subst (λ l. AddsTwo t u c.args.at at c.args.last.now after l (a ++ (v' ++ (w' ++ tail)))) old
    (subst (λ m. AddsTwo t u m at c.args.last.now after (a ++ (v ++ (w ++ tail))) (a ++ (v' ++ (w' ++ tail)))) next
    (adds_up t u at n c.args.last.now after a v v' w w' tail la lv c.pass_two-else-at-at_second.auto.more c.pass_two-else-at-at_second.auto.sums
    (omega (arith, c.pass_two-else-at-at_second.auto.values, lv)) (sym c.requires.last.whole) (sym lw) c.pass_two-else-at-at_second.ensures.passes))

pub pass_two-requires-clause-more : goal.pass_two-requires-clause-more
pass_two-requires-clause-more c =
    let n : ℕ = length c.args.last.now in
    let lw : length c.split_at_mut-lower.result.0.now ≡ n = c.split_at_mut-lower.ensures.front_len in (
      omega (arith, lw, c.requires.second),
      λ k h.
          let few : k < n = omega (arith, h, lw) in
          let is : c.min.result + n + k ≡ c.args.at_second + k = omega (arith, c.min.ensures, c.requires.beside, c.if-at-at_second.true) in
          omega (
            arith,
            later_was c.args.sums.now c.split_at_mut-rest.result.1.now c.split_at_mut-upper.result.1.now c.split_at_mut-lower.result.0.now c.min.result n k
                c.split_at_mut-rest.ensures.back c.split_at_mut-upper.ensures.back c.split_at_mut-lower.ensures.front few,
            ap (slice_index c.args.sums.now) is,
            (c.requires.room k few).1,
          ),
    )

pub pass_two-requires-else-at-at_second-clause-sums : goal.pass_two-requires-else-at-at_second-clause-sums
pass_two-requires-else-at-at_second-clause-sums c =
    let n : ℕ = length c.args.last.now in
    let lw : length c.split_at_mut-lower.result.0.now ≡ n = c.split_at_mut-lower.ensures.front_len in (
      omega (arith, lw, c.requires.last.whole),
      λ k h.
          let few : k < n = omega (arith, h, lw) in
          let is : c.min.result + n + k ≡ c.args.at + k = omega (arith, c.min.ensures, c.requires.beside, c.if-at-at_second.false) in
          omega (
            arith,
            later_was c.args.sums.now c.split_at_mut-rest.result.1.now c.split_at_mut-upper.result.1.now c.split_at_mut-lower.result.0.now c.min.result n k
                c.split_at_mut-rest.ensures.back c.split_at_mut-upper.ensures.back c.split_at_mut-lower.ensures.front few,
            ap (slice_index c.args.sums.now) is,
            (c.requires.room k few).0,
          ),
    )
