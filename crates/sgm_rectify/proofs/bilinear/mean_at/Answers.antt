use Rattle.std.proofs.Common.{◌≡◌, ℕ, ◌-◌, ◌*◌, Option, Some, None, ℤ, pos, ◌+ℤ◌, ◌≤ℤ◌, FitsSigned, w64, to_z, of_z, sym, ap, ◌∙◌, arith}
use Rattle.std.proofs.lemmas.Int.{ints}
use Rattle.sgm_rectify.specs.Bilinear.{sample_at, weighted, mean_at}
use Rattle.sgm_rectify.proofs.Means.{mean_of, mean_of-second, mean_of-third, mean_of-fourth, mean_of-all, ap_mean, ap_weighted, weights}
use Rattle.sgm_rectify.proofs.bilinear.mean_at.Goals as goal

-- the numbers that the code computes
same : (z : ℤ) → z ≤ℤ pos 36028797018963968 → FitsSigned w64 z → to_z w64 (of_z w64 z) ≡ z
same z h f = omega (arith, ints)

next : (z : ℤ) → z ≤ℤ pos 36028797018963968 → FitsSigned w64 z → to_z w64 (of_z w64 (to_z w64 (of_z w64 z) +ℤ pos 1)) ≡ z +ℤ pos 1
next z h f = omega (arith, ints)

-- a sum in which a part is missing
second_missing : (a b c d : Option ℕ) → None ≡ b → None ≡ mean_of a b c d
second_missing a b c d e = sym (ap (λ o. mean_of a o c d) (sym e) ∙ mean_of-second a c d)

third_missing : (a b c d : Option ℕ) → None ≡ c → None ≡ mean_of a b c d
third_missing a b c d e = sym (ap (λ o. mean_of a b o d) (sym e) ∙ mean_of-third a b d)

fourth_missing : (a b c d : Option ℕ) → None ≡ d → None ≡ mean_of a b c d
fourth_missing a b c d e = sym (ap (λ o. mean_of a b c o) (sym e) ∙ mean_of-fourth a b c)

first_missing : (a b c d : Option ℕ) → None ≡ a → None ≡ mean_of a b c d
first_missing a b c d e = ap (λ o. mean_of o b c d) e

pub returns-in_err-first : goal.returns-in_err-first
unfolding mean_at
returns-in_err-first c =
    let at : ℕ → ℤ → ℤ → Option ℕ = λ w x y. weighted w (sample_at c.args.image.now x y) in
    let i = c.args.i in let j = c.args.j in let right = c.args.right in let down = c.args.down in
    let i0 = same i c.requires.i c.ranges.i in let j0 = same j c.requires.j c.ranges.j in
    c.from_residual.ensures
    ∙ first_missing (at ((256 - right) * (256 - down)) i j) (at (right * (256 - down)) (i +ℤ pos 1) j) (at ((256 - right) * down) i (j +ℤ pos 1)) (at (right * down) (i +ℤ pos 1) (j +ℤ pos 1))
    (c.in_err-first.ensures.value ∙ ap_weighted c.args.image.now ((256 - right) * (256 - down)) i0 j0)

pub returns-in_err-second : goal.returns-in_err-second
unfolding mean_at
returns-in_err-second c =
    let at : ℕ → ℤ → ℤ → Option ℕ = λ w x y. weighted w (sample_at c.args.image.now x y) in
    let i = c.args.i in let j = c.args.j in let right = c.args.right in let down = c.args.down in
    let i1 = next i c.requires.i c.ranges.i in let j0 = same j c.requires.j c.ranges.j in
    c.from_residual-in_err-second.ensures
    ∙ second_missing (at ((256 - right) * (256 - down)) i j) (at (right * (256 - down)) (i +ℤ pos 1) j) (at ((256 - right) * down) i (j +ℤ pos 1)) (at (right * down) (i +ℤ pos 1) (j +ℤ pos 1))
    (c.in_err-second.ensures.value ∙ ap_weighted c.args.image.now (right * (256 - down)) i1 j0)

pub returns-in_err-third : goal.returns-in_err-third
unfolding mean_at
returns-in_err-third c =
    let at : ℕ → ℤ → ℤ → Option ℕ = λ w x y. weighted w (sample_at c.args.image.now x y) in
    let i = c.args.i in let j = c.args.j in let right = c.args.right in let down = c.args.down in
    let i0 = same i c.requires.i c.ranges.i in let j1 = next j c.requires.j c.ranges.j in
    c.from_residual-in_err-third.ensures
    ∙ third_missing (at ((256 - right) * (256 - down)) i j) (at (right * (256 - down)) (i +ℤ pos 1) j) (at ((256 - right) * down) i (j +ℤ pos 1)) (at (right * down) (i +ℤ pos 1) (j +ℤ pos 1))
    (c.in_err-third.ensures.value ∙ ap_weighted c.args.image.now ((256 - right) * down) i0 j1)

pub returns-in_err-fourth : goal.returns-in_err-fourth
unfolding mean_at
returns-in_err-fourth c =
    let at : ℕ → ℤ → ℤ → Option ℕ = λ w x y. weighted w (sample_at c.args.image.now x y) in
    let i = c.args.i in let j = c.args.j in let right = c.args.right in let down = c.args.down in
    let i1 = next i c.requires.i c.ranges.i in let j1 = next j c.requires.j c.ranges.j in
    c.from_residual-in_err-fourth.ensures
    ∙ fourth_missing (at ((256 - right) * (256 - down)) i j) (at (right * (256 - down)) (i +ℤ pos 1) j) (at ((256 - right) * down) i (j +ℤ pos 1)) (at (right * down) (i +ℤ pos 1) (j +ℤ pos 1))
    (c.in_err-fourth.ensures.value ∙ ap_weighted c.args.image.now (right * down) i1 j1)

pub overflow_add-first : goal.overflow_add-first
overflow_add-first c =
    omega (arith, weights (256 - c.args.right) c.args.right (256 - c.args.down) c.args.down (omega arith) (omega arith), c.in_ok-first.ensures.most, c.in_ok-second.ensures.most)

pub overflow_add-first-2 : goal.overflow_add-first-2
overflow_add-first-2 c =
    omega (arith, weights (256 - c.args.right) c.args.right (256 - c.args.down) c.args.down (omega arith) (omega arith), c.in_ok-first.ensures.most, c.in_ok-second.ensures.most, c.in_ok-third.ensures.most)

pub overflow_add-first-3 : goal.overflow_add-first-3
overflow_add-first-3 c =
    omega (arith, weights (256 - c.args.right) c.args.right (256 - c.args.down) c.args.down (omega arith) (omega arith), c.in_ok-first.ensures.most, c.in_ok-second.ensures.most, c.in_ok-third.ensures.most, c.in_ok-fourth.ensures.most)

pub mean-requires : goal.mean-requires
mean-requires c =
    omega (arith, weights (256 - c.args.right) c.args.right (256 - c.args.down) c.args.down (omega arith) (omega arith), c.in_ok-first.ensures.most, c.in_ok-second.ensures.most, c.in_ok-third.ensures.most, c.in_ok-fourth.ensures.most)

pub returns : goal.returns
unfolding mean_at
returns c =
    let right = c.args.right in let down = c.args.down in
    let image = c.args.image.now in
    let i0 = same c.args.i c.requires.i c.ranges.i in let j0 = same c.args.j c.requires.j c.ranges.j in
    let i1 = next c.args.i c.requires.i c.ranges.i in let j1 = next c.args.j c.requires.j c.ranges.j in
    ap (λ n. Some n) c.mean.ensures
    ∙ sym (mean_of-all c.in_ok-first.first c.in_ok-second.second c.in_ok-third.third c.in_ok-fourth.fourth)
    ∙ ap_mean
    (c.in_ok-first.ensures.value ∙ ap_weighted image ((256 - right) * (256 - down)) i0 j0)
    (c.in_ok-second.ensures.value ∙ ap_weighted image (right * (256 - down)) i1 j0)
    (c.in_ok-third.ensures.value ∙ ap_weighted image ((256 - right) * down) i0 j1)
    (c.in_ok-fourth.ensures.value ∙ ap_weighted image (right * down) i1 j1)
