use Rattle.std.proofs.Common.{arith}
use Rattle.std.proofs.lemmas.Int.{ints}
use Rattle.sgm_fine.proofs.Rights.{between_kept, half_small, later_kept, sooner_kept, step_kept}
use Rattle.sgm_fine.proofs.samples.rights_of.Goals as goal

pub overflow_cast-result : goal.overflow_cast-result
overflow_cast-result c =
    let s = c.requires.samples in
    let after = between_kept _ c.args.second c.args.third c.args.f s.1 s.2 c.requires.part c.mixed-after.ensures.value in
    omega (arith, ints, after.0, after.1)

pub overflow_cast-result-2 : goal.overflow_cast-result-2
overflow_cast-result-2 c =
    let s = c.requires.samples in
    let part = c.requires.part in
    let before = between_kept _ c.args.first c.args.second c.args.f s.0 s.1 part c.mixed-before.ensures.value in
    let after = between_kept _ c.args.second c.args.third c.args.f s.1 s.2 part c.mixed-after.ensures.value in
    let small = half_small _ c.args.first c.args.second c.args.third c.args.f (λ lt. sooner_kept _ _ _ _ _ s.0 s.1 lt before (c.halfway.ensures.sooner lt))
    (λ ge. later_kept _ _ _ _ _ s.1 s.2 ge part after (c.halfway.ensures.later ge)) in
    omega (arith, ints, small.0, small.1)

pub overflow_cast-result-3 : goal.overflow_cast-result-3
overflow_cast-result-3 c =
    let s = c.requires.samples in
    let before = between_kept _ c.args.first c.args.second c.args.f s.0 s.1 c.requires.part c.mixed-before.ensures.value in
    omega (arith, ints, before.0, before.1)

pub halfway-requires-clause-steps : goal.halfway-requires-clause-steps
halfway-requires-clause-steps c =
    let s = c.requires.samples in
    let step = step_kept c.args.first c.args.second s.0 s.1 in
    let next = step_kept c.args.second c.args.third s.1 s.2 in
    ((omega (arith, ints, step, s.0, s.1), omega (arith, ints, step, s.0, s.1)), (omega (arith, ints, next, s.1, s.2), omega (arith, ints, next, s.1, s.2)))

pub returns-clause-after : goal.returns-clause-after
returns-clause-after c =
    let s = c.requires.samples in
    let after = between_kept _ c.args.second c.args.third c.args.f s.1 s.2 c.requires.part c.mixed-after.ensures.value in
    omega (arith, ints, after.0, after.1)

pub returns-clause-before : goal.returns-clause-before
returns-clause-before c =
    let s = c.requires.samples in
    let before = between_kept _ c.args.first c.args.second c.args.f s.0 s.1 c.requires.part c.mixed-before.ensures.value in
    omega (arith, ints, before.0, before.1)

pub returns-clause-sooner : goal.returns-clause-sooner
returns-clause-sooner c = λ lt.
    let s = c.requires.samples in
    let before = between_kept _ c.args.first c.args.second c.args.f s.0 s.1 c.requires.part c.mixed-before.ensures.value in
    let is = sooner_kept _ _ _ _ _ s.0 s.1 lt before (c.halfway.ensures.sooner lt) in
    omega (arith, ints, is.0, is.1)

pub returns-clause-later : goal.returns-clause-later
returns-clause-later c = λ ge.
    let s = c.requires.samples in
    let after = between_kept _ c.args.second c.args.third c.args.f s.1 s.2 c.requires.part c.mixed-after.ensures.value in
    let is = later_kept _ _ _ _ _ s.1 s.2 ge c.requires.part after (c.halfway.ensures.later ge) in
    omega (arith, ints, is.0, is.1)

pub returns-clause-small : goal.returns-clause-small
returns-clause-small c =
    let s = c.requires.samples in
    let part = c.requires.part in
    let before = between_kept _ c.args.first c.args.second c.args.f s.0 s.1 part c.mixed-before.ensures.value in
    let after = between_kept _ c.args.second c.args.third c.args.f s.1 s.2 part c.mixed-after.ensures.value in
    let small = half_small _ c.args.first c.args.second c.args.third c.args.f (λ lt. sooner_kept _ _ _ _ _ s.0 s.1 lt before (c.halfway.ensures.sooner lt))
    (λ ge. later_kept _ _ _ _ _ s.1 s.2 ge part after (c.halfway.ensures.later ge)) in
    record { after = omega (arith, ints, after.0, after.1); here = omega (arith, ints, small.0, small.1); before = omega (arith, ints, before.0, before.1) }
