use Rattle.std.proofs.Common.{◌≤◌, sym, subst, arith}
use Rattle.std.proofs.lemmas.Int.{ints}
use Rattle.sgm_report.specs.Sums.{most_apart}
use Rattle.sgm_report.proofs.Counted.{above-le, below-le}
use Rattle.sgm_change.proofs.Counted.{code_fall, code_rise, room_after, with_both}
use Rattle.sgm_change.proofs.compare.Counts.with_both.Goals as goal

pub returns-clause-value : goal.returns-clause-value
returns-clause-value c = λ cells e.
    with_both cells c.args.self c.args.earlier c.args.later _ _ e
    (code_rise c.args.earlier c.args.later c.max.result c.requires.earlier c.requires.later c.max.ensures.value)
    (code_fall c.args.earlier c.args.later c.max-2.result c.requires.earlier c.requires.later c.max-2.ensures.value)

pub returns-clause-room : goal.returns-clause-room
returns-clause-room c = λ left room.
    room_after c.args.self _ _ left
    (subst (λ n. n ≤ most_apart) (sym (code_rise c.args.earlier c.args.later c.max.result c.requires.earlier c.requires.later c.max.ensures.value)) (above-le c.args.earlier c.args.later c.requires.later c.requires.earlier))
    (subst (λ n. n ≤ most_apart) (sym (code_fall c.args.earlier c.args.later c.max-2.result c.requires.earlier c.requires.later c.max-2.ensures.value)) (below-le c.args.earlier c.args.later c.requires.later c.requires.earlier))
    room

pub overflow_sub-over-2 : goal.overflow_sub-over-2
overflow_sub-over-2 c = omega (arith, ints, c.requires.earlier.0, c.requires.earlier.1, c.requires.later.0, c.requires.later.1)
