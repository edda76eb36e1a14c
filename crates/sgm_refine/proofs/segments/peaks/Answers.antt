use Rattle.std.proofs.Common.{ap, sym, arith}
use Rattle.std.proofs.lemmas.Bool.{false≢true}
use Rattle.sgm_base.specs.Sides.{Sides}
use Rattle.sgm_refine.proofs.Kept.{all_kept, kept_is, kept_full}
use Rattle.sgm_refine.proofs.segments.peaks.Goals as goal

pub returns-then-least-le1-clause-kept : goal.returns-then-least-le1-clause-kept
returns-then-least-le1-clause-kept c = sym (all_kept c.args.map.now c.args.least c.size-size.ensures.kept (omega arith))

pub returns-clause-kept : goal.returns-clause-kept
returns-clause-kept c =
    kept_is c.args.map.now c.in-Some.kept c.args.least c.size-size.result.width c.size-size.result.height c.size.inside.width c.entries.result.now c.in_ok-entries.entries.items
    c.size-size.ensures.width c.size-size.ensures.height (ap (λ (s : Sides). s.width) c.size.view_is) c.entries.ensures c.in_ok-entries.ensures c.in-Some.ensures.made

pub unreachable-requires : goal.unreachable-requires
unreachable-requires c =
    false≢true (c.in_default.ensures.exact.1
    (kept_full c.args.map.now c.args.least c.size-size.result.width c.size-size.result.height c.size.inside.width c.entries.result.now c.in_ok-entries.entries.items
    c.size-size.ensures.kept c.size-size.ensures.width c.size-size.ensures.height c.entries.ensures c.in_ok-entries.ensures))
