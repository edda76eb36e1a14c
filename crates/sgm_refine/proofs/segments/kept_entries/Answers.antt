use Rattle.std.proofs.Common.{◌∙◌, ap, arith, rules, false, get_or}
use Rattle.std.proofs.lemmas.List.{with_items_is}
use Rattle.std.proofs.lemmas.Result.{IfOk-from_err}
use Rattle.sgm_refine.proofs.Floods.{through_start, through_next, keeping_end}
use Rattle.sgm_refine.proofs.segments.kept_entries.Goals as goal

pub loop-at-init : goal.loop-at-init
loop-at-init c =
    through_start c.args.pixels.now.width c.args.pixels.now.entries.now c.args.least c.in_ok-seen.seen.items c.in_ok-kept.kept.items
    (c.in_ok-seen.ensures.items_if_clones_equal (λ y e. e))
    (c.in_ok-kept.ensures.items_if_clones_equal (λ x y e. search rules))

pub loop-at-preserved : goal.loop-at-preserved
loop-at-preserved c =
    let w = c.args.pixels.now.width in
    let es = c.args.pixels.now.entries.now in
    rw (
      with_items_is c.loop-at.seen c.keep.new.seen (omega (arith, c.keep.auto.seen, c.deref_mut.ensures.len)),
      with_items_is c.loop-at.kept c.keep.new.kept (omega (arith, c.keep.auto.kept, c.deref_mut-in-loop-at.ensures.len)),
    )
    (through_next w es c.args.least c.loop-at.seen.items c.keep.new.seen c.loop-at.kept.items c.keep.new.kept c.loop-at.at c.loop-at.invariant
    c.in_ok-keep.ensures.keeping (λ k m. c.in_ok-keep.ensures.stays k (ap (λ v. get_or v k false) c.deref_mut.ensures.value ∙ m)) c.in_ok-keep.ensures.here)

pub returns-in_err-keep : goal.returns-in_err-keep
returns-in_err-keep c = IfOk-from_err c.from_residual-in_err-keep.result _ c.from_residual-in_err-keep.ensures.0

pub returns : goal.returns
returns c =
    keeping_end c.args.pixels.now.width c.args.pixels.now.entries.now c.args.least c.loop-at.seen.items c.loop-at.kept.items c.loop-at.invariant.keeping
    (λ k l. c.loop-at.invariant.before k (omega arith))
