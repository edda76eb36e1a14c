use Rattle.std.proofs.Common.{◌≡◌, ◌<◌, true, length, get_or, subst, sym, ◌∙◌, arith}
use Rattle.std.proofs.lemmas.List.{get_or_default}
use Rattle.std.proofs.lemmas.List.Elements.{Contains-get_or}
use Rattle.sgm_refine.specs.Flooding.{Enters}
use Rattle.sgm_refine.specs.Segments.{is_linked}
use Rattle.sgm_refine.proofs.Floods.{visiting_start, visiting_next, visiting_end, found_inside}
use Rattle.sgm_refine.proofs.segments.flood.Goals as goal

pub loop-next-init : goal.loop-next-init
loop-next-init c =
    rw (c.in_ok-push.ensures.items, c.clear.ensures.items)
    (visiting_start c.args.pixels.now.width c.args.pixels.now.entries.now c.args.from c.args.seen.now c.requires.whole c.requires.inside c.requires.fresh)

pub visit-requires-clause-inside : goal.visit-requires-clause-inside
visit-requires-clause-inside c =
    let here : c.loop-next.next < length c.loop-next.segment.items = omega arith in
    let there = found_inside c.args.pixels.now.width c.args.pixels.now.entries.now c.args.from c.args.seen.now c.loop-next.seen c.loop-next.segment.items c.loop-next.invariant.flooding
    (get_or c.loop-next.segment.items c.loop-next.next 0) (Contains-get_or c.loop-next.segment.items c.loop-next.next 0 here) in
    let at : c.index.result.now ≡ get_or c.loop-next.segment.items c.loop-next.next 0 =
    c.index.ensures ∙ get_or_default c.loop-next.segment.items c.loop-next.next c.index.result.now 0 here in
    omega (arith, at, there)

pub loop-next-preserved : goal.loop-next-preserved
loop-next-preserved c =
    let here : c.loop-next.next < length c.loop-next.segment.items = omega arith in
    let at : c.index.result.now ≡ get_or c.loop-next.segment.items c.loop-next.next 0 =
    c.index.ensures ∙ get_or_default c.loop-next.segment.items c.loop-next.next c.index.result.now 0 here in
    visiting_next c.args.pixels.now.width c.args.pixels.now.entries.now c.args.from c.args.seen.now c.loop-next.seen c.visit.new.seen c.loop-next.segment.items c.visit.new.segment.items c.loop-next.next
    c.loop-next.invariant here
    (subst (λ v. Enters c.args.pixels.now.width c.args.pixels.now.entries.now v c.loop-next.seen c.visit.new.seen c.loop-next.segment.items c.visit.new.segment.items) at c.in_ok-visit.ensures.enters)
    (λ k t. c.in_ok-visit.ensures.all k (subst (λ v. is_linked c.args.pixels.now.width c.args.pixels.now.entries.now v k ≡ true) (sym at) t))

pub returns : goal.returns
returns c =
    visiting_end c.args.pixels.now.width c.args.pixels.now.entries.now c.args.from c.args.seen.now c.loop-next.seen c.loop-next.segment.items c.loop-next.next c.loop-next.invariant
    (omega arith) c.requires.closed c.requires.whole
