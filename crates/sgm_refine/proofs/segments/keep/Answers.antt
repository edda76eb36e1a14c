use Rattle.std.proofs.Common.{◌<◌, ◌≤◌, length, subst, sym, ◌∙◌, refl, arith}
use Rattle.std.specs.List.{Contains}
use Rattle.sgm_refine.proofs.Floods.{found_inside, keeping_next, removed_here, kept_here}
use Rattle.sgm_refine.proofs.segments.keep.Goals as goal

pub clear-requires : goal.clear-requires
clear-requires c = record {
  inside = λ k d. omega (
    arith,
    c.requires.keeping.full,
    found_inside c.args.pixels.now.width c.args.pixels.now.entries.now c.args.at c.args.seen.now c.flood.new.seen c.flood.new.segment.items
        c.in_ok-flood.ensures.flooding k (subst (λ v. Contains v k) c.deref.ensures.value d),
  );
}

pub returns-then-len-least-clause-keeping : goal.returns-then-len-least-clause-keeping
returns-then-len-least-clause-keeping c =
    let few : length c.flood.new.segment.items < c.args.least = omega arith in
    keeping_next c.args.pixels.now.width c.args.pixels.now.entries.now c.args.least c.args.at c.args.seen.now c.flood.new.seen c.flood.new.segment.items c.args.kept.now c.clear.new.kept
    c.requires.keeping c.in_ok-flood.ensures c.clear.auto.kept
    (λ k d. c.clear.ensures.cleared k (subst (λ v. Contains v k) (sym c.deref.ensures.value) d)
    ∙ sym (removed_here c.args.pixels.now.width c.args.pixels.now.entries.now c.args.least c.args.at c.args.seen.now c.flood.new.seen c.flood.new.segment.items c.in_ok-flood.ensures few k d))
    (λ k no. c.clear.ensures.others k (λ d. no (subst (λ v. Contains v k) c.deref.ensures.value d)))

pub returns-then-len-least-clause-here : goal.returns-then-len-least-clause-here
returns-then-len-least-clause-here c = c.in_ok-flood.ensures.flooding.entered c.args.at c.in_ok-flood.ensures.first

pub returns-else-len-least-clause-keeping : goal.returns-else-len-least-clause-keeping
returns-else-len-least-clause-keeping c =
    let many : c.args.least ≤ length c.flood.new.segment.items = omega arith in
    keeping_next c.args.pixels.now.width c.args.pixels.now.entries.now c.args.least c.args.at c.args.seen.now c.flood.new.seen c.flood.new.segment.items c.args.kept.now c.args.kept.now
    c.requires.keeping c.in_ok-flood.ensures refl
    (kept_here c.args.pixels.now.width c.args.pixels.now.entries.now c.args.least c.args.at c.args.seen.now c.flood.new.seen c.flood.new.segment.items c.args.kept.now c.requires.keeping c.in_ok-flood.ensures many)
    (λ k no. refl)

pub returns-else-len-least-clause-here : goal.returns-else-len-least-clause-here
returns-else-len-least-clause-here c = c.in_ok-flood.ensures.flooding.entered c.args.at c.in_ok-flood.ensures.first
