use Rattle.std.proofs.Common.{inl, inr}
use Rattle.sgm_refine.proofs.Chains.{linked_inside, linked_parts, neighbour_cases}
use Rattle.sgm_refine.proofs.Floods.{enters_then}
use Rattle.sgm_refine.proofs.segments.visit.Goals as goal

pub returns-clause-enters : goal.returns-clause-enters
returns-clause-enters c =
    let one = c.in_ok-enter.ensures.enters c.args.pixels.now.width c.left.ensures.neighbour in
    let two = enters_then _ _ _ _ _ _ _ _ _ one (c.in_ok-enter-2.ensures.enters c.args.pixels.now.width c.right.ensures.neighbour) in
    let three = enters_then _ _ _ _ _ _ _ _ _ two (c.in_ok-enter-3.ensures.enters c.args.pixels.now.width c.above.ensures.neighbour) in
    enters_then _ _ _ _ _ _ _ _ _ three (c.in_ok-enter-4.ensures.enters c.args.pixels.now.width c.below.ensures.neighbour)

pub returns-clause-all : goal.returns-clause-all
returns-clause-all c = λ k t.
    let parts = linked_parts c.args.pixels.now.width c.args.pixels.now.entries.now c.args.at k t in
    let inside = linked_inside c.args.pixels.now.width c.args.pixels.now.entries.now c.args.at k t in
    let two = c.in_ok-enter-2.ensures.enters c.args.pixels.now.width c.right.ensures.neighbour in
    let three = c.in_ok-enter-3.ensures.enters c.args.pixels.now.width c.above.ensures.neighbour in
    let four = c.in_ok-enter-4.ensures.enters c.args.pixels.now.width c.below.ensures.neighbour in
    elim (neighbour_cases c.args.pixels.now.width c.args.at k parts.0) [
      | inl after ↦ elim after [
        | inl row ↦ four.stays k (three.stays k (c.in_ok-enter-2.ensures.close k (c.right.ensures.found k inside row.0 row.1) parts.1))
        | inr column ↦ c.in_ok-enter-4.ensures.close k (c.below.ensures.found k inside column) parts.1
      ]
      | inr before ↦ elim before [
        | inl row ↦ four.stays k (three.stays k (two.stays k (c.in_ok-enter.ensures.close k (c.left.ensures.found k row.0 row.1) parts.1)))
        | inr column ↦ four.stays k (c.in_ok-enter-3.ensures.close k (c.above.ensures.found k column) parts.1)
      ]
    ]
