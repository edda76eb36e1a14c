use Rattle.std.proofs.Common.{ℕ, length, ◌≤◌, sym, subst, arith}
use Rattle.std.proofs.lemmas.List.{get_or-take}
use Rattle.std.proofs.lemmas.List.Elements.{All-take, All-append, All-from_get_or}
use Rattle.std.specs.List.{All}
use Rattle.sgm_census.proofs.SmoothCosts.{cut_twice, inside_is, replaced_outside, rest_all, cells_all}
use Rattle.sgm_census.proofs.cost.smooth_at.Goals as goal

pub smooth-requires-clause-after_small : goal.smooth-requires-clause-after_small
smooth-requires-clause-after_small c =
    let count = length c.args.before.now in
    let front = c.split_at_mut-rest.ensures in
    let back = c.split_at_mut-cells.ensures in
    let parts = cut_twice c.args.costs.now _ _ _ _ c.args.at count front.front front.front_len front.back back.front back.back in
    All-take (λ v. v ≤ 62) count c.split_at_mut-cells.result.1.now (rest_all (λ v. v ≤ 62) _ _ _ _ c.args.at count parts c.requires.small)

pub returns-clause-inside : goal.returns-clause-inside
returns-clause-inside c d h =
    let count = length c.args.before.now in
    let front = c.split_at_mut-rest.ensures in
    let back = c.split_at_mut-cells.ensures in
    let parts = cut_twice c.args.costs.now _ _ _ _ c.args.at count front.front front.front_len front.back back.front back.back in
    inside_is c.args.costs.now c.args.before.now _ _ _ c.smooth.new.cells c.args.at count d parts (omega arith) h (c.smooth.ensures.each d (omega arith))

pub returns-clause-outside : goal.returns-clause-outside
returns-clause-outside c k h =
    let count = length c.args.before.now in
    let front = c.split_at_mut-rest.ensures in
    let back = c.split_at_mut-cells.ensures in
    let parts = cut_twice c.args.costs.now _ _ _ _ c.args.at count front.front front.front_len front.back back.front back.back in
    replaced_outside c.args.costs.now _ _ c.smooth.new.cells _ c.args.at count k parts (omega arith) h

pub returns-clause-before_small : goal.returns-clause-before_small
returns-clause-before_small c =
    let count = length c.args.before.now in
    let front = c.split_at_mut-rest.ensures in
    let back = c.split_at_mut-cells.ensures in
    let parts = cut_twice c.args.costs.now _ _ _ _ c.args.at count front.front front.front_len front.back back.front back.back in
    let all = cells_all (λ v. v ≤ 62) _ _ _ _ c.args.at count parts c.requires.small in
    All-from_get_or (λ v. v ≤ 62) c.smooth.new.before 0 (λ k h. omega (arith, c.smooth.ensures.kept k h, all k 0 (omega arith)))

pub returns-clause-small : goal.returns-clause-small
returns-clause-small c =
    let P : ℕ → Type 0 = λ v. v ≤ 62 in
    let count = length c.args.before.now in
    let front = c.split_at_mut-rest.ensures in
    let back = c.split_at_mut-cells.ensures in
    let parts = cut_twice c.args.costs.now _ _ _ _ c.args.at count front.front front.front_len front.back back.front back.back in
    let cells = cells_all P _ _ _ _ c.args.at count parts c.requires.small in
    let after = rest_all P _ _ _ _ c.args.at count parts c.requires.small in
    let first : All P c.split_at_mut-rest.result.0.now = subst (All P) (sym front.front) (All-take P c.args.at c.args.costs.now c.requires.small) in
    let new : All P c.smooth.new.cells = All-from_get_or P c.smooth.new.cells 0
    (λ k h. omega (
      arith,
      c.smooth.ensures.each k h,
      c.requires.before_small k 0 (omega arith),
      cells k 0 (omega arith),
      get_or-take count c.split_at_mut-cells.result.1.now k 0 (omega arith),
      after k 0 (omega (arith, back.back_len, front.back_len)),
    )) in
    All-append P c.split_at_mut-rest.result.0.now _ first (All-append P c.smooth.new.cells c.split_at_mut-cells.result.1.now new after)
