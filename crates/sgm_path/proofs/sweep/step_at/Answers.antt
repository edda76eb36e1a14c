use Rattle.std.proofs.Common.{◌≡◌, ℕ, ◌+◌, ◌*◌, slice_index, subst, arith}
use Rattle.sgm_energy.specs.Pens.{penalties_of}
use Rattle.sgm_path.specs.Paths.{Follows, terms_of}
use Rattle.sgm_path.proofs.Sweeps.{entry_follows}
use Rattle.sgm_path.proofs.sweep.step_at.Goals as goal

pub returns-then-z-x-clause-follows : goal.returns-then-z-x-clause-follows
returns-then-z-x-clause-follows g c =
    let follows = c.from_left.ensures.follows in (
      follows.0,
      λ d h. entry_follows (terms_of c.args.row.now) c.args.values.now c.args.x c.in-Some.z d _ c.far_at-far.result c.far_at-far.ensures.value
          c.in-Some.ensures.value (follows.1 d h),
    )

pub returns-then-x-z-clause-follows : goal.returns-then-x-z-clause-follows
returns-then-x-z-clause-follows g c =
    let follows = c.from_right.ensures.follows in (
      follows.0,
      λ d h. entry_follows (terms_of c.args.row.now) c.args.values.now c.args.x c.in-Some.z d _ c.far_at-far.result c.far_at-far.ensures.value
          c.in-Some.ensures.value (follows.1 d h),
    )

pub returns-else-x-z-clause-follows : goal.returns-else-x-z-clause-follows
returns-else-x-z-clause-follows g c =
    let row = c.args.row.now in
    let same : c.args.x ≡ c.in-Some.z = omega (arith, c.if-z-x.false, c.if-x-z.false) in
    let follows = c.from_itself.ensures.follows in (
      follows.0,
      λ d h.
          let value : ℕ = slice_index c.from_itself.new.values (c.args.x * row.count + d) in
          entry_follows (terms_of row) c.args.values.now c.args.x c.in-Some.z d value c.far_at-far.result c.far_at-far.ensures.value
          c.in-Some.ensures.value
          (subst (λ n. Follows (λ a. slice_index c.args.values.now (n * row.count + a)) row.count (penalties_of row.pen).p1 c.far_at-far.result (slice_index row.costs.now (c.args.x * row.count + d)) d value) same
          (follows.1 d h)),
    )
