use Rattle.std.proofs.Common.{◌≡◌, ◌≤◌, ◌∙◌, sym, ap, subst, arith, slice_index, None, zero-add}
use Rattle.std.proofs.lemmas.List.Elements.{All-from_get_or}
use Rattle.std.specs.Prelude.{MatchOption, IfNone, EachIndex}
use Rattle.sgm_energy.specs.Pens.{penalties_of}
use Rattle.sgm_energy.specs.Rays.{row_before}
use Rattle.sgm_path.specs.Paths.{far_between, far_in, HoldsRowBefore, RowTerms, terms_of}
use Rattle.sgm_path.proofs.PathRows.{paths_alone}
use Rattle.sgm_path.proofs.Sweeps.{across_paths, follows_of}
use Rattle.sgm_path.proofs.step.step_row.Goals as goal

pub returns-then-is_adaptive-clause-paths : goal.returns-then-is_adaptive-clause-paths
returns-then-is_adaptive-clause-paths c g y s w =
    let dir = c.args.dir in
    let t : RowTerms = record {
      dir = dir;
      penalties = penalties_of c.args.pen;
      costs = c.args.costs.now;
      guide = c.args.guide.now;
      guide_before = c.args.guide_before.now;
      count = c.args.count;
    } in
    let first = c.copy_from_slice.new.self in
    let values = c.sweep.new.values in
    let b = subst (λ o. MatchOption o (row_before dir g.height y ≡ None) (λ r. HoldsRowBefore g dir y (far_in t) r.now)) c.in-Some.is w in
    across_paths g y t first values s (subst (HoldsRowBefore g dir y (far_in t)) (sym c.copy_from_slice.ensures.after) b)
    c.args.pen.ordered (omega (arith, c.requires.costs.0))
    (omega (arith, c.sweep.auto.values, c.copy_from_slice.auto.self, c.requires.same_length)) c.requires.across
    (follows_of (terms_of c.make-row.result) t first values c.make-row.ensures c.sweep.ensures.each)

pub returns-else-is_adaptive-clause-paths : goal.returns-else-is_adaptive-clause-paths
returns-else-is_adaptive-clause-paths c g y s w =
    let dir = c.args.dir in
    let t : RowTerms = record {
      dir = dir;
      penalties = penalties_of c.args.pen;
      costs = c.args.costs.now;
      guide = c.args.guide.now;
      guide_before = c.args.guide_before.now;
      count = c.args.count;
    } in
    let first = c.copy_from_slice.new.self in
    let values = c.sweep-else-is_adaptive.new.values in
    let b = subst (λ o. MatchOption o (row_before dir g.height y ≡ None) (λ r. HoldsRowBefore g dir y (far_in t) r.now)) c.in-Some.is w in
    across_paths g y t first values s (subst (HoldsRowBefore g dir y (far_in t)) (sym c.copy_from_slice.ensures.after) b)
    c.args.pen.ordered (omega (arith, c.requires.costs.0))
    (omega (arith, c.sweep-else-is_adaptive.auto.values, c.copy_from_slice.auto.self, c.requires.same_length)) c.requires.across
    (follows_of (terms_of c.make-row.result) t first values c.make-row.ensures c.sweep-else-is_adaptive.ensures.each)

pub returns-in-None-clause-bound : goal.returns-in-None-clause-bound
returns-in-None-clause-bound c =
    All-from_get_or (λ v. v ≤ 4062) c.begin.new.values 0
    (λ k h. omega (arith, ap (slice_index c.begin.new.values) (zero-add k), c.begin.ensures.bound k (omega (arith, h, c.begin.auto.values))))

pub returns-in-None-clause-costs_alone : goal.returns-in-None-clause-costs_alone
returns-in-None-clause-costs_alone c =
    let values = c.begin.new.values in
    subst (λ o. IfNone o (EachIndex values (λ k. slice_index values k ≡ slice_index c.args.costs.now k))) (sym c.in-None.is)
    (λ k h. ap (slice_index values) (sym (zero-add k)) ∙ c.begin.ensures.each k (omega (arith, h, c.begin.auto.values)) ∙ ap (slice_index c.args.costs.now) (zero-add k))

pub returns-in-None-clause-paths : goal.returns-in-None-clause-paths
returns-in-None-clause-paths c g y s w =
    let dir = c.args.dir in
    let pen = penalties_of c.args.pen in
    let values = c.begin.new.values in
    let far = far_between pen c.args.guide.now c.args.guide_before.now in
    let e = subst (λ o. MatchOption o (row_before dir g.height y ≡ None) (λ r. HoldsRowBefore g dir y far r.now)) c.in-None.is w in
    paths_alone g dir y pen.p1 c.args.count c.args.costs.now values s (omega (arith, c.begin.auto.values, c.requires.same_length)) e
    (λ k h. ap (slice_index values) (sym (zero-add k)) ∙ c.begin.ensures.each k (omega (arith, h, c.begin.auto.values)) ∙ ap (slice_index c.args.costs.now) (zero-add k))
