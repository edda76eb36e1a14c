use Rattle.std.proofs.Common.{◌≡◌, ℕ, ◌+◌, ◌-◌, ◌≤◌, ◌∙◌, length, ap, sym, subst, arith}
use Rattle.std.specs.Prelude.{All}
use Rattle.std.proofs.lemmas.List.{with_items_is}
use Rattle.std.proofs.lemmas.List.Elements.{All-nil}
use Rattle.sgm_base.specs.declared.limits.TheConstants.{MAX_COST}
use Rattle.sgm_energy.specs.declared.dir.Dir.TheVariants.{Right, Left}
use Rattle.sgm_energy.specs.Energies.{path_value}
use Rattle.sgm_strip.specs.Scenes.{problem_of}
use Rattle.sgm_strip.specs.Volumes.{HoldsRows}
use Rattle.sgm_strip.proofs.Rows.{rows_none, rows_more}
use Rattle.sgm_strip.proofs.making.strip_rows.Goals as goal

pub loop-y-init : goal.loop-y-init
loop-y-init c =
    let g = problem_of c.args.scene.now in
    let n : ℕ = c.args.top - c.args.top in
    let none : n ≡ 0 = omega arith in
    record {
      spare = sym c.in_ok-spare.spare.ok.0 ∙ c.in_ok-spare.ensures.len ∙ c.row_length-row.ensures.value;
      low = subst (All (λ c. c ≤ MAX_COST)) (sym c.in_ok-costs.ensures.items) (All-nil (λ c. c ≤ MAX_COST));
      costs = subst (λ v. HoldsRows g c.args.top n g.cost v) (sym c.in_ok-costs.ensures.items) (rows_none g c.args.top n g.cost none);
      sums = subst (λ v. HoldsRows g c.args.top n (λ p d. path_value g Right p d + path_value g Left p d) v) (sym c.in_ok-sums.ensures.items)
          (rows_none g c.args.top n (λ p d. path_value g Right p d + path_value g Left p d) none);
    }

pub loop-y-preserved : goal.loop-y-preserved
loop-y-preserved c =
    let g = problem_of c.args.scene.now in
    let top = c.args.top in
    let y = c.loop-y.y in
    let here : y ≡ top + (y - top) = omega arith in
    let next : y - top + 1 ≡ y + 1 - top = omega arith in
    let spare = c.append_row.new.spare in
    record {
      spare = ap length (with_items_is c.loop-y.spare spare (omega (arith, c.append_row.auto.spare, c.deref_mut.ensures.len))) ∙ c.append_row.auto.spare ∙ ap length c.deref_mut.ensures.value ∙ c.loop-y.invariant.spare;
      low = c.in_ok-append_row.ensures.low c.loop-y.invariant.low;
      costs = subst (λ k. HoldsRows g top k g.cost c.append_row.new.costs.items) next
          (rows_more g top (y - top) g.cost y c.loop-y.costs.items c.append_row.new.costs.items c.loop-y.invariant.costs here c.in_ok-append_row.ensures.costs);
      sums = subst (λ k. HoldsRows g top k (λ p d. path_value g Right p d + path_value g Left p d) c.append_row.new.sums.items) next
          (rows_more g top (y - top) (λ p d. path_value g Right p d + path_value g Left p d) y c.loop-y.sums.items c.append_row.new.sums.items c.loop-y.invariant.sums here c.in_ok-append_row.ensures.sums);
    }

pub returns-clause-low : goal.returns-clause-low
returns-clause-low c = c.loop-y.invariant.low

pub returns-clause-costs : goal.returns-clause-costs
returns-clause-costs c =
    let g = problem_of c.args.scene.now in
    let all : c.loop-y.y - c.args.top ≡ c.args.rows = omega arith in
    subst (λ k. HoldsRows g c.args.top k g.cost c.loop-y.costs.items) all c.loop-y.invariant.costs

pub returns-clause-sums : goal.returns-clause-sums
returns-clause-sums c =
    let g = problem_of c.args.scene.now in
    let all : c.loop-y.y - c.args.top ≡ c.args.rows = omega arith in
    subst (λ k. HoldsRows g c.args.top k (λ p d. path_value g Right p d + path_value g Left p d) c.loop-y.sums.items) all c.loop-y.invariant.sums
