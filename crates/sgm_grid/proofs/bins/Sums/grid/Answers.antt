use Rattle.std.proofs.Common.{◌≡◌, ℕ, ◌≤◌, [], ◌∷◌, ◌++◌, ◌∙◌, List, Option, ℤ, map, take, take_all, length, arith, sym, ap, subst}
use Rattle.std.specs.Prelude.{All}
use Rattle.std.specs.Option.{ForSome}
use Rattle.std.proofs.lemmas.List.{length-map, map_more}
use Rattle.std.proofs.lemmas.List.Elements.{All-push}
use Rattle.sgm_grid.specs.Binning.{CellSums, Sum, mean_told}
use Rattle.sgm_grid.specs.Cells.{IsHeight, cells_of}
use Rattle.sgm_grid.proofs.bins.Sums.grid.Goals as goal

pub loop-sum-preserved : goal.loop-sum-preserved
loop-sum-preserved c =
    let sums = c.deref-sum-items.result.now in
    let place = c.loop-sum.sum-index in
    let is_height = λ (height : Option ℤ). ForSome height IsHeight in (
      c.in_ok-push.ensures.items
          ∙ ap (λ (heights : List (Option ℤ)). heights ++ c.mean.result ∷ []) c.loop-sum.invariant.0
          ∙ ap (λ (height : Option ℤ). map mean_told (take place sums) ++ height ∷ []) (c.mean.ensures.value ∙ ap mean_told c.sum-item.is)
          ∙ sym (map_more mean_told sums place c.sum-item.result c.loop-sum-test.true),
      subst (λ (heights : List (Option ℤ)). All is_height heights) (sym c.in_ok-push.ensures.items)
          (All-push is_height c.loop-sum.heights.items c.mean.result c.loop-sum.invariant.1 c.mean.ensures.in_range),
    )

-- once each sum is told
all_told : (sums : List Sum) (n : ℕ) (heights : List (Option ℤ)) → heights ≡ map mean_told (take n sums) → length sums ≤ n → heights ≡ map mean_told sums
all_told sums n heights told all = told ∙ ap (map mean_told) (take_all n sums all)

pub of_heights-requires : goal.of_heights-requires
of_heights-requires c =
    let sums = c.deref-sum-items.result.now in
    let told = all_told sums c.loop-sum.sum-index c.loop-sum.heights.items c.loop-sum.invariant.0 (omega (arith, c.loop-sum-test.false)) in
    record {
      ranges = c.self.invariant.ranges;
      full = ap length told ∙ length-map sums mean_told ∙ ap length c.deref-sum-items.ensures.value ∙ c.self.invariant.full;
      heights_in_range = c.loop-sum.invariant.1;
    }

pub returns : goal.returns
returns c =
    let sums = c.deref-sum-items.result.now in
    let told = all_told sums c.loop-sum.sum-index c.loop-sum.heights.items c.loop-sum.invariant.0 (omega (arith, c.loop-sum-test.false)) in
    c.of_heights.ensures
    ∙ ap (cells_of c.self.inside.spec) (told ∙ ap (map mean_told) c.deref-sum-items.ensures.value)
    ∙ ap (λ (held : CellSums). cells_of held.spec (map mean_told held.sums)) c.self.view_is
