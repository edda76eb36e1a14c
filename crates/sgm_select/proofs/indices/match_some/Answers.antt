use Rattle.std.proofs.Common.{◌≡◌, ◌+◌, ◌-◌, length, ap, ◌∙◌, subst, arith, slice_index}
use Rattle.std.proofs.lemmas.List.{get_or-take, get_or-replicate}
use Rattle.sgm_select.specs.declared.indices.TheConstants.{NO_KEY}
use Rattle.sgm_select.specs.Keys.{IsLeastKey}
use Rattle.sgm_select.specs.Rows.{matched_in}
use Rattle.sgm_select.proofs.Keys.{found_more, matched_by_key}
use Rattle.sgm_select.proofs.indices.match_some.Goals as goal

pub lower_all-requires-clause-none : goal.lower_all-requires-clause-none
lower_all-requires-clause-none c = λ i h.
    ap (λ us. slice_index us i) c.split_at_mut-keys.ensures.front ∙ get_or-take _ _ i 0 (omega arith) ∙ get_or-replicate 4096 i NO_KEY 0 (omega arith)

pub loop-k-preserved : goal.loop-k-preserved
loop-k-preserved c =
    let sums = c.args.sums.now in
    let keys = c.lower_all.new.keys in
    let m = length c.args.into.now - 1 - c.loop-k.k in
    let at : c.args.from + (length keys - 1 - m) ≡ c.args.from + c.loop-k.k = omega arith in
    let least = subst (λ n. IsLeastKey sums c.args.width c.args.span.first c.args.span.count n c.args.width (slice_index keys m)) at (c.lower_all.ensures.keys.each m (omega arith)) in
    let here : c.index_of.result ≡ matched_in sums c.args.width c.args.span.first c.args.span.count (c.args.from + c.loop-k.k) =
    c.index_of.ensures ∙ matched_by_key sums c.args.width c.args.span.first c.args.span.count (c.args.from + c.loop-k.k) (slice_index keys m) (λ k. (c.type_inv.sums k).fits) c.lower_all.ensures.few least in
    found_more (λ j. matched_in sums c.args.width c.args.span.first c.args.span.count (c.args.from + j)) c.loop-k.into c.loop-k.k c.index_of.result (omega arith) c.loop-k.invariant here
