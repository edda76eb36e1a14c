use Rattle.std.proofs.Common.{◌≡◌, ◌*◌, ◌<◌, ◌∙◌, sym, ap, subst, arith, get_or, length, None}
use Rattle.std.specs.Prelude.{IfSome, option_map}
use Rattle.std.proofs.lemmas.Option.{get_or_from_slice_get}
use Rattle.sgm_base.specs.Disparities.{Disparities}
use Rattle.sgm_select.specs.Rows.{matched_in}
use Rattle.sgm_select.proofs.MatchLemmas.{entry_low}
use Rattle.sgm_select.proofs.Rows.{matched_in-is}
use Rattle.sgm_select.proofs.matching.match_sixteenths.Goals as goal

pub sixteen_times-requires-clause-index : goal.sixteen_times-requires-clause-index
sixteen_times-requires-clause-index c =
    let q = c.loop-q.q in
    let row = c.match_row.new.into in
    let counted : c.span.inside.count ≡ c.args.span.count = ap (λ (s : Disparities). s.count) c.span.view_is in
    subst (λ n. IfSome (get_or row q None) (λ d. d < n)) (sym counted)
    (entry_low row c.args.sums.now (length row) c.args.span.first c.args.span.count q (c.match_row.ensures q (omega (arith, c.match_row.auto.into, c.requires.indices_length, c.loop-q-test.true))))

pub returns : goal.returns
returns c g y ec ew h q hq =
    let row = c.match_row.new.into in
    let first = c.args.span.first in
    let sums = c.args.sums.now in
    let inside : q < length c.args.into.now = omega (arith, c.loop-q.auto.into) in
    let same : length row ≡ g.width = omega (arith, c.match_row.auto.into, c.requires.indices_length, ew) in
    c.loop-q.invariant q (omega (arith, inside, c.loop-q-test.false))
    ∙ ap (option_map (λ d. 16 * d))
    (get_or_from_slice_get row q _ None (c.match_row.ensures q (omega (arith, inside, same, ew)))
    ∙ ap (λ w. matched_in sums w first c.args.span.count q) same ∙ ap (λ k. matched_in sums g.width first k q) (sym ec)
    ∙ matched_in-is g first y q sums h (omega (arith, inside, ew)))
