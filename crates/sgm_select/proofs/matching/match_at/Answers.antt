use Rattle.std.proofs.Common.{◌≡◌, ◌+◌, ◌*◌, ◌∙◌, ◌++◌, sym, ap, arith, drop, get_or, length, None}
use Rattle.std.specs.Prelude.{option_map}
use Rattle.sgm_select.specs.Selection.{matched}
use Rattle.sgm_select.proofs.Selected.{entries_more}
use Rattle.sgm_select.proofs.matching.match_at.Goals as goal

pub returns : goal.returns
returns c g top y ec ew ey h before x r hx hr =
    let place = c.args.place in
    let w = length c.args.indices.now in
    let first = c.args.span.first in
    let here : length c.match_sixteenths.new.into ≡ w = omega (arith, c.match_sixteenths.auto.into, c.split_at_mut-here.ensures.front_len) in
    let done = c.match_sixteenths.ensures g y ec (ew ∙ sym c.split_at_mut-here.ensures.front_len) h in
    ap (λ n. get_or (c.split_at_mut-rest.result.0.now ++ (c.match_sixteenths.new.into ++ c.split_at_mut-here.result.1.now)) (r * n + x) None) ew
    ∙ entries_more (λ q n. option_map (λ d. 16 * d) (matched g first q (top + n))) w place c.args.into.now c.split_at_mut-rest.result.0.now c.match_sixteenths.new.into c.split_at_mut-here.result.1.now
    c.split_at_mut-rest.ensures.front (c.split_at_mut-here.ensures.back ∙ ap (drop w) c.split_at_mut-rest.ensures.back) c.split_at_mut-rest.ensures.front_len here
    (λ z hz. done z hz ∙ ap (λ n. option_map (λ d. 16 * d) (matched g first z n)) ey)
    (λ z q hz hq. ap (λ n. get_or c.args.into.now (q * n + z) None) (sym ew) ∙ before z q (omega (arith, ew)) hq)
    x r (omega (arith, ew)) hr
