use Rattle.std.proofs.Common.{◌≡◌, ◌+◌, ◌<◌, ◌∙◌, None, Some, ap, refl, sym, subst, arith, to_z, of_z, w32, get_or, length, take, List}
use Rattle.std.proofs.lemmas.List.{get_or-set_other, get_or-set_same, get_or_default, take_all}
use Rattle.std.proofs.lemmas.Int.{ints}
use Rattle.sgm_merge.specs.Tallies.{Heights, no_heights, with_cell, with_height}
use Rattle.sgm_merge.specs.declared.limits.TheConstants.{MAX_ENTRIES}
use Rattle.sgm_merge.proofs.Places.{AddsFrom, adds_more, adds_none, as_before}
use Rattle.sgm_merge.proofs.merge.add_heights.Goals as goal
use Rattle.sgm_merge.proofs.merge.add_heights.Goals.{in-Some, in_default}

pub loop-index-init : goal.loop-index-init
loop-index-init c = record { len = refl; cells = adds_none c.args.tallies.now c.args.at }

pub loop-index-preserved : goal.loop-index-preserved
loop-index-preserved c =
    let now = c.loop-index.tallies in
    let hs = c.args.heights.now in
    let at = c.args.at in
    let i = c.loop-index.index in
    let old = c.args.tallies.now in
    let within : at + i < length now = omega (arith, c.requires.inside) in
    record {
      len = c.match-heights-index.auto.tallies ∙ c.loop-index.invariant.len;
      cells = elim c.match-heights-index.branch [
        | in-Some w ↦ (
            let h = w.in-Some.height in
            let whole : to_z w32 (of_z w32 h) ≡ h = omega (arith, ints) in
            let read : w.index-tallies-at.result ≡ get_or now (at + i) no_heights = w.index-tallies-at.is ∙ get_or_default now (at + i) _ no_heights within in
            let here : get_or c.match-heights-index.tallies (at + i) no_heights ≡ with_cell (get_or now (at + i) no_heights) (Some h) =
            ap (λ (t : List Heights). get_or t (at + i) no_heights) w.tallies-is ∙ get_or-set_same now (at + i) w.with.result no_heights within
            ∙ w.with.ensures ∙ ap (with_height w.index-tallies-at.result) whole ∙ ap (λ (held : Heights). with_height held h) read in
            adds_more old now c.match-heights-index.tallies at i hs (Some h) c.loop-index.invariant.cells w.in-Some.is here
            (λ k other. ap (λ (t : List Heights). get_or t k no_heights) w.tallies-is ∙ get_or-set_other now (at + i) k w.with.result no_heights other))
        | in_default w ↦ adds_more old now c.match-heights-index.tallies at i hs None c.loop-index.invariant.cells w.in_default.is
            (ap (λ (t : List Heights). get_or t (at + i) no_heights) w.tallies-is) (λ k other. ap (λ (t : List Heights). get_or t k no_heights) w.tallies-is)
      ];
    }

pub with-requires-clause-room : goal.with-requires-clause-room
with-requires-clause-room c =
    let now = c.loop-index.tallies in
    let place = c.args.at + c.loop-index.index in
    let within : place < length now = omega (arith, c.requires.inside) in
    let read : c.index-tallies-at.result ≡ get_or c.args.tallies.now place no_heights =
    c.index-tallies-at.is ∙ get_or_default now place _ no_heights within ∙ as_before c.args.tallies.now now c.args.at c.loop-index.index c.args.heights.now c.loop-index.invariant.cells in
    subst (λ (h : Heights). h.count < MAX_ENTRIES) (sym read) (c.requires.room c.loop-index.index c.loop-index-test.true)

pub returns-clause-cells : goal.returns-clause-cells
returns-clause-cells c =
    let all : take c.loop-index.index c.args.heights.now ≡ c.args.heights.now = take_all c.loop-index.index c.args.heights.now (omega arith) in
    subst (AddsFrom c.args.tallies.now c.loop-index.tallies c.args.at) all c.loop-index.invariant.cells
