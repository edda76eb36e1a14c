use Rattle.std.proofs.Common.{[], ◌∷◌, ◌++◌, ◌∙◌, List, map, take, sym, ap}
use Rattle.std.proofs.lemmas.List.{map_more}
use Rattle.sgm_report.specs.declared.volumes.RegionTally.{RegionTally}
use Rattle.sgm_report.specs.Tallies.{tally_of}
use Rattle.sgm_ground.proofs.tallying.tally_all.Goals as goal

pub loop-region-preserved : goal.loop-region-preserved
loop-region-preserved c =
    let regions = c.args.regions.now in
    let place = c.loop-region.region-index in
    let tallied = tally_of c.args.grid.now c.args.measured.now in
    c.in_ok-push.ensures.items
    ∙ ap (λ (all : List RegionTally). all ++ c.in_ok-found.found ∷ []) c.loop-region.invariant
    ∙ ap (λ (t : RegionTally). map tallied (take place regions) ++ t ∷ []) (c.in_ok-found.ensures ∙ ap tallied c.region-item.is)
    ∙ sym (map_more tallied regions place c.region-item.result c.loop-region-test.true)
