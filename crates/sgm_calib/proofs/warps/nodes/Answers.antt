use Rattle.std.proofs.Common.{◌≡◌, All}
use Rattle.std.proofs.lemmas.Result.{IfOk-weaker}
use Rattle.sgm_rectify.specs.Warps.{IsCoordinate, IsNode}
use Rattle.sgm_calib.specs.WarpKeys.{pairs}
use Rattle.sgm_calib.proofs.WarpLemmas.{amounts, pairs_kept}
use Rattle.sgm_calib.proofs.warps.nodes.Goals as goal

pub returns-clause-range : goal.returns-clause-range
returns-clause-range c =
    IfOk-weaker c.pairs.result (λ places. places.items ≡ pairs (amounts c.args.items.now)) (λ places. All IsNode places.items)
    (λ places are. pairs_kept IsCoordinate c.args.items.now places.items are c.requires.range) c.pairs.ensures.value
