use Rattle.std.proofs.Common.{◌≡◌, ltb, map, unwrap_or}
use Rattle.std.specs.List.{flat_map, range_with_len}
use Rattle.sgm_census.specs.Codes.{value_near}
use Rattle.sgm_census.specs.Packed.{pushed}
use Rattle.sgm_census.proofs.smoothed.near_word.Given as goal

abbrev pub invariant-loop-j : goal.invariant-loop-j
invariant-loop-j l = l.word ≡ pushed 0 (flat_map (λ j. map (λ i. ltb (unwrap_or (value_near l.plane l.fn.window l.fn.at.x l.fn.at.y i j) l.fn.at.own) l.fn.at.middle) (range_with_len 0 l.fn.window.width)) (range_with_len 0 l.j))
