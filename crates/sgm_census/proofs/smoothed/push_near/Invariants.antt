use Rattle.std.proofs.Common.{◌≡◌, ltb, map, unwrap_or}
use Rattle.std.specs.List.{range_with_len}
use Rattle.sgm_census.specs.Codes.{value_near}
use Rattle.sgm_census.specs.Packed.{pushed}
use Rattle.sgm_census.proofs.smoothed.push_near.Given as goal

abbrev pub invariant-loop-i : goal.invariant-loop-i
invariant-loop-i l = l.word ≡ pushed l.fn.word (map (λ i. ltb (unwrap_or (value_near l.plane l.fn.window l.fn.at.x l.fn.at.y i l.fn.j) l.fn.at.own) l.fn.at.middle) (range_with_len 0 l.i))
