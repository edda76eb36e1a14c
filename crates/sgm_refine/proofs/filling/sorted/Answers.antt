use Rattle.std.proofs.Common.{rules}
use Rattle.std.proofs.lemmas.List.Sorted.{IsNonDecreasingBy-from_sort}
use Rattle.arrayvec.proofs.ArrayVecLemmas.{items-with_items}
use Rattle.sgm_refine.proofs.filling.sorted.Goals as goal

pub returns-clause-ascending : goal.returns-clause-ascending
returns-clause-ascending c =
    rw (items-with_items c.loop-value.found c.sort_unstable.new.self (search rules))
    (IsNonDecreasingBy-from_sort (λ value. value) _ c.sort_unstable.ensures.sorted)
