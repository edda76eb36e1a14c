use Rattle.std.proofs.Common.{◌≡◌, ℕ, ◌*◌, ◌<◌, None, slice_index_or}
use Rattle.std.specs.Prelude.{option_map}
use Rattle.sgm_select.proofs.matching.match_sixteenths.Given as goal

-- the columns before this one are written
abbrev pub invariant-loop-q : goal.invariant-loop-q
invariant-loop-q l = (k : ℕ) → k < l.q → slice_index_or l.into k None ≡ option_map (λ d. 16 * d) (slice_index_or l.indices k None)
