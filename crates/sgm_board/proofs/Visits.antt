-- A front that went through a strip last.
use Rattle.std.proofs.Common.{◌≡◌, ℕ, ◌+◌, ◌-◌, ◌<◌, length, ap, ◌∙◌, arith}
use Rattle.std.proofs.lemmas.Option.{slice_get_within}
use Rattle.sgm_energy.specs.Dirs.{position_of}
use Rattle.sgm_strip.specs.Fronts.{FrontParts, IsFront, visit_of}
use Rattle.sgm_board.specs.Boards.{IsLastBy}
use Rattle.sgm_board.proofs.Dirs.{position_of-strip_at}

-- it has a visit for each strip up to this one
pub length-visits : (front : FrontParts) (strip worker : ℕ) → IsFront front → IsLastBy front strip worker → length front.visits ≡ position_of front.dir strip front.cut.strips + 1
length-visits front strip worker kept last =
    let at = length front.visits - 1 in
    let inside : at < length front.visits = slice_get_within front.visits at (visit_of strip worker) last in
    let few = kept.few in
    let position = ap (λ (s : ℕ). position_of front.dir s front.cut.strips) (kept.in_order at (visit_of strip worker) last) ∙ position_of-strip_at front.dir at front.cut.strips (omega arith) in
    omega arith
