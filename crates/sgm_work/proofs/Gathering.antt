-- What a pass has gathered once another was joined to it.
use Rattle.std.proofs.Common.{◌∙◌}
use Rattle.std.proofs.lemmas.Bool.{or_left, or_right}
use Rattle.sgm_board.specs.Passes.{PassParts, HasJoined}
use Rattle.sgm_work.specs.Crews.{GathersFrom}

-- what it had gathered itself
pub joined_first : (p other q : PassParts) → HasJoined p other q → GathersFrom p q
joined_first p other q joined number has = joined.gathered number ∙ or_left (p.gathered number) (other.gathered number) has

-- what the other had gathered
pub joined_other : (p other q : PassParts) → HasJoined p other q → GathersFrom other q
joined_other p other q joined number has = joined.gathered number ∙ or_right (p.gathered number) (other.gathered number) has
