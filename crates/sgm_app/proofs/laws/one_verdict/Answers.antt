use Rattle.sgm_app.proofs.OneVerdict.{verdict_some, verdict_one}
use Rattle.sgm_app.proofs.laws.one_verdict.Goals as goal

pub returns-clause-some : goal.returns-clause-some
returns-clause-some g c = λ told words shelf. verdict_some words (g.S.Shelf.held shelf) (g.met.S.Shelf.held_is_bytes shelf told)

pub returns-clause-only : goal.returns-clause-only
returns-clause-only g c = verdict_one
