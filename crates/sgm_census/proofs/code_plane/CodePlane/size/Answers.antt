use Rattle.std.proofs.Common.{subst}
use Rattle.sgm_census.specs.Codes.{IsCodes}
use Rattle.sgm_census.proofs.CodeLists.{codes_in-kept}
use Rattle.sgm_census.proofs.code_plane.CodePlane.size.Goals as goal

pub returns-clause-kept : goal.returns-clause-kept
returns-clause-kept c =
    let p = c.self.inside in
    subst IsCodes c.self.view_is (codes_in-kept p.size.width p.size.height p.window p.rule p.words.items p.present.items c.self.invariant)
