use Rattle.sgm_outcome.proofs.refusals.calib_line.Goals as goal

pub returns-in-Unknown : goal.returns-in-Unknown
returns-in-Unknown c = rw (c.key_line-in-Unknown.ensures, c.in-Unknown.is)

pub returns-in-Type_ : goal.returns-in-Type_
returns-in-Type_ c = rw (c.key_line-in-Type_.ensures, c.in-Type_.is)
