use Rattle.sgm_map.specs.Fining.{HoldsMade}
use Rattle.sgm_map.proofs.fining.make_rows.Given as goal

-- the rows before this one are written
abbrev pub invariant-loop-place : goal.invariant-loop-place
invariant-loop-place l = HoldsMade l.making.step l.making.left.now l.making.right.now l.making.map.now l.making.span l.first l.place l.into
