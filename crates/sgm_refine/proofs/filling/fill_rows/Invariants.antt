use Rattle.std.proofs.Common.{◌≡◌, ◌<◌, length}
use Rattle.sgm_refine.specs.declared.met.TheConstants.{DOWNWARDS}
use Rattle.sgm_refine.specs.Met.{HoldAllMet, HoldRows, filled_at}
use Rattle.sgm_refine.proofs.filling.fill_rows.Given as goal

-- the rows before this one are filled, and what is met from this one on the way up is at hand
abbrev pub invariant-loop-y : goal.invariant-loop-y
invariant-loop-y l = record {
  done : HoldRows l.from.map.now.width (filled_at l.from.map.now l.from.matched.now l.from.left.now l.from.span.first l.from.span.count) l.y l.into;
  next : l.y < l.from.map.now.height → HoldAllMet l.from.map.now DOWNWARDS l.y l.room.down.items;
  wide : length l.room.marks.items ≡ l.from.map.now.width;
}
