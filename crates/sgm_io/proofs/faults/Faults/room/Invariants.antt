use Rattle.std.proofs.Common.{take}
use Rattle.sgm_io.specs.Piece.{FillsUpTo}
use Rattle.sgm_io.specs.Trips.{fails_append}
use Rattle.sgm_io.proofs.faults.Faults.room.Given as goal

abbrev pub invariant-loop-trip : goal.invariant-loop-trip
invariant-loop-trip l = FillsUpTo (fails_append (take l.trip-index l.trip-items) l.name) l.at l.most l.count
