use Rattle.sgm_io.proofs.CountLaws.{none_fell, rose_at}
use Rattle.sgm_io.proofs.memory_shelf.MemoryShelfShelf.finish.Goals as goal

pub returns-then-trips_finish-clause-reads : goal.returns-then-trips_finish-clause-reads
returns-then-trips_finish-clause-reads c = none_fell _ _ c.if-trips_finish.ensures.reads

pub returns-then-trips_finish-clause-writes : goal.returns-then-trips_finish-clause-writes
returns-then-trips_finish-clause-writes c = rose_at _ _ _ c.if-trips_finish.ensures.writes
