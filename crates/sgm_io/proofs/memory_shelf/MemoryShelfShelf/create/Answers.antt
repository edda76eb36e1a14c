use Rattle.sgm_io.proofs.CountLaws.{none_fell, rose_at}
use Rattle.sgm_io.proofs.memory_shelf.MemoryShelfShelf.create.Goals as goal

pub returns-then-trips-clause-reads : goal.returns-then-trips-clause-reads
returns-then-trips-clause-reads c = none_fell _ _ c.if-trips.ensures.reads

pub returns-then-trips-clause-writes : goal.returns-then-trips-clause-writes
returns-then-trips-clause-writes c = rose_at _ _ _ c.if-trips.ensures.writes
