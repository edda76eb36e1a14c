use Rattle.sgm_io.proofs.disk_shelf.DiskShelfShelf.TheImpl.Goals as goal

-- A clause on what is held says nothing of a shelf that doesn't tell it.
pub append-tells : goal.append-tells
append-tells g c = record {
  held = λ told. cc;
  count = c.ensures.count;
  writing = c.ensures.writing;
  unfinished = c.ensures.unfinished;
  reads = c.ensures.reads;
  writes = c.ensures.writes;
}
