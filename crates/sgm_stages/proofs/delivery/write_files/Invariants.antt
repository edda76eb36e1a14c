use Rattle.std.proofs.Common.{◌≡◌, IsTrue, take, None, ◌<◌}
use Rattle.sgm_stages.specs.Deliver.{after_files, after_finishing}
use Rattle.sgm_stages.proofs.delivery.write_files.Given as goal

abbrev pub invariant-loop-file : goal.invariant-loop-file
invariant-loop-file g l = record {
  held : IsTrue g.S.Shelf.tells → g.S.Shelf.held l.shelf ≡ after_files (take l.file-index l.files) (g.S.Shelf.held l.fn.shelf);
  begun : 0 < l.file-index → g.S.Shelf.writing l.shelf ≡ None;
  unfinished : g.S.Shelf.unfinished l.shelf ≡ after_finishing (take l.file-index l.files) (g.S.Shelf.unfinished l.fn.shelf);
  reads : g.S.Shelf.read_faults l.shelf ≡ g.S.Shelf.read_faults l.fn.shelf;
  writes : g.S.Shelf.write_faults l.shelf ≡ g.S.Shelf.write_faults l.fn.shelf;
}
