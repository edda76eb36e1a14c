use Rattle.std.proofs.Common.{◌≡◌, ◌+◌, IsTrue}
use Rattle.sgm_words.specs.Operands.{bytes_of}
use Rattle.sgm_stages.specs.Moments.{Keeps}
use Rattle.sgm_stages.proofs.EntryLaws.{AreAdded}
use Rattle.sgm_stages.proofs.entries.add_entries.Given as goal

abbrev pub invariant-loop-number : goal.invariant-loop-number
invariant-loop-number g l = record {
  keeps : Keeps g.S.Shelf l.fn.shelf l.shelf;
  added : IsTrue g.S.Shelf.tells → AreAdded l.fn.merge l.merge (bytes_of l.names) (g.S.Shelf.held l.fn.shelf) l.number;
  spec : l.merge.spec ≡ l.fn.merge.spec;
  count : l.merge.entries ≡ l.fn.merge.entries + l.number;
  reads : g.S.Shelf.read_faults l.shelf ≡ g.S.Shelf.read_faults l.fn.shelf;
  writes : g.S.Shelf.write_faults l.shelf ≡ g.S.Shelf.write_faults l.fn.shelf;
}
