use Rattle.std.proofs.Common.{◌∙◌, ℕ, List, ap, length, subst}
use Rattle.sgm_io.specs.Keep.{name_of}
use Rattle.sgm_io.specs.MemoryShelf.{writing_in, trips_in}
use Rattle.sgm_io.specs.Piece.{FillsUpTo}
use Rattle.sgm_io.specs.Trips.{fails_append}
use Rattle.sgm_io.proofs.FiledLaws.{current_name, current_length}
use Rattle.sgm_io.proofs.memory_shelf.MemoryShelf.room.Goals as goal

pub returns : goal.returns
returns c =
    let files = c.args.self.now.files in
    let trips = trips_in c.args.self.now in
    let name = c.name.ensures ∙ current_name _ c.in-Some.file.now c.in-Some.ensures in
    let at = ap (λ (bytes : List ℕ). length bytes) c.bytes.ensures ∙ current_length files.is_open files.files.items c.in-Some.file.now c.in-Some.ensures in
    let P : List ℕ → Type 0 = λ n. FillsUpTo (fails_append trips n) (length c.bytes.result.now) c.args.most c.room.result in
    let Q : ℕ → Type 0 = λ k. FillsUpTo (fails_append trips (name_of (writing_in c.args.self.now))) k c.args.most c.room.result in
    subst Q at (subst P name c.room.ensures)
