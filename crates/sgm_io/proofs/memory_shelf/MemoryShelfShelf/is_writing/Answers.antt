use Rattle.std.proofs.Common.{◌↔◌, Bool, IsTrue, IsSome, sym, subst}
use Rattle.sgm_io.specs.MemoryShelf.{writing_in}
use Rattle.sgm_io.proofs.FiledLaws.{open_is}
use Rattle.sgm_io.proofs.memory_shelf.MemoryShelfShelf.is_writing.Goals as goal

pub returns : goal.returns
returns c =
    let files = c.args.self.now.files in
    let P : Bool → Type 0 = λ b. IsTrue b ↔ IsSome (writing_in c.args.self.now) in
    subst P (sym c.is_open.ensures) (open_is files.is_open files.files.items files.has_last)
