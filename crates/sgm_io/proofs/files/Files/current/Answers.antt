use Rattle.std.proofs.Common.{◌∙◌, ◌-◌, ap, List, length, slice_get, if◌then◌else◌, Bool, None, sym}
use Rattle.sgm_io.specs.Held.{NamedBytes}
use Rattle.sgm_io.specs.Filed.{last_file}
use Rattle.sgm_io.proofs.FiledLaws.{slice_get-last_file}
use Rattle.sgm_io.proofs.files.Files.current.Goals as goal

pub returns-then-self : goal.returns-then-self
returns-then-self c =
    let fs = c.args.self.now.files.items in
    c.last.ensures.value
    ∙ ap (λ (x : List NamedBytes). slice_get x (length x - 1)) c.deref.ensures.value
    ∙ slice_get-last_file fs
    ∙ sym (ap (λ (b : Bool). if b then last_file fs else None) c.if-self.true)
