use Rattle.std.proofs.Common.{◌≡◌, ◌∙◌, ◌-◌, ap, ℕ, List, Some, length, slice_get}
use Rattle.sgm_io.specs.Filed.{last_file}
use Rattle.sgm_io.specs.Held.{NamedBytes}
use Rattle.sgm_io.specs.Names.{is_among}
use Rattle.sgm_io.specs.Unfinished.{without_name}
use Rattle.sgm_io.proofs.FiledLaws.{slice_get-last_file, current_name}
use Rattle.sgm_io.proofs.files.Files.finish.Goals as goal

pub returns-clause-unfinished : goal.returns-clause-unfinished
returns-clause-unfinished c =
    let fs = c.args.self.now.files.items in
    let last : Some c.in-Some.file.now ≡ last_file fs =
    c.in-Some.ensures.value
    ∙ ap (λ (x : List NamedBytes). slice_get x (length x - 1)) c.deref.ensures.value
    ∙ slice_get-last_file fs in
    c.finish.ensures
    ∙ ap (λ (n : List ℕ). without_name n (is_among c.args.self.now.unfinished.names.items))
    (c.name.ensures ∙ current_name (last_file fs) c.in-Some.file.now last)
