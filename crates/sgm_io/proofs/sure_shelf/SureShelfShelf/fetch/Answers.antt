use Rattle.std.proofs.Common.{◌∙◌, ap, sym, subst, List, ℕ, Option, Some}
use Rattle.sgm_io.specs.Fetch.{Fetches}
use Rattle.sgm_io.proofs.FiledLaws.{sure_found, sure_absent}
use Rattle.sgm_io.proofs.sure_shelf.SureShelfShelf.fetch.Goals as goal

pub returns-in-Some-clause-bytes : goal.returns-in-Some-clause-bytes
returns-in-Some-clause-bytes c = λ told.
    let P : Option (List ℕ) → Type 0 = λ o. Fetches c.args.most o c.copy_at_most.result c.copy_at_most.new.into.items in
    subst P (sym (sure_found c.args.self.now.files.files.items c.args.name.now c.in-Some.bytes.now c.in-Some.ensures)) c.copy_at_most.ensures.bytes

pub returns-in-None-clause-bytes : goal.returns-in-None-clause-bytes
returns-in-None-clause-bytes c = λ told.
    sure_absent c.args.self.now.files.files.items c.args.name.now c.in-None.ensures ∙ ap (λ (x : List ℕ). Some x) (sym c.requires)
