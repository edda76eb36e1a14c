use Rattle.std.proofs.Common.{◌∙◌, List, ap, subst}
use Rattle.sgm_words.specs.Operands.{Operands}
use Rattle.sgm_stages.specs.Made.{texts_in}
use Rattle.sgm_stages.specs.Outputs.{OutputFile, files_of}
use Rattle.sgm_stages.specs.Unfinished.{AreFinished}
use Rattle.sgm_series.proofs.Turning.{has_output}
use Rattle.sgm_series.proofs.turns.write_entry.Goals as goal

pub returns-in-Done-clause-finished : goal.returns-in-Done-clause-finished
returns-in-Done-clause-finished g c =
    let named = c.in-Ok.ensures.files ∙ ap (λ (asked : Operands). files_of asked.out (texts_in c.args.texts)) c.operands_of.ensures in
    let P : List OutputFile → Type 0 = λ files. AreFinished files (g.S.Shelf.unfinished c.deliver.new.shelf) in
    subst P named (c.deliver.ensures.finished c.in-Done.is)

pub returns-in-WriteFault-clause-shown : goal.returns-in-WriteFault-clause-shown
returns-in-WriteFault-clause-shown g c = λ told.
    let named = c.in-Ok.ensures.files ∙ ap (λ (asked : Operands). files_of asked.out (texts_in c.args.texts)) c.operands_of.ensures in
    has_output _ _ _ c.in-WriteFault.output _ _ named (c.in-WriteFault.ensures.files told)
