use Rattle.std.proofs.Common.{ap, ◌∙◌, List, ℕ}
use Rattle.sgm_io.specs.Held.{put}
use Rattle.sgm_stages.proofs.Filing.{got, begins, whole_begins}
use Rattle.sgm_stages.proofs.Finishing.{finished_one}
use Rattle.sgm_stages.proofs.delivery.write_file.Goals as goal

pub returns-in-Err-Failed-append_whole-clause-held : goal.returns-in-Err-Failed-append_whole-clause-held
returns-in-Err-Failed-append_whole-clause-held g c = λ told.
    begins c.args.file.now _ _ _ _ _ _ c.name.ensures c.in-Ok.ensures.writing (c.in-Ok.ensures.held told) c.text.ensures (c.in-Err-Failed-append_whole.ensures.held told)

pub returns-in-Err-NoMemory-append_whole-clause-held : goal.returns-in-Err-NoMemory-append_whole-clause-held
returns-in-Err-NoMemory-append_whole-clause-held g c = λ told.
    begins c.args.file.now _ _ _ _ _ _ c.name.ensures c.in-Ok.ensures.writing (c.in-Ok.ensures.held told) c.text.ensures (c.in-Err-NoMemory-append_whole.ensures.held told)

pub returns-in-Ok-finish-clause-held : goal.returns-in-Ok-finish-clause-held
returns-in-Ok-finish-clause-held g c = λ told.
    c.in-Ok-finish.ensures.held told
    ∙ got c.args.file.now _ _ _ _ _ _ c.name.ensures c.in-Ok.ensures.writing (c.in-Ok.ensures.held told) (c.in-Ok-append_whole.ensures.held told)
    ∙ ap (λ (text : List ℕ). put c.args.file.now.name text (g.S.Shelf.held c.args.shelf.now)) c.text.ensures

pub returns-in-Err-Failed-finish-clause-held : goal.returns-in-Err-Failed-finish-clause-held
returns-in-Err-Failed-finish-clause-held g c = λ told.
    whole_begins c.args.file.now _ _
    (c.in-Err-Failed-finish.ensures.held told
    ∙ got c.args.file.now _ _ _ _ _ _ c.name.ensures c.in-Ok.ensures.writing (c.in-Ok.ensures.held told) (c.in-Ok-append_whole.ensures.held told)
    ∙ ap (λ (text : List ℕ). put c.args.file.now.name text (g.S.Shelf.held c.args.shelf.now)) c.text.ensures)

pub returns-in-Ok-finish-clause-unfinished : goal.returns-in-Ok-finish-clause-unfinished
returns-in-Ok-finish-clause-unfinished g c =
    finished_one c.args.file.now _ _ _ _ _ _ _ c.name.ensures c.in-Ok.ensures.writing c.in-Ok-append_whole.ensures.writing
    c.in-Ok.ensures.unfinished c.in-Ok-append_whole.ensures.unfinished c.in-Ok-finish.ensures.unfinished
