use Rattle.std.proofs.Common.{◌∙◌, ◌++◌, ◌∷◌, [], None, ap, sym, map, take}
use Rattle.std.proofs.lemmas.List.{map_more, take_all}
use Rattle.std.proofs.lemmas.Result.{IfOk-from_err}
use Rattle.sgm_stages.specs.Texts.{sample_of}
use Rattle.sgm_stages.proofs.made.samples.Goals as goal

-- The next sample is that of the next entry.
pub loop-entry-preserved : goal.loop-entry-preserved
loop-entry-preserved c =
    let entries = c.args.entries.now in
    let index = c.loop-entry.entry-index in
    c.in_ok-push.ensures.items
    ∙ (ap (λ xs. xs ++ c.sample.result ∷ []) c.loop-entry.invariant
    ∙ (ap (λ s. map sample_of (take index entries) ++ s ∷ []) c.sample.ensures
    ∙ sym (map_more sample_of entries index None (search))))

pub returns : goal.returns
returns c = c.loop-entry.invariant ∙ ap (map sample_of) (take_all c.loop-entry.entry-index c.args.entries.now (search))

pub returns-in_err-push : goal.returns-in_err-push
returns-in_err-push c = IfOk-from_err _ _ c.from_residual-in_err-push.ensures.0

pub returns-in_err-samples : goal.returns-in_err-samples
returns-in_err-samples c = IfOk-from_err _ _ c.from_residual.ensures.0
