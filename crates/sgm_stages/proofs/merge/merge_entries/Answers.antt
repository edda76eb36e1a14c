use Rattle.std.proofs.Common.{◌∙◌, refl, ap, subst, List, Option, IfSome, String, Global}
use Rattle.sgm_grid.specs.Cells.{IsGridSpec}
use Rattle.sgm_grid.specs.declared.grid_spec.GridSpec.{GridSpec}
use Rattle.sgm_grid.specs.declared.keep.Gridding.{Gridding}
use Rattle.sgm_merge.specs.Merging.{no_entries}
use Rattle.sgm_words.specs.Operands.{bytes_of}
use Rattle.sgm_stages.specs.Ends.{ShownBy}
use Rattle.sgm_stages.specs.Made.{merge_texts_in, plan_in}
use Rattle.sgm_stages.specs.Verdict.{entries_fetched, merged_by}
use Rattle.sgm_stages.proofs.EntryLaws.{entries_made, entries_shown, names_along}
use Rattle.sgm_stages.proofs.merge.merge_entries.Goals as goal

pub returns-in-Err-add_entries-clause-texts : goal.returns-in-Err-add_entries-clause-texts
returns-in-Err-add_entries-clause-texts g c = λ told out.
    let plan = plan_in c.args.plan.now in
    let P : List (String Global) → Type 0 = λ ns.
    ShownBy (entries_fetched plan.spec 0 (bytes_of ns) (g.S.Shelf.held c.args.shelf.now) (merged_by out plan)) c.in-Err-add_entries.outcome in
    subst P c.deref.ensures.value
    (entries_shown plan (bytes_of c.deref.result.now) (g.S.Shelf.held c.args.shelf.now) c.in-Ok.merge c.in-Err-add_entries.outcome out
    (c.in-Ok.ensures ∙ ap (λ (x : Gridding). no_entries x.keep plan.spec) c.gridding.ensures.value)
    (c.in-Err-add_entries.ensures.entries told))

pub returns-in-Err-grid-clause-counts : goal.returns-in-Err-grid-clause-counts
returns-in-Err-grid-clause-counts g c = λ known are out.
    let kept = c.in-Ok-add_entries.ensures.counts known (names_along c.deref.result.now c.args.plan.now.names.items known c.deref.ensures.value are) in
    record { reads = kept.0; writes = kept.1; out = refl }

pub returns-in-Ok-of-clause-texts : goal.returns-in-Ok-of-clause-texts
returns-in-Ok-of-clause-texts g c = λ told out.
    let plan = plan_in c.args.plan.now in
    let held = g.S.Shelf.held c.args.shelf.now in
    let all = c.in-Ok-add_entries.ensures.entries told in
    let ranges : Option GridSpec → Type 0 = λ o. IfSome o IsGridSpec in
    entries_made plan c.deref.result.now c.args.plan.now.names.items held c.in-Ok.merge c.add_entries.new.merge all.0 c.in-Ok-grid.grid (merge_texts_in c.in-Ok-of.texts) out
    c.deref.ensures.value refl
    (subst ranges c.requires.grid c.grid-spec.ensures.kept.grid_kept)
    (c.in-Ok.ensures ∙ ap (λ (x : Gridding). no_entries x.keep plan.spec) c.gridding.ensures.value)
    all.1 all.2 c.in-Ok-grid.ensures c.in-Ok-of.ensures

pub returns-in-Ok-of-clause-counts : goal.returns-in-Ok-of-clause-counts
returns-in-Ok-of-clause-counts g c = λ known are.
    c.in-Ok-add_entries.ensures.counts known (names_along c.deref.result.now c.args.plan.now.names.items known c.deref.ensures.value are)

pub returns-in-Err-of-clause-counts : goal.returns-in-Err-of-clause-counts
returns-in-Err-of-clause-counts g c = λ known are out.
    let kept = c.in-Ok-add_entries.ensures.counts known (names_along c.deref.result.now c.args.plan.now.names.items known c.deref.ensures.value are) in
    record { reads = kept.0; writes = kept.1; out = refl }
