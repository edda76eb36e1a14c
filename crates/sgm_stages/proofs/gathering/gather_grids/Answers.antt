use Rattle.std.proofs.Common.{◌∙◌, ap, sym, arith, List, ℕ}
use Rattle.sgm_io.specs.Held.{Held}
use Rattle.sgm_words.specs.declared.files.Input.TheVariants as input
use Rattle.sgm_stages.specs.Stops.{fetch_outcome}
use Rattle.sgm_stages.specs.Verdict.{grids_fetched, fetched}
use Rattle.sgm_stages.proofs.Counting.{counts_since, goes_by, shown_by}
use Rattle.sgm_stages.proofs.Steps.{shown_along}
use Rattle.sgm_stages.proofs.VerdictLaws.{none_less, none_fetched}
use Rattle.sgm_stages.proofs.gathering.gather_grids.Goals as goal

pub returns-in-Err-clause-verdict : goal.returns-in-Err-clause-verdict
unfolding grids_fetched
returns-in-Err-clause-verdict g c = λ told last none.
    let asked = c.args.operands.now in let held = g.S.Shelf.held c.args.shelf.now in
    let next = fetched input.Later (held asked.later) last in
    shown_by input.Earlier held c.earlier.result.now asked.earlier next (fetch_outcome c.in-Err.stop) c.earlier.ensures
    (c.in-Err.ensures.bytes told next (none_fetched 4 input.Later (held asked.later) last (omega arith) (none_less 4 6 last (omega arith) none)))

pub returns-in-Err-fetch_input-clause-verdict : goal.returns-in-Err-fetch_input-clause-verdict
unfolding grids_fetched
returns-in-Err-fetch_input-clause-verdict g c = λ told last none.
    let asked = c.args.operands.now in let held = g.S.Shelf.held c.args.shelf.now in
    shown_along _ _ _
    (goes_by input.Earlier held c.earlier.result.now asked.earlier (fetched input.Later (held asked.later) last) c.earlier.ensures ((c.in-Ok.ensures.bytes told).1 (fetched input.Later (held asked.later) last))
    ∙ ap (λ (n : List ℕ). fetched input.Later (held n) last) (sym c.later.ensures)
    ∙ ap (λ (h : Held). fetched input.Later (h c.later.result.now) last) (sym (c.in-Ok.ensures.keeps.held told)))
    (c.in-Err-fetch_input.ensures.bytes told last (none_less 5 6 last (omega arith) none))

pub returns-in-Ok-fetch_input-clause-verdict : goal.returns-in-Ok-fetch_input-clause-verdict
unfolding grids_fetched
returns-in-Ok-fetch_input-clause-verdict g c = λ told last none.
    let asked = c.args.operands.now in let held = g.S.Shelf.held c.args.shelf.now in
    goes_by input.Earlier held c.earlier.result.now asked.earlier (fetched input.Later (held asked.later) last) c.earlier.ensures ((c.in-Ok.ensures.bytes told).1 (fetched input.Later (held asked.later) last))
    ∙ ap (λ (n : List ℕ). fetched input.Later (held n) last) (sym c.later.ensures)
    ∙ ap (λ (h : Held). fetched input.Later (h c.later.result.now) last) (sym (c.in-Ok.ensures.keeps.held told))
    ∙ (c.in-Ok-fetch_input.ensures.bytes told).1 last

pub returns-in-Err-fetch_input-clause-counts : goal.returns-in-Err-fetch_input-clause-counts
returns-in-Err-fetch_input-clause-counts g c = λ names have out.
    let earlier = c.in-Ok.ensures.counts names (have input.Earlier c.earlier.result.now c.earlier.ensures) in
    counts_since names (fetch_outcome c.in-Err-fetch_input.stop) _ _ out _ _ _ earlier (c.in-Err-fetch_input.ensures.counts names (have input.Later c.later.result.now c.later.ensures) out)

pub returns-in-Ok-fetch_input-clause-counts : goal.returns-in-Ok-fetch_input-clause-counts
returns-in-Ok-fetch_input-clause-counts g c = λ names have.
    let earlier = c.in-Ok.ensures.counts names (have input.Earlier c.earlier.result.now c.earlier.ensures) in
    let later = c.in-Ok-fetch_input.ensures.counts names (have input.Later c.later.result.now c.later.ensures) in
    (later.0 ∙ earlier.0, later.1 ∙ earlier.1)
