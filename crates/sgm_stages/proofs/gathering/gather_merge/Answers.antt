use Rattle.std.proofs.Common.{◌∙◌, ap, sym, arith, List, ℕ}
use Rattle.sgm_io.specs.Held.{Held}
use Rattle.sgm_words.specs.Operands.{is_plain_word, of_merge}
use Rattle.sgm_words.specs.declared.files.Input.TheVariants as input
use Rattle.sgm_stages.specs.Stops.{fetch_outcome}
use Rattle.sgm_stages.specs.Verdict.{merge_fetched, calib_fetched}
use Rattle.sgm_stages.proofs.Counting.{counts_since, goes_by, shown_by}
use Rattle.sgm_stages.proofs.Steps.{shown_along}
use Rattle.sgm_stages.proofs.VerdictLaws.{none_zero, none_less}
use Rattle.sgm_stages.proofs.gathering.gather_merge.Goals as goal

pub returns-in-Err-clause-verdict : goal.returns-in-Err-clause-verdict
unfolding merge_fetched
returns-in-Err-clause-verdict g c = λ told last none.
    let asked = c.args.operands.now in let held = g.S.Shelf.held c.args.shelf.now in
    let next = calib_fetched (is_plain_word asked.calib) (held asked.calib) last in
    shown_by input.List held c.list.result.now asked.list next (fetch_outcome c.in-Err.stop) c.list.ensures (c.in-Err.ensures.bytes told next (none_zero next))

pub returns-in-Err-fetch_calib-clause-verdict : goal.returns-in-Err-fetch_calib-clause-verdict
unfolding merge_fetched
returns-in-Err-fetch_calib-clause-verdict g c = λ told last none.
    let asked = c.args.operands.now in let held = g.S.Shelf.held c.args.shelf.now in
    let next = calib_fetched (is_plain_word asked.calib) (held asked.calib) last in
    shown_along _ _ _
    (goes_by input.List held c.list.result.now asked.list next c.list.ensures ((c.in-Ok.ensures.bytes told).1 next)
    ∙ ap (λ (n : List ℕ). calib_fetched (is_plain_word n) (held n) last) (sym c.calib.ensures)
    ∙ ap (λ (h : Held). calib_fetched (is_plain_word c.calib.result.now) (h c.calib.result.now) last) (sym (c.in-Ok.ensures.keeps.held told)))
    (c.in-Err-fetch_calib.ensures.bytes told last (none_less 3 4 last (omega arith) none))

pub returns-in-Ok-fetch_calib-clause-verdict : goal.returns-in-Ok-fetch_calib-clause-verdict
unfolding merge_fetched
returns-in-Ok-fetch_calib-clause-verdict g c = λ told last none.
    let asked = c.args.operands.now in let held = g.S.Shelf.held c.args.shelf.now in
    let next = calib_fetched (is_plain_word asked.calib) (held asked.calib) last in
    goes_by input.List held c.list.result.now asked.list next c.list.ensures ((c.in-Ok.ensures.bytes told).1 next)
    ∙ ap (λ (n : List ℕ). calib_fetched (is_plain_word n) (held n) last) (sym c.calib.ensures)
    ∙ ap (λ (h : Held). calib_fetched (is_plain_word c.calib.result.now) (h c.calib.result.now) last) (sym (c.in-Ok.ensures.keeps.held told))
    ∙ (c.in-Ok-fetch_calib.ensures.bytes told).1 last

pub returns-in-Err-clause-counts : goal.returns-in-Err-clause-counts
returns-in-Err-clause-counts g c = λ listed. c.in-Err.ensures.counts (of_merge c.args.operands.now listed) c.list.ensures

pub returns-in-Err-fetch_calib-clause-counts : goal.returns-in-Err-fetch_calib-clause-counts
returns-in-Err-fetch_calib-clause-counts g c = λ listed out.
    let names = of_merge c.args.operands.now listed in
    let list = c.in-Ok.ensures.counts names c.list.ensures in
    counts_since names (fetch_outcome c.in-Err-fetch_calib.stop) _ _ out _ _ _ list
    (c.in-Err-fetch_calib.ensures.counts names (λ own. (sym (ap is_plain_word c.calib.ensures) ∙ own, c.calib.ensures)) out)

pub returns-in-Ok-fetch_calib-clause-counts : goal.returns-in-Ok-fetch_calib-clause-counts
returns-in-Ok-fetch_calib-clause-counts g c = λ listed.
    let names = of_merge c.args.operands.now listed in
    let list = c.in-Ok.ensures.counts names c.list.ensures in
    let calib = c.in-Ok-fetch_calib.ensures.counts names (λ own. (sym (ap is_plain_word c.calib.ensures) ∙ own, c.calib.ensures)) in
    (calib.0 ∙ list.0, calib.1 ∙ list.1)
