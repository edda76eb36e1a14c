use Rattle.std.proofs.Common.{◌∙◌, ap, sym, arith, List, ℕ}
use Rattle.sgm_io.specs.Held.{Held}
use Rattle.sgm_words.specs.Operands.{is_plain, is_plain_word}
use Rattle.sgm_words.specs.declared.files.Input.TheVariants as input
use Rattle.sgm_stages.specs.Stops.{fetch_outcome}
use Rattle.sgm_stages.specs.Verdict.{pair_fetched, fetched, calib_fetched}
use Rattle.sgm_stages.proofs.Counting.{counts_since, goes_by, shown_by}
use Rattle.sgm_stages.proofs.Steps.{shown_along}
use Rattle.sgm_stages.proofs.VerdictLaws.{none_fetched, none_less, none_calib_fetched}
use Rattle.sgm_stages.proofs.gathering.gather.Goals as goal

pub returns-in-Err-clause-verdict : goal.returns-in-Err-clause-verdict
unfolding pair_fetched
returns-in-Err-clause-verdict g c = λ told last none.
    let asked = c.args.operands.now in let held = g.S.Shelf.held c.args.shelf.now in
    let next = fetched input.Right (held asked.right) (calib_fetched (is_plain asked) (held asked.calib) last) in
    shown_by input.Left held c.left.result.now asked.left next (fetch_outcome c.in-Err.stop) c.left.ensures (c.in-Err.ensures.bytes told next (none_fetched 1 input.Right (held asked.right) _ (omega arith) (none_calib_fetched 1 (is_plain asked) (held asked.calib) last (omega arith) (none_less 1 4 last (omega arith) none))))

pub returns-in-Err-fetch_input-clause-verdict : goal.returns-in-Err-fetch_input-clause-verdict
unfolding pair_fetched
returns-in-Err-fetch_input-clause-verdict g c = λ told last none.
    let asked = c.args.operands.now in let held = g.S.Shelf.held c.args.shelf.now in
    let next = calib_fetched (is_plain asked) (held asked.calib) last in
    shown_along _ _ _
    (goes_by input.Left held c.left.result.now asked.left (fetched input.Right (held asked.right) next) c.left.ensures ((c.in-Ok.ensures.bytes told).1 (fetched input.Right (held asked.right) next))
    ∙ ap (λ (n : List ℕ). fetched input.Right (held n) next) (sym c.right.ensures)
    ∙ ap (λ (h : Held). fetched input.Right (h c.right.result.now) next) (sym (c.in-Ok.ensures.keeps.held told)))
    (c.in-Err-fetch_input.ensures.bytes told next (none_calib_fetched 2 (is_plain asked) (held asked.calib) last (omega arith) (none_less 2 4 last (omega arith) none)))

pub returns-in-Err-fetch_calib-clause-verdict : goal.returns-in-Err-fetch_calib-clause-verdict
unfolding pair_fetched
returns-in-Err-fetch_calib-clause-verdict g c = λ told last none.
    let asked = c.args.operands.now in let held = g.S.Shelf.held c.args.shelf.now in
    let next = calib_fetched (is_plain asked) (held asked.calib) last in
    let kept = c.in-Ok-fetch_input.ensures.keeps.held told ∙ c.in-Ok.ensures.keeps.held told in
    shown_along _ _ _
    (goes_by input.Left held c.left.result.now asked.left (fetched input.Right (held asked.right) next) c.left.ensures ((c.in-Ok.ensures.bytes told).1 (fetched input.Right (held asked.right) next))
    ∙ ap (λ (n : List ℕ). fetched input.Right (held n) next) (sym c.right.ensures)
    ∙ ap (λ (h : Held). fetched input.Right (h c.right.result.now) next) (sym (c.in-Ok.ensures.keeps.held told))
    ∙ (c.in-Ok-fetch_input.ensures.bytes told).1 next
    ∙ ap (λ (n : List ℕ). calib_fetched (is_plain_word n) (held n) last) (sym c.calib.ensures)
    ∙ ap (λ (h : Held). calib_fetched (is_plain_word c.calib.result.now) (h c.calib.result.now) last) (sym kept))
    (c.in-Err-fetch_calib.ensures.bytes told last (none_less 3 4 last (omega arith) none))

pub returns-in-Ok-fetch_calib-clause-verdict : goal.returns-in-Ok-fetch_calib-clause-verdict
unfolding pair_fetched
returns-in-Ok-fetch_calib-clause-verdict g c = λ told last none.
    let asked = c.args.operands.now in let held = g.S.Shelf.held c.args.shelf.now in
    let next = calib_fetched (is_plain asked) (held asked.calib) last in
    let kept = c.in-Ok-fetch_input.ensures.keeps.held told ∙ c.in-Ok.ensures.keeps.held told in
    goes_by input.Left held c.left.result.now asked.left (fetched input.Right (held asked.right) next) c.left.ensures ((c.in-Ok.ensures.bytes told).1 (fetched input.Right (held asked.right) next))
    ∙ ap (λ (n : List ℕ). fetched input.Right (held n) next) (sym c.right.ensures)
    ∙ ap (λ (h : Held). fetched input.Right (h c.right.result.now) next) (sym (c.in-Ok.ensures.keeps.held told))
    ∙ (c.in-Ok-fetch_input.ensures.bytes told).1 next
    ∙ ap (λ (n : List ℕ). calib_fetched (is_plain_word n) (held n) last) (sym c.calib.ensures)
    ∙ ap (λ (h : Held). calib_fetched (is_plain_word c.calib.result.now) (h c.calib.result.now) last) (sym kept)
    ∙ (c.in-Ok-fetch_calib.ensures.bytes told).1 last

pub returns-in-Err-fetch_input-clause-counts : goal.returns-in-Err-fetch_input-clause-counts
returns-in-Err-fetch_input-clause-counts g c = λ names have out.
    let left = c.in-Ok.ensures.counts names (have input.Left c.left.result.now c.left.ensures) in
    counts_since names (fetch_outcome c.in-Err-fetch_input.stop) _ _ out _ _ _ left (c.in-Err-fetch_input.ensures.counts names (have input.Right c.right.result.now c.right.ensures) out)

pub returns-in-Err-fetch_calib-clause-counts : goal.returns-in-Err-fetch_calib-clause-counts
returns-in-Err-fetch_calib-clause-counts g c = λ names have out.
    let left = c.in-Ok.ensures.counts names (have input.Left c.left.result.now c.left.ensures) in
    let right = c.in-Ok-fetch_input.ensures.counts names (have input.Right c.right.result.now c.right.ensures) in
    counts_since names (fetch_outcome c.in-Err-fetch_calib.stop) _ _ out _ _ _ (right.0 ∙ left.0, right.1 ∙ left.1) (c.in-Err-fetch_calib.ensures.counts names (λ own. have input.Calibration c.calib.result.now (sym (ap is_plain_word c.calib.ensures) ∙ own, c.calib.ensures)) out)

pub returns-in-Ok-fetch_calib-clause-counts : goal.returns-in-Ok-fetch_calib-clause-counts
returns-in-Ok-fetch_calib-clause-counts g c = λ names have.
    let left = c.in-Ok.ensures.counts names (have input.Left c.left.result.now c.left.ensures) in
    let right = c.in-Ok-fetch_input.ensures.counts names (have input.Right c.right.result.now c.right.ensures) in
    let calib = c.in-Ok-fetch_calib.ensures.counts names (λ own. have input.Calibration c.calib.result.now (sym (ap is_plain_word c.calib.ensures) ∙ own, c.calib.ensures)) in
    (calib.0 ∙ right.0 ∙ left.0, calib.1 ∙ right.1 ∙ left.1)
