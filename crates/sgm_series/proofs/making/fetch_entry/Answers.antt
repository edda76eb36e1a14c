use Rattle.std.proofs.Common.{◌∙◌, refl, sym, subst, Err}
use Rattle.sgm_outcome.specs.declared.outcome.Refusal.{Refusal}
use Rattle.sgm_stages.specs.declared.stops.TextsError.TheVariants.{Refused}
use Rattle.sgm_series.specs.Answers.{IsAnswerOf}
use Rattle.sgm_series.specs.Plans.{names_for}
use Rattle.sgm_series.proofs.Fetching.{inputs_of, readable, refused_is, place_counts, place_shown, stop_shown, too_long, too_long_readable, have_names, stop_counts}
use Rattle.sgm_series.proofs.making.fetch_entry.Goals as goal

pub returns-in-Ok-clause-fetched : goal.returns-in-Ok-clause-fetched
returns-in-Ok-clause-fetched g c = λ told. inputs_of c.args.entry.now c.operands_of.result _ c.in-Ok.inputs c.operands_of.ensures (c.in-Ok.ensures.verdict told) (c.in-Ok.ensures.at_hand told)

pub returns-in-Ok-clause-readable : goal.returns-in-Ok-clause-readable
returns-in-Ok-clause-readable g c = λ told. readable c.args.entry.now c.operands_of.result _ c.operands_of.ensures (c.in-Ok.ensures.verdict told)

pub returns-in-Ok-clause-counts : goal.returns-in-Ok-clause-counts
returns-in-Ok-clause-counts g c = c.in-Ok.ensures.counts (names_for c.args.entry.now) (have_names c.args.entry.now c.operands_of.result c.operands_of.ensures)

-- ---- a refusal

pub returns-in-Ok-refused-clause-fetched : goal.returns-in-Ok-refused-clause-fetched
returns-in-Ok-refused-clause-fetched g c = λ told.
    let long = refused_is c.args.place c.in-Err.stop c.in-Ok-refused.refusal (sym c.refused.ensures ∙ c.in-Ok-refused.is) in
    let P : Refusal → Type 0 = λ r. IsAnswerOf c.args.entry.now (g.S.Shelf.held c.args.shelf.now) (Err (Refused r)) in
    subst P (sym long.2) (too_long c.args.entry.now c.operands_of.result _ c.in-Err.stop long.0 c.operands_of.ensures long.1 (c.in-Err.ensures.verdict told))

pub returns-in-Ok-refused-clause-readable : goal.returns-in-Ok-refused-clause-readable
returns-in-Ok-refused-clause-readable g c = λ told.
    let long = refused_is c.args.place c.in-Err.stop c.in-Ok-refused.refusal (sym c.refused.ensures ∙ c.in-Ok-refused.is) in
    too_long_readable c.args.entry.now c.operands_of.result _ c.in-Err.stop long.0 c.operands_of.ensures long.1 (c.in-Err.ensures.verdict told)

pub returns-in-Ok-refused-clause-counts : goal.returns-in-Ok-refused-clause-counts
returns-in-Ok-refused-clause-counts g c =
    let long = refused_is c.args.place c.in-Err.stop c.in-Ok-refused.refusal (sym c.refused.ensures ∙ c.in-Ok-refused.is) in
    let same = stop_counts c.args.entry.now c.operands_of.result c.in-Err.stop _ _ _ c.operands_of.ensures long.1 (λ names have. c.in-Err.ensures.counts names have 0) in
    (same.reads, same.writes)

-- ---- a stop of the batch

pub returns-in-Err-refused-clause-stop : goal.returns-in-Err-refused-clause-stop
returns-in-Err-refused-clause-stop g c = λ told v calls.
    place_shown c.args.place c.in-Err.stop c.in-Err-refused.stop v (sym c.refused.ensures ∙ c.in-Err-refused.is)
    (stop_shown c.args.entry.now c.operands_of.result _ c.in-Err.stop c.in-Err.stop v c.operands_of.ensures refl (c.in-Err.ensures.verdict told) calls)

pub returns-in-Err-refused-clause-counts : goal.returns-in-Err-refused-clause-counts
returns-in-Err-refused-clause-counts g c = λ out.
    place_counts c.args.place c.args.entry.now c.in-Err.stop c.in-Err-refused.stop _ _ (sym c.refused.ensures ∙ c.in-Err-refused.is)
    (stop_counts c.args.entry.now c.operands_of.result c.in-Err.stop c.in-Err.stop _ _ c.operands_of.ensures refl (λ names have. c.in-Err.ensures.counts names have out))
