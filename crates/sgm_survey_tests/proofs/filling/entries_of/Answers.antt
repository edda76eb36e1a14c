use Rattle.std.proofs.Common.{◌∙◌, ◌||◌, eqb, unwrap_or, ℕ, List, Option, ap, sym}
use Rattle.std.specs.List.{list_all}
use Rattle.sgm_survey_tests.proofs.Indices.{indices}
use Rattle.sgm_survey_tests.proofs.filling.entries_of.Goals as goal

pub fill-requires-clause-indices : goal.fill-requires-clause-indices
fill-requires-clause-indices c =
    indices _
    (ap (λ (es : List (Option ℕ)). list_all (λ entry. eqb (unwrap_or entry 0) 0 || eqb (unwrap_or entry 0) 16) es) (sym c.entries.ensures) ∙ (sym c.are_indices.ensures ∙ c.if-not-are_indices.false))
