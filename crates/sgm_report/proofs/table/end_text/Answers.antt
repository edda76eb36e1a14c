use Rattle.std.proofs.Common.{to_z, of_z, w32, sym, subst, ◌∙◌, arith}
use Rattle.std.proofs.lemmas.Int.{ints}
use Rattle.sgm_report.specs.Writers.{IsPlain}
use Rattle.sgm_report.proofs.Plain.{signed_plain}
use Rattle.sgm_report.proofs.table.end_text.Goals as goal

pub returns-in-Some-clause-plain : goal.returns-in-Some-clause-plain
returns-in-Some-clause-plain c =
    subst IsPlain (sym (c.as_bytes.ensures.value ∙ c.format.ensures.text))
    (signed_plain (to_z w32 (of_z w32 c.in-Some.height)) (omega (arith, ints)) (omega (arith, ints)))
