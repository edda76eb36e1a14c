use Rattle.std.proofs.Common.{◌∙◌, arith, Fits, w64}
use Rattle.std.proofs.lemmas.List.{get_or-map}
use Rattle.std.proofs.lemmas.Simd.{Each1-get_or}
use Rattle.sgm_lanes.proofs.Lanes.{counts, length_counts, counted, counts_fit}
use Rattle.sgm_lanes.proofs.codes.differing_lanes.Goals as goal

pub overflow_cast-result-2 : goal.overflow_cast-result-2
overflow_cast-result-2 c =
    counts_fit c.args.a c.args.b (omega arith) (omega arith)
    (λ i lt. (Each1-get_or (Fits w64) c.args.a i 0 (omega arith) c.fits-a.1).fits) (λ i lt. (Each1-get_or (Fits w64) c.args.b i 0 (omega arith) c.fits-b.1).fits)

pub returns-clause-each : goal.returns-clause-each
returns-clause-each c i lt =
    let long = length_counts c.args.a c.args.b (omega arith) (omega arith) in
    get_or-map (λ x. x) (counts c.args.a c.args.b) i 0 0 (omega (arith, long)) ∙ counted c.args.a c.args.b i (omega arith) (omega arith) lt
