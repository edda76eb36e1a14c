use Rattle.std.proofs.Common.{◌≤◌, ◌∙◌, sym, ap, slice_index, zero-add, arith}
use Rattle.std.proofs.lemmas.List.Elements.{All-from_get_or}
use Rattle.sgm_path.specs.Paths.{terms_of}
use Rattle.sgm_path.proofs.PathRows.{paths_alone}
use Rattle.sgm_path.proofs.step.begin_row.Goals as goal

pub returns-clause-bound : goal.returns-clause-bound
returns-clause-bound c =
    All-from_get_or (λ v. v ≤ 4062) c.begin.new.values 0
    (λ k h. omega (arith, ap (slice_index c.begin.new.values) (zero-add k), c.begin.ensures.bound k (omega (arith, h, c.begin.auto.values))))

pub returns-clause-paths : goal.returns-clause-paths
returns-clause-paths c g y s e =
    let t = terms_of c.args.row.now in
    let values = c.begin.new.values in
    paths_alone g t.dir y t.penalties.p1 t.count t.costs values s (omega (arith, c.begin.auto.values, c.requires.same_length)) e
    (λ k h. ap (slice_index values) (sym (zero-add k)) ∙ c.begin.ensures.each k (omega (arith, h, c.begin.auto.values)) ∙ ap (slice_index t.costs) (zero-add k))
