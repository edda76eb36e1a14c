use Rattle.std.proofs.Common.{arith}
use Rattle.sgm_path.specs.Paths.{RowTerms, terms_of}
use Rattle.sgm_path.proofs.Sweeps.{across_paths}
use Rattle.sgm_path.proofs.step.pass_row.Goals as goal

pub returns-then-is_adaptive-clause-paths : goal.returns-then-is_adaptive-clause-paths
returns-then-is_adaptive-clause-paths c g y s b =
    let row = c.args.row.now in
    let t : RowTerms = terms_of row in
    across_paths g y t c.args.values.now c.sweep.new.values s b row.pen.ordered row.positive
    (omega (arith, c.sweep.auto.values, c.requires.same_length)) c.requires.across c.sweep.ensures.each

pub returns-in-64-clause-paths : goal.returns-in-64-clause-paths
returns-in-64-clause-paths c g y s b =
    let row = c.args.row.now in
    let t : RowTerms = terms_of row in
    across_paths g y t c.args.values.now c.sweep-in-64.new.values s b row.pen.ordered row.positive
    (omega (arith, c.sweep-in-64.auto.values, c.requires.same_length)) c.requires.across c.sweep-in-64.ensures.each

pub returns-in-128-clause-paths : goal.returns-in-128-clause-paths
returns-in-128-clause-paths c g y s b =
    let row = c.args.row.now in
    let t : RowTerms = terms_of row in
    across_paths g y t c.args.values.now c.sweep-in-128.new.values s b row.pen.ordered row.positive
    (omega (arith, c.sweep-in-128.auto.values, c.requires.same_length)) c.requires.across c.sweep-in-128.ensures.each

pub returns-in_default-clause-paths : goal.returns-in_default-clause-paths
returns-in_default-clause-paths c g y s b =
    let row = c.args.row.now in
    let t : RowTerms = terms_of row in
    across_paths g y t c.args.values.now c.sweep-in_default.new.values s b row.pen.ordered row.positive
    (omega (arith, c.sweep-in_default.auto.values, c.requires.same_length)) c.requires.across c.sweep-in_default.ensures.each
