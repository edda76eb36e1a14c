use Rattle.std.proofs.Common.{arith}
use Rattle.sgm_energy.specs.Pens.{penalties_of}
use Rattle.sgm_path.specs.Paths.{RowTerms, terms_of}
use Rattle.sgm_path.proofs.Sweeps.{follows_of, level_paths}
use Rattle.sgm_path.proofs.run.run_row.Goals as goal

pub returns-then-is_adaptive-clause-paths : goal.returns-then-is_adaptive-clause-paths
returns-then-is_adaptive-clause-paths c g y s f =
    let t : RowTerms = record {
      dir = c.args.dir;
      penalties = penalties_of c.args.pen;
      costs = c.args.costs.now;
      guide = c.args.guide.now;
      guide_before = c.args.guide.now;
      count = c.args.count;
    } in
    level_paths g y t c.args.into.now c.sweep.new.values s f c.args.pen.ordered (omega (arith, c.requires.costs.0))
    (omega (arith, c.sweep.auto.values, c.requires.same_length)) c.requires.level
    (follows_of (terms_of c.make-row.result) t c.args.into.now c.sweep.new.values c.make-row.ensures c.sweep.ensures.each)

pub returns-else-is_adaptive-clause-paths : goal.returns-else-is_adaptive-clause-paths
returns-else-is_adaptive-clause-paths c g y s f =
    let t : RowTerms = record {
      dir = c.args.dir;
      penalties = penalties_of c.args.pen;
      costs = c.args.costs.now;
      guide = c.args.guide.now;
      guide_before = c.args.guide.now;
      count = c.args.count;
    } in
    level_paths g y t c.args.into.now c.sweep-else-is_adaptive.new.values s f c.args.pen.ordered (omega (arith, c.requires.costs.0))
    (omega (arith, c.sweep-else-is_adaptive.auto.values, c.requires.same_length)) c.requires.level
    (follows_of (terms_of c.make-row.result) t c.args.into.now c.sweep-else-is_adaptive.new.values c.make-row.ensures c.sweep-else-is_adaptive.ensures.each)
