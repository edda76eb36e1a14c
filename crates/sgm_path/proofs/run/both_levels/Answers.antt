use Rattle.std.proofs.Common.{◌+◌, ◌*◌, ◌<◌, length, refl, arith}
use Rattle.std.proofs.lemmas.Nat.{mul-add-lt}
use Rattle.sgm_energy.specs.declared.dir.Dir.{Dir}
use Rattle.sgm_energy.specs.declared.dir.Dir.TheVariants.{Right, Left}
use Rattle.sgm_energy.specs.Pens.{penalties_of}
use Rattle.sgm_path.specs.Paths.{RowTerms, terms_of}
use Rattle.sgm_path.proofs.Sweeps.{follows_of, level_paths}
use Rattle.sgm_path.proofs.run.both_levels.Goals as goal

pub returns : goal.returns
returns k c g y s f =
    let terms : Dir → RowTerms = λ dir. record {
      dir = dir;
      penalties = penalties_of c.args.pen;
      costs = c.args.costs.now;
      guide = c.args.guide.now;
      guide_before = c.args.guide.now;
      count = c.args.count;
    } in
    let right = level_paths g y (terms Right) c.args.into.now c.sweep.new.values s f c.args.pen.ordered (omega (arith, c.requires.costs.0))
    (omega (arith, c.sweep.auto.values, c.requires.same_length)) refl
    (follows_of (terms_of c.make-right.result) (terms Right) c.args.into.now c.sweep.new.values c.make-right.ensures c.sweep.ensures.each) in
    let left = level_paths g y (terms Left) c.args.spare.now c.sweep-2.new.values s f c.args.pen.ordered (omega (arith, c.requires.costs.0))
    (omega (arith, c.sweep-2.auto.values, c.requires.spare_length, c.requires.same_length)) refl
    (follows_of (terms_of c.make-left.result) (terms Left) c.args.spare.now c.sweep-2.new.values c.make-left.ensures c.sweep-2.ensures.each) in
    record {
      whole = omega (arith, right.whole, c.sweep-2.auto.sums);
      each = λ x d hx hd.
          let inside : x * g.count + d < length c.sweep-2.new.sums = omega (arith, mul-add-lt x g.count d g.width hx hd, right.whole, c.sweep-2.auto.sums) in
          omega (arith, c.sweep-2.ensures.added refl (x * g.count + d) inside, right.each x d hx hd, left.each x d hx hd);
    }
