use Rattle.std.proofs.Common.{◌+◌, ◌-◌, ◌∙◌, arith, sym, false, get_or, length}
use Rattle.std.proofs.lemmas.List.{length-drop}
use Rattle.sgm_census.proofs.RowBits.{marks_more}
use Rattle.sgm_census.proofs.Threes.{marks_kept}
use Rattle.sgm_census.proofs.pack.keep_row.Goals as goal

pub returns-then-all_set : goal.returns-then-all_set
returns-then-all_set c = λ k h. marks_kept (get_or c.args.present.now k false) c.args.row.now k c.args.wide (sym c.all_set.ensures ∙ c.if-all_set.true)

pub loop-i-preserved : goal.loop-i-preserved
loop-i-preserved c = λ k h.
    let row = c.args.row.now in
    let i = c.loop-i.i in
    marks_more (get_or c.args.present.now k false) (get_or c.loop-i.present k false) (get_or c.keep.new.present k false) row k i (i + length c.args.present.now - i)
    (omega arith) (omega (arith, length-drop k row)) (c.loop-i.invariant k (omega arith)) (c.keep.ensures k h)
