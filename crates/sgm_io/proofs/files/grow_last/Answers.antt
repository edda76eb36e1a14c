use Rattle.std.proofs.Common.{◌-◌, ap, length, get_or}
use Rattle.std.proofs.lemmas.Result.{on_ok_weaker}
use Rattle.sgm_io.specs.Held.{NamedBytes}
use Rattle.sgm_io.proofs.FiledLaws.{put_all-grown, same_last, same_name}
use Rattle.sgm_io.proofs.files.grow_last.Goals as goal

pub returns-clause-ok : goal.returns-clause-ok
returns-clause-ok c = let fs = c.args.files.now in let n = length fs - 1 in let f = get_or fs n c.index-files-last.result in
    on_ok_weaker c.grow.result (λ is first. put_all-grown first fs f c.grow.new.self c.args.piece.now c.requires.some (ap (λ (x : NamedBytes). get_or fs n x) c.index-files-last.is) is) c.grow.ensures.ok

pub returns-clause-name : goal.returns-clause-name
returns-clause-name c = let fs = c.args.files.now in let n = length fs - 1 in let f = get_or fs n c.index-files-last.result in
    same_last fs f c.grow.new.self c.requires.some (ap (λ (x : NamedBytes). get_or fs n x) c.index-files-last.is) (same_name c.grow.result f c.grow.new.self c.args.piece.now c.grow.ensures.ok c.grow.ensures.err)
