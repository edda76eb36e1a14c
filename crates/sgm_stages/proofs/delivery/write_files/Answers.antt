use Rattle.std.proofs.Common.{◌∙◌, sym}
use Rattle.std.proofs.lemmas.List.Elements.{All-contains}
use Rattle.sgm_stages.specs.Outputs.{IsNamed}
use Rattle.sgm_stages.specs.Stops.{write_outcome}
use Rattle.sgm_stages.proofs.Counting.{counts_since}
use Rattle.sgm_stages.proofs.Filing.{files_more, stops}
use Rattle.sgm_stages.proofs.Finishing.{finishing_more, leaves_one}
use Rattle.sgm_stages.proofs.delivery.write_files.Goals as goal

pub loop-file-preserved : goal.loop-file-preserved
loop-file-preserved g c = record {
  held = λ told. files_more c.args.files.now c.loop-file.file-index c.file-item.result _ _ _ c.loop-file-test.true c.file-item.is (c.loop-file.invariant.held told) (c.in-Ok.ensures.held told);
  begun = λ _. c.in-Ok.ensures.writing;
  unfinished = finishing_more c.args.files.now c.loop-file.file-index c.file-item.result _ _ _ c.loop-file-test.true c.file-item.is c.loop-file.invariant.unfinished c.in-Ok.ensures.unfinished;
  reads = c.in-Ok.ensures.counts.0 ∙ c.loop-file.invariant.reads;
  writes = c.in-Ok.ensures.counts.1 ∙ c.loop-file.invariant.writes;
}

pub returns-in-Err-clause-held : goal.returns-in-Err-clause-held
returns-in-Err-clause-held g c = λ told.
    stops c.args.files.now c.loop-file.file-index c.file-item.result c.in-Err.stop _ _ _ c.loop-file-test.true c.file-item.is (c.loop-file.invariant.held told) c.in-Err.ensures.stop (c.in-Err.ensures.held told)

pub returns-in-Err-clause-unfinished : goal.returns-in-Err-clause-unfinished
returns-in-Err-clause-unfinished g c =
    leaves_one c.args.files.now c.loop-file.file-index c.file-item.result c.in-Err.stop _ _ _ c.loop-file-test.true c.file-item.is c.loop-file.invariant.unfinished c.in-Err.ensures.stop c.in-Err.ensures.unfinished

pub returns-in-Err-clause-counts : goal.returns-in-Err-clause-counts
returns-in-Err-clause-counts g c = λ out names named.
    counts_since names (write_outcome c.in-Err.stop) _ _ out _ _ _ (c.loop-file.invariant.reads, c.loop-file.invariant.writes)
    (c.in-Err.ensures.counts out names (All-contains (IsNamed names) c.args.files.now c.file-item.result named (c.loop-file.file-index, c.loop-file-test.true, sym c.file-item.is)))
