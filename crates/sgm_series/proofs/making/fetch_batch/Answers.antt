use Rattle.std.proofs.Common.{◌≡◌, ◌∙◌, refl, Some, length}
use Rattle.std.specs.List.{slice_get}
use Rattle.std.proofs.lemmas.Option.{slice_get_read}
use Rattle.sgm_stages.proofs.Ending.{keeps_both}
use Rattle.sgm_series.proofs.Batching.{batch_more, answers_more, inputs_more, judged_more, batch_shown, batch_counts, fetched_since, readable_since}
use Rattle.sgm_series.proofs.making.fetch_batch.Goals as goal

pub returns-in-Err-clause-stop : goal.returns-in-Err-clause-stop
returns-in-Err-clause-stop g c = λ told verdicts are.
    let so = c.loop-place.invariant in
    let entry = c.index-entries-place.result in
    let at = slice_get_read c.args.entries.now (length c.args.entries.now) c.loop-place.place entry refl c.loop-place-test.true c.index-entries-place.is in
    batch_shown c.args.entries.now _ _ verdicts c.loop-place.place entry c.in-Err.stop (so.keeps.held told) are at (so.judged told verdicts are) (c.in-Err.ensures.stop told)

pub returns-in-Err-clause-counts : goal.returns-in-Err-clause-counts
returns-in-Err-clause-counts g c = λ out.
    let so = c.loop-place.invariant in
    let entry = c.index-entries-place.result in
    let at = slice_get_read c.args.entries.now (length c.args.entries.now) c.loop-place.place entry refl c.loop-place-test.true c.index-entries-place.is in
    batch_counts c.args.entries.now c.loop-place.place entry c.in-Err.stop _ _ _ _ out _ at so.reads so.writes (c.in-Err.ensures.counts out)

pub loop-place-preserved : goal.loop-place-preserved
loop-place-preserved g c =
    let so = c.loop-place.invariant in
    let entries = c.args.entries.now in
    let entry = c.index-entries-place.result in
    let n = c.loop-place.place in
    let ends = c.in-Ok.ensures in
    let has = c.in-Ok-add_entry.ensures in
    let at : slice_get entries n ≡ Some entry = slice_get_read entries (length entries) n entry refl c.loop-place-test.true c.index-entries-place.is in
    record {
      batch = batch_more n c.in-Ok.fetched c.loop-place.batch c.add_entry.new.batch so.batch has;
      answers = λ told. answers_more entries _ n entry c.in-Ok.fetched c.loop-place.batch c.add_entry.new.batch at so.batch has (fetched_since entry _ _ c.in-Ok.fetched (so.keeps.held told) (ends.fetched told)) (so.answers told);
      inputs = λ told. inputs_more entries _ n entry c.in-Ok.fetched c.loop-place.batch c.add_entry.new.batch at so.batch has (fetched_since entry _ _ c.in-Ok.fetched (so.keeps.held told) (ends.fetched told)) (so.inputs told);
      judged = λ told verdicts are. judged_more entries _ verdicts n entry are at (readable_since entry _ _ (so.keeps.held told) (ends.readable told)) (so.judged told verdicts are);
      keeps = keeps_both g.S.Shelf c.args.shelf.now c.loop-place.shelf c.fetch_entry.new.shelf so.keeps ends.keeps;
      reads = ends.counts.0 ∙ so.reads;
      writes = ends.counts.1 ∙ so.writes;
    }
