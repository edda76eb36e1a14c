use Rattle.std.proofs.Common.{◌≡◌, ℕ, ◌+◌, ◌++◌, List, [], ◌∷◌, length, take, rules, ap, sym, subst, ◌∙◌, arith}
use Rattle.std.proofs.lemmas.List.{length_push}
use Rattle.std.proofs.lemmas.Slice.Zip.{zip_end, zip_turn}
use Rattle.sgm_report.specs.Areas.{Area, IsRegionName}
use Rattle.sgm_report.specs.Table.{fields_line, region_fields, table_text}
use Rattle.sgm_report.specs.Writers.{text_of}
use Rattle.sgm_report.proofs.Rows.{table_all, table_more, text_more}
use Rattle.sgm_report.proofs.table.write_rows.Goals as goal

pub loop-region-preserved : goal.loop-region-preserved
loop-region-preserved c =
    let columns = c.args.columns in
    let areas = c.args.regions.now in
    let tallies = c.args.tallies.now in
    let area = c.in-Some.region.now in
    let tally = c.in-Some.tally.now in
    let k = length c.loop-region.yielded in
    let turn = zip_turn areas tallies c.loop-region.yielded c.into_iter-region-iterator.result c.loop-region.region-iterator c.next.new.self c.next.result
    (search rules) (search rules) c.loop-region.yielded_by (c.in-Some.region, c.in-Some.tally) c.in-Some.is c.next.ensures.steps in
    let count : length (c.loop-region.yielded ++ (c.in-Some.region, c.in-Some.tally) ∷ []) ≡ k + 1 = length_push c.loop-region.yielded (c.in-Some.region, c.in-Some.tally) in
    let text = table_more columns areas tallies k area tally turn.0 turn.1 (turn.2 area) (turn.3 tally) in
    record {
      writer = c.in_ok-write_region.ensures.writer;
      text = text_more (text_of c.args.writer.now) (text_of c.loop-region.writer) (text_of c.write_region.new.writer) (fields_line (region_fields columns area tally)) _
          (table_text columns (take k areas) (take k tallies)) c.loop-region.invariant.text c.in_ok-write_region.ensures.text
          (ap (λ (n : ℕ). table_text columns (take n areas) (take n tallies)) count ∙ text);
    }

pub write_region-requires-clause-name : goal.write_region-requires-clause-name
write_region-requires-clause-name c =
    let areas = c.args.regions.now in
    let area = c.in-Some.region.now in
    let turn = zip_turn areas c.args.tallies.now c.loop-region.yielded c.into_iter-region-iterator.result c.loop-region.region-iterator c.next.new.self c.next.result
    (search rules) (search rules) c.loop-region.yielded_by (c.in-Some.region, c.in-Some.tally) c.in-Some.is c.next.ensures.steps in
    subst (λ (a : Area). IsRegionName a.name) (sym (turn.2 area)) (c.requires.names _ area turn.0)

pub returns : goal.returns
returns c =
    let columns = c.args.columns in
    let areas = c.args.regions.now in
    let tallies = c.args.tallies.now in
    let count = zip_end areas tallies c.loop-region.yielded c.into_iter-region-iterator.result c.loop-region.region-iterator c.next.new.self c.next.result
    (search rules) (search rules) c.loop-region.yielded_by c.in-None.is c.next.ensures.steps in
    c.loop-region.invariant.text
    ∙ ap (λ (t : List ℕ). text_of c.args.writer.now ++ t)
    (table_all columns areas tallies (length c.loop-region.yielded) (omega (arith, count, c.requires.lengths)) (omega (arith, count, c.requires.lengths)))
