use Rattle.std.proofs.Common.{◌≡◌, ◌∙◌, ◌+◌, refl, sym, ap, subst, arith, length, string_bytes, option_map, slice_get, List, ℕ, Some}
use Rattle.std.proofs.lemmas.List.{length-map}
use Rattle.std.proofs.lemmas.Option.{slice_get-map, slice_get_read}
use Rattle.sgm_merge.specs.Merging.{Merging}
use Rattle.sgm_words.specs.Operands.{bytes_of}
use Rattle.sgm_io.specs.Held.{Held}
use Rattle.sgm_stages.specs.Ends.{ShownBy}
use Rattle.sgm_stages.specs.Verdict.{entry_fetched}
use Rattle.sgm_stages.proofs.Counting.{counts_since}
use Rattle.sgm_stages.proofs.Ending.{keeps_both}
use Rattle.sgm_stages.proofs.EntryLaws.{no_words, none_added, one_added, one_shown}
use Rattle.sgm_stages.proofs.entries.add_entries.Goals as goal

pub loop-number-init : goal.loop-number-init
loop-number-init g c = record {
  keeps = record { held = λ told. refl; writing = refl; unfinished = refl };
  added = λ told. none_added _ _ _;
  spec = refl;
  count = omega arith;
  reads = refl;
  writes = refl;
}

pub returns-in-Err-clause-entries : goal.returns-in-Err-clause-entries
returns-in-Err-clause-entries g c = λ told.
    let so = c.loop-number.invariant in
    let names = c.args.names.now in
    let n = c.loop-number.number in
    let name = c.as_str.result.now in
    let at : slice_get (bytes_of names) n ≡ Some name =
    slice_get-map string_bytes names n
    ∙ ap (option_map string_bytes) (slice_get_read names (length names) n c.index-names-number.result refl c.loop-number-test.true c.index-names-number.is)
    ∙ ap (λ (x : List ℕ). Some x) (sym c.as_str.ensures.value) in
    one_shown c.args.merge.now c.loop-number.merge (bytes_of names) (g.S.Shelf.held c.args.shelf.now) n name c.in-Err.outcome
    (omega (arith, c.loop-number-test.true, length-map names string_bytes)) at so.spec (so.added told)
    (λ next none.
    let P : Held → Type 0 = λ h. ShownBy (entry_fetched c.loop-number.merge.spec n (h name) next) c.in-Err.outcome in
    subst P (so.keeps.held told) (c.in-Err.ensures.entry told next none))

pub returns-in-Err-clause-counts : goal.returns-in-Err-clause-counts
returns-in-Err-clause-counts g c = λ known are out.
    let so = c.loop-number.invariant in
    let names = c.args.names.now in
    let n = c.loop-number.number in
    let name = c.as_str.result.now in
    let at : slice_get (bytes_of names) n ≡ Some name =
    slice_get-map string_bytes names n
    ∙ ap (option_map string_bytes) (slice_get_read names (length names) n c.index-names-number.result refl c.loop-number-test.true c.index-names-number.is)
    ∙ ap (λ (x : List ℕ). Some x) (sym c.as_str.ensures.value) in
    counts_since known c.in-Err.outcome _ _ out _ _ _ (so.reads, so.writes) (c.in-Err.ensures.counts known (are n name at) out)

pub loop-number-preserved : goal.loop-number-preserved
loop-number-preserved g c =
    let so = c.loop-number.invariant in
    let ends = c.in-Ok.ensures in
    let names = c.args.names.now in
    let n = c.loop-number.number in
    let name = c.as_str.result.now in
    let at : slice_get (bytes_of names) n ≡ Some name =
    slice_get-map string_bytes names n
    ∙ ap (option_map string_bytes) (slice_get_read names (length names) n c.index-names-number.result refl c.loop-number-test.true c.index-names-number.is)
    ∙ ap (λ (x : List ℕ). Some x) (sym c.as_str.ensures.value) in
    record {
      keeps = keeps_both g.S.Shelf _ _ _ so.keeps ends.keeps;
      added = λ told.
          let one = ends.entry told in
          one_added c.args.merge.now c.loop-number.merge c.add_entry.new.merge (bytes_of names) (g.S.Shelf.held c.args.shelf.now) n name one.0
          (omega (arith, c.loop-number-test.true, length-map names string_bytes)) at so.spec (so.added told) one.1
          (λ next.
          let P : Held → Type 0 = λ h. entry_fetched c.loop-number.merge.spec n (h name) next ≡ next one.0 in
          subst P (so.keeps.held told) (one.2 next));
      spec = ap (λ (m : Merging). m.spec) ends.one.1 ∙ so.spec;
      count = ap (λ (m : Merging). m.entries) ends.one.1 ∙ (let e : c.loop-number.merge.entries + 1 ≡ c.args.merge.now.entries + (n + 1) = omega (arith, so.count) in e);
      reads = (ends.counts no_words tt).0 ∙ so.reads;
      writes = (ends.counts no_words tt).1 ∙ so.writes;
    }
