use Rattle.std.proofs.Common.{◌≡◌, ◌+◌, ◌*◌, ◌^◌, ◌<◌, ◌++◌, false, ap, ◌∙◌, arith, drop, get_or, length, subst, sym, take}
use Rattle.std.proofs.lemmas.Nat.{pow_pos}
use Rattle.sgm_census.specs.Codes.{code_by}
use Rattle.sgm_census.specs.Windows.{greatest_of}
use Rattle.sgm_census.proofs.CodeLists.{part_small}
use Rattle.sgm_census.proofs.CodeRows.{IsWritten, written}
use Rattle.sgm_census.proofs.SmoothedRows.{part_unset, whole_row_more}
use Rattle.sgm_census.proofs.rows.coded_rows.Goals as goal

pub coded_row-requires-clause-blank : goal.coded_row-requires-clause-blank
coded_row-requires-clause-blank c =
    let coding = c.args.coding.now in
    let n = greatest_of coding.window in
    let width = coding.plain.width in
    let from : c.loop-r.r * width ≡ c.loop-r.r * coding.plane.now.width = ap (λ k. c.loop-r.r * k) coding.holds.width_is in
    record {
      words_full = omega (arith, coding.holds.width_is);
      present_full = omega (arith, coding.holds.width_is);
      within = λ k. subst (λ us. get_or us k 0 < 2 ^ n) (sym (c.split_at_mut-row_words.ensures.front ∙ ap (take width) c.split_at_mut-rest.ensures.back))
          (part_small (2 ^ n) c.loop-r.words (c.loop-r.r * width) width k (pow_pos n) c.loop-r.invariant.within);
      none = λ k. ap (λ us. get_or us k false) (c.split_at_mut-row_present.ensures.front ∙ ap (take width) c.split_at_mut-rest-in-loop-r.ensures.back)
          ∙ part_unset c.loop-r.present (c.loop-r.r * width) width (λ j l. c.loop-r.invariant.left j (omega (arith, from))) k;
    }

pub loop-r-preserved : goal.loop-r-preserved
loop-r-preserved c =
    let coding = c.args.coding.now in
    let plane = coding.plane.now in
    let window = coding.window in
    let r = c.loop-r.r in
    let width = coding.plain.width in
    let wide : width ≡ plane.width = coding.holds.width_is in
    let from : r * width ≡ r * plane.width = ap (λ n. r * n) wide in
    let words = c.coded_row.new.words in
    let present = c.coded_row.new.present in
    let long_words : length words ≡ width = omega arith in
    let long_present : length present ≡ width = omega arith in
    let words_in : IsWritten (r * plane.width) c.loop-r.words words (c.split_at_mut-rest.result.0.now ++ (words ++ c.split_at_mut-row_words.result.1.now)) 0 =
    subst (λ n. IsWritten n c.loop-r.words words (c.split_at_mut-rest.result.0.now ++ (words ++ c.split_at_mut-row_words.result.1.now)) 0) from
    (written (r * width) c.loop-r.words c.split_at_mut-rest.result.0.now c.split_at_mut-rest.result.1.now words c.split_at_mut-row_words.result.1.now 0
    c.split_at_mut-rest.ensures.front c.split_at_mut-rest.ensures.front_len c.split_at_mut-rest.ensures.back
    (c.split_at_mut-row_words.ensures.back ∙ ap (λ n. drop n c.split_at_mut-rest.result.1.now) (sym long_words))) in
    let present_in : IsWritten (r * plane.width) c.loop-r.present present (c.split_at_mut-rest-in-loop-r.result.0.now ++ (present ++ c.split_at_mut-row_present.result.1.now)) false =
    subst (λ n. IsWritten n c.loop-r.present present (c.split_at_mut-rest-in-loop-r.result.0.now ++ (present ++ c.split_at_mut-row_present.result.1.now)) false) from
    (written (r * width) c.loop-r.present c.split_at_mut-rest-in-loop-r.result.0.now c.split_at_mut-rest-in-loop-r.result.1.now present c.split_at_mut-row_present.result.1.now false
    c.split_at_mut-rest-in-loop-r.ensures.front c.split_at_mut-rest-in-loop-r.ensures.front_len c.split_at_mut-rest-in-loop-r.ensures.back
    (c.split_at_mut-row_present.ensures.back ∙ ap (λ n. drop n c.split_at_mut-rest-in-loop-r.result.1.now) (sym long_present))) in
    whole_row_more plane window (λ x q. code_by coding.rule plane window x (coding.first + q)) r c.loop-r.words words _ c.loop-r.present present _ (long_words ∙ wide) (long_present ∙ wide) words_in present_in
    c.coded_row.ensures.within c.coded_row.ensures.each c.loop-r.invariant
