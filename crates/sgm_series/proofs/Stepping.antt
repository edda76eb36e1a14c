-- One batch after the other.
use Rattle.std.proofs.Common.{◌≡◌, ℕ, ◌+◌, List, ◌++◌, sym, ap, subst, ◌∙◌, take, drop, append_assoc}
use Rattle.std.specs.Prelude.{count_by, All, cond}
use Rattle.std.specs.List.{sum_by}
use Rattle.std.proofs.lemmas.List.Elements.{All-append}
use Rattle.std.proofs.lemmas.List.Sums.{sum_by-append}
use Rattle.sgm_series.specs.Plans.{IsJudged, is_refused}
use Rattle.std.proofs.lemmas.Grind.{flat_map-append}
use Rattle.std.proofs.Math.Seq.{take-add}
use Rattle.sgm_io.specs.Held.{Held}
use Rattle.sgm_stages.specs.Deliver.{after_files}
use Rattle.sgm_stages.specs.Outputs.{OutputFile}
use Rattle.sgm_stages.specs.Verdict.{Verdict, outputs_of, summary_of}
use Rattle.sgm_stages.proofs.Filing.{after-append}
use Rattle.sgm_series.specs.Turns.{files_for, summaries_for, lines_for, line_for}

-- the files of the first n entries put, and then those of the next m
pub put_more : (n m : ℕ) (vs : List Verdict) (old now new : Held) →
    now ≡ after_files (files_for (take n vs)) old → new ≡ after_files (files_for (take m (drop n vs))) now →
    new ≡ after_files (files_for (take (n + m) vs)) old
put_more n m vs old now new before step =
    step ∙ ap (λ (h : Held). after_files (files_for (take m (drop n vs))) h) before
    ∙ sym (after-append (files_for (take n vs)) (files_for (take m (drop n vs))) old)
    ∙ sym (ap (λ (x : List OutputFile). after_files x old) (ap (λ (x : List Verdict). files_for x) (take-add n m vs) ∙ flat_map-append outputs_of (take n vs) (take m (drop n vs))))

-- the same of the summaries
pub added_more : (n m : ℕ) (vs : List Verdict) (old now new : List ℕ) →
    now ≡ old ++ summaries_for (take n vs) → new ≡ now ++ summaries_for (take m (drop n vs)) →
    new ≡ old ++ summaries_for (take (n + m) vs)
added_more n m vs old now new before step =
    step ∙ ap (λ (x : List ℕ). x ++ summaries_for (take m (drop n vs))) before
    ∙ append_assoc old (summaries_for (take n vs)) (summaries_for (take m (drop n vs)))
    ∙ sym (ap (λ (x : List ℕ). old ++ x) (ap (λ (x : List Verdict). summaries_for x) (take-add n m vs) ∙ flat_map-append summary_of (take n vs) (take m (drop n vs))))

-- and of the lines
pub lines_more : (n m : ℕ) (vs : List Verdict) → lines_for (take n vs) ++ lines_for (take m (drop n vs)) ≡ lines_for (take (n + m) vs)
lines_more n m vs = sym (ap (λ (x : List Verdict). lines_for x) (take-add n m vs) ∙ flat_map-append line_for (take n vs) (take m (drop n vs)))

-- how many are refused
pub refused_more : (n m : ℕ) (vs : List Verdict) (now new : ℕ) → now ≡ count_by is_refused (take n vs) → new ≡ now + count_by is_refused (take m (drop n vs)) →
    new ≡ count_by is_refused (take (n + m) vs)
refused_more n m vs now new before step =
    let f : Verdict → ℕ = λ v. cond (is_refused v) 1 0 in
    step ∙ ap (λ (k : ℕ). k + count_by is_refused (take m (drop n vs))) before
    ∙ sym (ap (λ (x : List Verdict). sum_by f x) (take-add n m vs) ∙ sum_by-append f (take n vs) (take m (drop n vs)))

pub judged_more : (n m : ℕ) (vs : List Verdict) → All IsJudged (take n vs) → All IsJudged (take m (drop n vs)) → All IsJudged (take (n + m) vs)
judged_more n m vs before step =
    let P : List Verdict → Type 0 = λ l. All IsJudged l in
    subst P (sym (take-add n m vs)) (All-append IsJudged (take n vs) (take m (drop n vs)) before step)
