-- What words that were read have.
use Rattle.std.proofs.Common.{◌≡◌, ℕ, ◌≤◌, List, [], ◌∷◌, Bool, true, false, Option, Some, None, Result, Ok, Err, refl, sym, ap, ◌∙◌, subst, arith, if◌then◌else◌}
use Rattle.sgm_series.specs.Words.{ListWords, list_words, workers_in, with_workers, list_with, series_words, list_of}
use Rattle.sgm_series.specs.declared.words.SeriesUsage.{SeriesUsage}

-- the list is the first word, and there are one or two workers
pub record AreRead (words : List (List ℕ)) (w : ListWords) : Type 0 where
  pub list : list_of words ≡ w.list
  pub some : 1 ≤ w.workers
  pub few : w.workers ≤ 2

abbrev or_words : ListWords → Result ListWords SeriesUsage → ListWords
or_words w (Ok v) = v
or_words w (Err fault) = w

inside : (w v : ListWords) (r : Result ListWords SeriesUsage) → r ≡ Ok w → r ≡ Ok v → w ≡ v
inside w v r one other = sym (ap (λ (x : Result ListWords SeriesUsage). or_words w x) one) ∙ ap (λ (x : Result ListWords SeriesUsage). or_words w x) other

one_or_two : (a b : Bool) (n : ℕ) → (if a then Some 1 else (if b then Some 2 else None)) ≡ Some n → (1 ≤ n) × (n ≤ 2)
one_or_two true b n is = (grind arith, grind arith)
one_or_two false true n is = (grind arith, grind arith)
one_or_two false false n is = absurd (cc)

by_workers : (list : List ℕ) (found : Option ℕ) (w : ListWords) → ((n : ℕ) → found ≡ Some n → (1 ≤ n) × (n ≤ 2)) → with_workers list found ≡ Ok w → (list ≡ w.list) × ((1 ≤ w.workers) × (w.workers ≤ 2))
by_workers list (Some n) w range is =
    let same : list_words list n ≡ w = inside (list_words list n) w _ refl is in
    let at = range n refl in
    (ap (λ (v : ListWords). v.list) same, subst (λ (v : ListWords). (1 ≤ v.workers) × (v.workers ≤ 2)) same at)
by_workers list None w range is = absurd (cc)

by_later : (list : List ℕ) (later : List (List ℕ)) (w : ListWords) → list_with list later ≡ Ok w → (list ≡ w.list) × ((1 ≤ w.workers) × (w.workers ≤ 2))
by_later list [] w is =
    let same : list_words list 1 ≡ w = inside (list_words list 1) w _ refl is in
    (ap (λ (v : ListWords). v.list) same, subst (λ (v : ListWords). (1 ≤ v.workers) × (v.workers ≤ 2)) same (omega arith, omega arith))
by_later list (word ∷ []) w is = by_workers list (workers_in word) w (λ n found. one_or_two _ _ n found) is
by_later list (word ∷ next ∷ more) w is = absurd (cc)

pub are_read : (words : List (List ℕ)) (w : ListWords) → series_words words ≡ Ok w → AreRead words w
unfolding series_words
are_read [] w is = absurd (cc)
are_read ([] ∷ later) w is = absurd (cc)
are_read ((b ∷ name) ∷ later) w is = let at = by_later (b ∷ name) later w is in record { list = at.0; some = at.1.0; few = at.1.1 }
