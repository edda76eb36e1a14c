-- Two rows after one another, added to sums that are split around them.
use Rattle.std.proofs.Common.{◌≡◌, ℕ, ◌+◌, ◌<◌, List, ◌++◌, length, take, drop, slice_index, sym, ap, ◌∙◌, subst, arith}
use Rattle.std.proofs.lemmas.List.{append_assoc, get_or-take, length-append, take-append-drop}
use Rattle.std.proofs.Math.Seq.{drop-append_seam, take-append_seam}
use Rattle.sgm_energy.specs.Rays.{Problem}
use Rattle.sgm_path.specs.Paths.{far_in, HoldsRowBefore, PassesTwo, RowTerms}
use Rattle.sgm_path.proofs.Follow.{mid_at, mid_others, mid_was, part_at}
use Rattle.sgm_strip.specs.Passing.{AddsAt, AddsTwo, HoldsBefore, SuitsRow}

-- the part in the middle becomes another one, to which a row is added
pub adds_mid : (a v v' w row : List ℕ) (at : ℕ) → length a ≡ at → length v' ≡ length v → length row ≡ length v
    → ((k : ℕ) → k < length v' → slice_index v' k ≡ slice_index v k + slice_index row k)
    → AddsAt at row (a ++ (v ++ w)) (a ++ (v' ++ w))
adds_mid a v v' w row at la ev er added = record {
  each = λ k h.
      mid_at a v' w at k la (omega (arith, h, er, ev)) ∙ added k (omega (arith, h, er, ev))
      ∙ ap (λ n. n + slice_index row k) (sym (mid_at a v w at k la (omega (arith, h, er))));
  others = λ k h.
      let xs : List ℕ = a ++ (v ++ w) in
      let back : drop at xs ≡ v ++ w = ap (λ n. drop n xs) (sym la) ∙ drop-append_seam a (v ++ w) in
      mid_others xs a v' w at (length row) k (sym (ap (λ n. take n xs) (sym la) ∙ take-append_seam a (v ++ w)))
      (sym (ap (λ n. drop n (drop at xs)) er ∙ ap (drop (length v)) back ∙ drop-append_seam v w)) la (omega (arith, ev, er)) h;
}

-- what was split is the parts together
pub joined : (xs a b : List ℕ) (n : ℕ) → a ≡ take n xs → b ≡ drop n xs → a ++ b ≡ xs
joined xs a b n ea eb = ap (λ (l : List ℕ). l ++ b) ea ∙ ap (λ (l : List ℕ). take n xs ++ l) eb ∙ take-append-drop n xs

pub joined_three : (xs a rest v rest' w tail : List ℕ) (n m : ℕ) → a ≡ take n xs → rest ≡ drop n xs → v ≡ take m rest → rest' ≡ drop m rest
    → w ≡ take m rest' → tail ≡ drop m rest' → a ++ (v ++ (w ++ tail)) ≡ xs
joined_three xs a rest v rest' w tail n m ea er ev er' ew et =
    ap (λ (l : List ℕ). a ++ (v ++ l)) (joined rest' w tail m ew et) ∙ ap (λ (l : List ℕ). a ++ l) (joined rest v rest' m ev er') ∙ joined xs a rest n ea er

-- an entry of the second part, as it was
pub later_was : (xs rest rest' w : List ℕ) (a n i : ℕ) → rest ≡ drop a xs → rest' ≡ drop n rest → w ≡ take n rest' → i < n
    → slice_index w i ≡ slice_index xs (a + n + i)
later_was xs rest rest' w a n i er er' ew h =
    let next : n + i < n + i + 1 = omega arith in
    let at : a + (n + i) ≡ a + n + i = omega arith in
    mid_was rest w rest' n n i ew er' h ∙ ap (λ l. slice_index l (n + i)) er
    ∙ sym (get_or-take (n + i + 1) (drop a xs) (n + i) 0 next) ∙ part_at xs a (n + i + 1) (n + i) next ∙ ap (slice_index xs) at

-- ---- path values of both
held : (g : Problem) (t : RowTerms) (y : ℕ) (before : List ℕ) → SuitsRow g t.dir y t.penalties.p1 t.count (far_in t) t.costs
    → HoldsBefore g t.dir y before → HoldsRowBefore g t.dir y (far_in t) before
held g t y before s b = record {
  row = b.row;
  comes_from = b.comes_from;
  has_far = s.has_far b.row b.comes_from;
  holds = b.holds;
}

-- the second row lies behind the first
pub adds_down : (t u : RowTerms) (at n : ℕ) (before after a v v' w w' tail : List ℕ) → length a ≡ at → length v ≡ n → length v' ≡ length v
    → length w' ≡ length w → length after ≡ length w → length t.costs ≡ n → n ≡ length w
    → PassesTwo t u before after v v' w w'
    → AddsTwo t u at (at + n) before after (a ++ (v ++ (w ++ tail))) (a ++ (v' ++ (w' ++ tail)))
adds_down t u at n before after a v v' w w' tail la lv lv' lw' lf lc ln p = record {
  between = p.between;
  middle = a ++ (v' ++ (w ++ tail));
  whole = omega (arith, p.whole, lf, lc, ln);
  adds = adds_mid a v v' (w ++ tail) p.between at la lv' (omega (arith, p.whole, lc, lv)) p.added;
  adds_more = subst (λ l. AddsAt (at + n) after l (a ++ (v' ++ (w' ++ tail)))) (append_assoc a v' (w ++ tail))
      (subst (AddsAt (at + n) after ((a ++ v') ++ (w ++ tail))) (append_assoc a v' (w' ++ tail))
      (adds_mid (a ++ v') w w' tail after (at + n) (omega (arith, length-append a v', la, lv, lv')) lw' lf p.more_added));
  paths = λ g y s b. p.first g y s.suits (held g t y before s b);
  paths_more = λ g y s b. p.second g y s.suits (held g u y p.between s b);
}

-- the second row lies before the first
pub adds_up : (t u : RowTerms) (at n : ℕ) (before after a v v' w w' tail : List ℕ) → length a ≡ at → length v ≡ n → length v' ≡ length v
    → length w' ≡ length w → length after ≡ length v → length t.costs ≡ n → n ≡ length w
    → PassesTwo t u before after w w' v v'
    → AddsTwo t u (at + n) at before after (a ++ (v ++ (w ++ tail))) (a ++ (v' ++ (w' ++ tail)))
adds_up t u at n before after a v v' w w' tail la lv lv' lw' lf lc ln p = record {
  between = p.between;
  middle = a ++ (v ++ (w' ++ tail));
  whole = omega (arith, p.whole, lf, lc, lv);
  adds = subst (λ l. AddsAt (at + n) p.between l (a ++ (v ++ (w' ++ tail)))) (append_assoc a v (w ++ tail))
      (subst (AddsAt (at + n) p.between ((a ++ v) ++ (w ++ tail))) (append_assoc a v (w' ++ tail))
      (adds_mid (a ++ v) w w' tail p.between (at + n) (omega (arith, length-append a v, la, lv)) lw' (omega (arith, p.whole, lc, ln)) p.added));
  adds_more = adds_mid a v v' (w' ++ tail) after at la lv' lf p.more_added;
  paths = λ g y s b. p.first g y s.suits (held g t y before s b);
  paths_more = λ g y s b. p.second g y s.suits (held g u y p.between s b);
}
