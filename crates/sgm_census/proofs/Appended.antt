-- Rows of costs that come to the end of a list, pixel by pixel.
use Rattle.std.proofs.Common.{◌≡◌, ℕ, ◌+◌, ◌-◌, ◌*◌, ◌<◌, ◌≤◌, List, ◌++◌, length, get_or, append_assoc, length-append, sym, ap, ◌∙◌, arith, inl, inr}
use Rattle.std.proofs.lemmas.Bool.{cases_lt}
use Rattle.std.proofs.lemmas.List.{get_or_append_left, get_or-append_right}
use Rattle.std.proofs.lemmas.List.Elements.{All-append, All-from_get_or}
use Rattle.std.proofs.lemmas.Nat.{row_fits}
use Rattle.sgm_census.specs.Appending.{AppendsCosts}
use Rattle.sgm_census.proofs.SmoothCosts.{times_next}

-- one pixel more
pub appends_more : (x count : ℕ) (f : ℕ → ℕ → ℕ) (old was new cells : List ℕ) → AppendsCosts x count f old was → new ≡ was ++ cells → length cells ≡ count
    → ((d : ℕ) → d < count → get_or cells d 0 ≡ f x d) → ((d : ℕ) → d < count → f x d ≤ 62) → AppendsCosts (x + 1) count f old new
appends_more x count f old was new cells h e long each low =
    record {
      row = h.row ++ cells;
      added = e ∙ ap (λ (v : List ℕ). v ++ cells) h.added ∙ append_assoc old h.row cells;
      whole = omega (arith, length-append h.row cells, h.whole, long, times_next x count);
      each = λ z d l k. elim (cases_lt z x) [
        | inl m ↦ get_or_append_left h.row cells 0 (z * count + d) (omega (arith, row_fits z count x count m (omega arith), h.whole)) ∙ h.each z d m k
        | inr m ↦
            (let same : z ≡ x = omega arith in
            let at : z * count ≡ x * count = ap (λ n. n * count) same in
            let from : z * count + d - x * count ≡ d = omega (arith, at) in
            get_or-append_right h.row cells (x * count) (z * count + d) 0 h.whole (omega (arith, at))
            ∙ ap (λ n. get_or cells n 0) from ∙ each d k ∙ ap (λ n. f n d) (sym same))
      ];
      low = All-append (λ v. v ≤ 62) h.row cells h.low (All-from_get_or (λ v. v ≤ 62) cells 0 (λ d k. omega (arith, each d (omega arith), low d (omega arith))));
    }
