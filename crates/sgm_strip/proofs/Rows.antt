-- Rows of a volume: one more at the end, one of them, each entry.
use Rattle.std.proofs.Common.{◌≡◌, ℕ, ◌+◌, ◌-◌, ◌*◌, ◌/◌, ◌%◌, ◌<◌, ◌≤◌, List, [], ◌++◌, length, drop, slice_index, slice_range, sym, ap, ◌∙◌, subst, inl, inr, arith}
use Rattle.std.proofs.lemmas.Bool.{cases_eq}
use Rattle.std.proofs.lemmas.List.{length-append, length-take, length-drop, get_or_append_left, get_or-append-add}
use Rattle.std.proofs.lemmas.Nat.{mul-add-lt, mul-le, row_fits, div_below, div-add-mod', mod_below}
use Rattle.sgm_energy.specs.Rays.{Pixel, pixel_at, Problem}
use Rattle.sgm_energy.specs.Rows.{HoldsRow}
use Rattle.sgm_path.proofs.Follow.{part_at}
use Rattle.sgm_strip.specs.Volumes.{HoldsRows}
use Rattle.sgm_strip.specs.Passing.{AddsRow}

pub rows_none : (g : Problem) (top rows : ℕ) (f : Pixel → ℕ → ℕ) → rows ≡ 0 → HoldsRows g top rows f []
rows_none g top rows f e = record {
  whole = omega (arith, ap (λ n. n * (g.width * g.count)) e);
  each = λ r x d hr _ _. absurd (omega arith);
}

-- one row more at the end
pub rows_more : (g : Problem) (top rows : ℕ) (f : Pixel → ℕ → ℕ) (y : ℕ) (old new : List ℕ) → HoldsRows g top rows f old → y ≡ top + rows → AddsRow g y f old new → HoldsRows g top (rows + 1) f new
rows_more g top rows f y old new h ey a =
    let n : ℕ = g.width * g.count in
    let all : HoldsRows g top (rows + 1) f (old ++ a.row) = record {
      whole = omega (arith, length-append old a.row, h.whole, a.holds.whole);
      each = λ r x d hr hx hd.
          let lt : x * g.count + d < n = omega (arith, mul-add-lt x g.count d g.width hx hd) in
          elim (cases_eq r rows) [
            | inl e ↦ (let place : r * n + (x * g.count + d) ≡ length old + (x * g.count + d) = omega (arith, h.whole, ap (λ k. k * n) e) in
                let row : y ≡ top + r = omega (arith, ey, e) in
                ap (slice_index (old ++ a.row)) place ∙ get_or-append-add old a.row (x * g.count + d) 0
                ∙ a.holds.each x d hx hd ∙ ap (λ k. f (pixel_at x k) d) row)
            | inr ne ↦ (let less : r < rows = omega arith in
                get_or_append_left old a.row 0 (r * n + (x * g.count + d)) (omega (arith, h.whole, mul-add-lt r n (x * g.count + d) rows less lt)) ∙ h.each r x d less hx hd)
          ];
    } in
    subst (λ v. HoldsRows g top (rows + 1) f v) (sym a.added) all

-- where one of so many rows ends, and how long it is
pub row_ends : (xs : List ℕ) (n r : ℕ) → r < length xs / n → r * n + n ≤ length xs
row_ends xs n r h = omega (arith, row_fits r n (length xs / n) n h (omega arith), div-add-mod' (length xs) n)

-- one of them
pub row_holds : (g : Problem) (top rows : ℕ) (f : Pixel → ℕ → ℕ) (volume : List ℕ) (n r : ℕ) → g.width * g.count ≡ n → HoldsRows g top rows f volume → r < rows
    → HoldsRow g (top + r) f (slice_range volume (r * n) (r * n + n))
row_holds g top rows f volume n r en h l =
    let m : ℕ = r * n + n - r * n in
    let fits : r * n + n ≤ rows * n = row_fits r n rows n l (omega arith) in
    let all : length volume ≡ rows * n = h.whole ∙ ap (λ k. rows * k) en in
    let whole : length (slice_range volume (r * n) (r * n + n)) ≡ n = omega (arith, length-take m (drop (r * n) volume), length-drop (r * n) volume, fits, all) in
    record {
      whole = whole ∙ sym en;
      each = λ x d hx hd.
          let lt : x * g.count + d < n = omega (arith, mul-add-lt x g.count d g.width hx hd, en) in
          part_at volume (r * n) m (x * g.count + d) (omega (arith, lt))
          ∙ ap (λ k. slice_index volume (r * k + (x * g.count + d))) (sym en)
          ∙ h.each r x d l hx hd;
    }

-- the same values by another name
pub rows_same : (g : Problem) (top rows : ℕ) (f f' : Pixel → ℕ → ℕ) (volume : List ℕ) → ((p : Pixel) (d : ℕ) → f p d ≡ f' p d) → HoldsRows g top rows f volume → HoldsRows g top rows f' volume
rows_same g top rows f f' volume e h = record { whole = h.whole; each = λ r x d hr hx hd. h.each r x d hr hx hd ∙ e (pixel_at x (top + r)) d }

-- what is at most some number at each pixel and index is so at each place
pub rows_low : (g : Problem) (top rows most : ℕ) (f : Pixel → ℕ → ℕ) (volume : List ℕ) → 0 < g.width → 0 < g.count → HoldsRows g top rows f volume
    → ((r x d : ℕ) → r < rows → x < g.width → d < g.count → f (pixel_at x (top + r)) d ≤ most) → (k : ℕ) → k < length volume → slice_index volume k ≤ most
rows_low g top rows most f volume hw hc h low k l =
    let n : ℕ = g.width * g.count in
    let some : 0 < n = omega (arith, mul-le 1 1 g.width g.count (omega arith) (omega arith)) in
    let r : ℕ = k / n in
    let j : ℕ = k % n in
    let x : ℕ = j / g.count in
    let d : ℕ = j % g.count in
    let hr : r < rows = div_below k n rows some (omega (arith, h.whole)) in
    let hj : j < n = mod_below k n some in
    let hx : x < g.width = div_below j g.count g.width hc hj in
    let hd : d < g.count = mod_below j g.count hc in
    let ej : x * g.count + d ≡ j = div-add-mod' j g.count in
    let ek : r * n + (x * g.count + d) ≡ k = ap (λ m. r * n + m) ej ∙ div-add-mod' k n in
    omega (arith, ap (slice_index volume) ek, h.each r x d hr hx hd, low r x d hr hx hd)
