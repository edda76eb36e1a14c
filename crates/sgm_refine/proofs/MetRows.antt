-- Rows of what is met, one after the other.
use Rattle.std.proofs.Common.{◌≡◌, ℕ, ◌+◌, ◌-◌, ◌*◌, ◌/◌, ◌%◌, ◌<◌, ◌≤◌, ◌∙◌, zero, suc, List, [], ◌∷◌, ◌++◌, length, replicate, take, drop, get_or, Option, Some, None, refl, sym, ap, subst, inl, inr, arith, pos}
use Rattle.std.proofs.lemmas.Bool.{cases_eq}
use Rattle.std.proofs.lemmas.List.{get_or_append_left, get_or-append_right, get_or-replicate, get_or-take, get_or-drop, length-replicate}
use Rattle.std.proofs.lemmas.Nat.{mul-add-lt}
use Rattle.sgm_base.specs.Values.{Values, row_of}
use Rattle.sgm_energy.specs.declared.dir.Dir.{Dir}
use Rattle.sgm_energy.specs.declared.dir.Dir.TheVariants.{Right}
use Rattle.sgm_energy.specs.Rays.{pixel_at, column_before, row_before, minus}
use Rattle.sgm_energy.proofs.Parts.{splice_here, splice_other}
use Rattle.sgm_energy.proofs.RayLemmas.{minus_one, minus_one_none, minus_up, minus_up_none, no_row}
use Rattle.sgm_refine.specs.declared.met.TheConstants.{DOWNWARDS, UPWARDS}
use Rattle.sgm_refine.specs.Filling.{pixels_of, met_from}
use Rattle.sgm_refine.specs.Met.{carried_from, HoldsMet, HoldAllMet, HoldMetUpwards}
use Rattle.sgm_refine.proofs.MetLemmas.{carried_met, met_first}

-- one row more is written
pub row_more : (f : ℕ → ℕ → Option ℕ) (width k : ℕ) (s a v b : List (Option ℕ)) → a ≡ take (k * width) s → b ≡ drop width (drop (k * width) s) → length a ≡ k * width → length v ≡ width
    → ((x : ℕ) → x < width → get_or v x None ≡ f x k) → ((r x : ℕ) → r < k → x < width → get_or s (r * width + x) None ≡ f x r)
    → (r x : ℕ) → r < k + 1 → x < width → get_or (a ++ (v ++ b)) (r * width + x) None ≡ f x r
row_more f width k s a v b ea eb la lv here before r x hr hx = elim (cases_eq r k) [
  | inl same ↦ subst (λ z. get_or (a ++ (v ++ b)) (z * width + x) None ≡ f x z) (sym same)
      (splice_here a v b (k * width) x None la (omega (arith, lv)) ∙ here x hx)
  | inr other ↦ (let less : r < k = omega arith in
      splice_other s a v b (k * width) width (r * width + x) None ea eb la lv (inl (omega (arith, mul-add-lt r width x k less hx))) ∙ before r x less hx)
]

-- a part of a list, place by place
pub part_at : (xs : List (Option ℕ)) (at n x : ℕ) → x < n → get_or (take n (drop at xs)) x None ≡ get_or xs (at + x) None
part_at xs at n x h = get_or-take n (drop at xs) x None h ∙ get_or-drop at xs x None

-- two rows, for two directions
pub two_rows : (m : Values) (d e : Dir) (y : ℕ) (a b : List (Option ℕ)) → length a ≡ m.width → HoldsMet m d y a → HoldsMet m e y b → HoldAllMet m (d ∷ e ∷ []) y (a ++ b)
two_rows m d e y a b la ha hb zero x hi hx =
    ap (λ n. get_or (a ++ b) n None) (omega arith) ∙ get_or_append_left a b None x (omega arith) ∙ ha x hx
two_rows m d e y a b la ha hb (suc zero) x hi hx =
    get_or-append_right a b m.width (1 * m.width + x) None la (omega arith) ∙ ap (λ n. get_or b n None) (omega arith) ∙ hb x hx
two_rows m d e y a b la ha hb (suc (suc i)) x hi hx = absurd (omega arith)

-- the row that a downward direction comes from, and an upward one
pub row_above : (height y i : ℕ) → i < 3 → y + 1 < height → row_before (get_or DOWNWARDS i Right) height (y + 1) ≡ Some y
row_above height y i hi hy = at i hi
  where
    back : y + 1 - 1 ≡ y
    back = omega arith

    one : minus height (y + 1) (pos 1) ≡ Some y
    one = minus_one height (y + 1) (omega arith) (omega arith) ∙ ap (λ n. Some n) back

    at : (i : ℕ) → i < 3 → row_before (get_or DOWNWARDS i Right) height (y + 1) ≡ Some y
    at zero h = one
    at (suc zero) h = one
    at (suc (suc zero)) h = one
    at (suc (suc (suc i))) h = absurd (omega arith)

pub row_below : (height y i : ℕ) → i < 3 → y + 1 < height → row_before (get_or UPWARDS i Right) height y ≡ Some (y + 1)
row_below height y zero hi hy = minus_up height y hy
row_below height y (suc zero) hi hy = minus_up height y hy
row_below height y (suc (suc zero)) hi hy = minus_up height y hy
row_below height y (suc (suc (suc i))) hi hy = absurd (omega arith)

pub met_first_down : (m : Values) (x i : ℕ) → i < 3 → met_from m (pixel_at x 0) (get_or DOWNWARDS i Right) ≡ None
met_first_down m x i hi = met_first m (get_or DOWNWARDS i Right) (pixel_at x 0) (no_row (pixels_of m) (get_or DOWNWARDS i Right) (pixel_at x 0) (at i hi))
  where
    at : (i : ℕ) → i < 3 → row_before (get_or DOWNWARDS i Right) m.height 0 ≡ None
    at zero h = minus_one_none m.height 0 refl
    at (suc zero) h = minus_one_none m.height 0 refl
    at (suc (suc zero)) h = minus_one_none m.height 0 refl
    at (suc (suc (suc i))) h = absurd (omega arith)

pub met_first_up : (m : Values) (x y i : ℕ) → i < 3 → m.height ≤ y + 1 → met_from m (pixel_at x y) (get_or UPWARDS i Right) ≡ None
met_first_up m x y i hi hy = met_first m (get_or UPWARDS i Right) (pixel_at x y) (no_row (pixels_of m) (get_or UPWARDS i Right) (pixel_at x y) (at i hi))
  where
    at : (i : ℕ) → i < 3 → row_before (get_or UPWARDS i Right) m.height y ≡ None
    at zero h = minus_up_none m.height y hy
    at (suc zero) h = minus_up_none m.height y hy
    at (suc (suc zero)) h = minus_up_none m.height y hy
    at (suc (suc (suc i))) h = absurd (omega arith)

-- one of the rows, at any place
pub at_row : (m : Values) (dirs : List Dir) (y i x n : ℕ) (rows : List (Option ℕ)) → HoldAllMet m dirs y rows → i < length dirs → x < m.width → n ≡ i * m.width + x
    → get_or rows n None ≡ met_from m (pixel_at x y) (get_or dirs i Right)
at_row m dirs y i x n rows h hi hx e = ap (λ k. get_or rows k None) e ∙ h i x hi hx

-- what holds nothing
pub none_all : (xs : List (Option ℕ)) (n : ℕ) → xs ≡ replicate n None → (k : ℕ) → k < length xs → get_or xs k None ≡ None
none_all xs n e k h = ap (λ zs. get_or zs k None) e ∙ get_or-replicate n k None None (omega (arith, ap length e, length-replicate {A = Option ℕ} n None))

-- one row more of what is met upwards, of the row of the same direction before it
pub up_more : (m : Values) (k : ℕ) (values s a v b : List (Option ℕ)) → 3 ≤ k → k < 3 * m.height → length values ≡ m.width → values ≡ row_of m (m.height - k / 3)
    → a ≡ take (k * length values) s → b ≡ drop (length values) (drop (k * length values) s) → length a ≡ k * length values → length v ≡ length values
    → ((z : ℕ) → z < length values → get_or v z None ≡ carried_from values
    (take (k * length values - 2 * length values - (k * length values - 3 * length values)) (drop (k * length values - 3 * length values) a))
    (column_before (get_or UPWARDS (k % 3) Right) (length values) z))
    → HoldMetUpwards m UPWARDS k s → HoldMetUpwards m UPWARDS (k + 1) (a ++ (v ++ b))
up_more m k values s a v b later low wide read ea eb la lv carried hold r x hr hx =
    let w = length values in
    let dir = get_or UPWARDS (k % 3) Right in
    let j = k - 3 in
    let ek : k ≡ j + 3 = omega (arith, later) in
    let prod : k * w ≡ (j + 3) * w = ap (λ n. n * w) ek in
    let y = m.height - 1 - k / 3 in
    let from = y + 1 in
    let high : k / 3 < m.height = omega (arith, low) in
    let some : 1 ≤ k / 3 = omega (arith, later) in
    let is : values ≡ row_of m from = read ∙ ap (row_of m) (omega (arith, high, some)) in
    let at = k * w - 3 * w in
    let n = k * w - 2 * w - at in
    let part = take n (drop at a) in
    let held : HoldsMet m dir from part = λ z hz.
    part_at a at n z (omega (arith, prod, wide))
    ∙ ap (λ zs. get_or zs (at + z) None) ea
    ∙ get_or-take (k * w) s (at + z) None (omega (arith, prod, wide))
    ∙ ap (λ i. get_or s i None) (let e : at + z ≡ j * w + z = omega (arith, prod) in e ∙ ap (λ i. j * i + z) wide)
    ∙ hold j z (omega (arith, ek)) hz
    ∙ ap (λ i. met_from m (pixel_at z i) (get_or UPWARDS (j % 3) Right)) (omega (arith, ek, high, some))
    ∙ ap (λ i. met_from m (pixel_at z from) (get_or UPWARDS i Right)) (omega (arith, ek)) in
    let here : (z : ℕ) → z < w → get_or v z None ≡ met_from m (pixel_at z y) dir = λ z hz.
    carried z hz ∙ ap (λ i. carried_from values part (column_before dir i z)) wide
    ∙ carried_met m dir z y from values part (row_below m.height y (k % 3) (omega arith) (omega (arith, some, high))) (omega (arith, some, high)) is held (omega (arith, wide)) in
    ap (λ i. get_or (a ++ (v ++ b)) (r * i + x) None) (sym wide)
    ∙ row_more (λ z i. met_from m (pixel_at z (m.height - 1 - i / 3)) (get_or UPWARDS (i % 3) Right)) w k s a v b ea eb la lv here
    (λ i z hi hz. ap (λ l. get_or s (i * l + z) None) wide ∙ hold i z hi (omega (arith, wide)))
    r x hr (omega (arith, wide))
