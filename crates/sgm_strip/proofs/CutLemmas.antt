-- Where the strips of a cut begin and end.
use Rattle.std.proofs.Common.{◌≡◌, ℕ, ◌+◌, ◌*◌, ◌/◌, ◌<◌, ◌≤◌, zero, suc, ap, ◌∙◌, subst, inl, inr, arith}
use Rattle.std.proofs.lemmas.Bool.{cases_lt}
use Rattle.std.proofs.lemmas.Nat.{mul-le, div-mul-add, le-div, div_below, div-add-mod'}
use Rattle.sgm_strip.specs.Cuts.{CutParts, IsCut, first_row}

pub first_top : (cut : CutParts) → IsCut cut → first_row cut 0 ≡ 0
unfolding first_row
first_top cut k =
    let e : 0 * cut.height ≡ 0 * cut.strips + 0 = omega arith in
    let some : 0 < cut.strips = omega (arith, k.some) in ap (λ n. n / cut.strips) e ∙ div-mul-add 0 cut.strips 0 some

pub first_end : (cut : CutParts) → IsCut cut → first_row cut cut.strips ≡ cut.height
unfolding first_row
first_end cut k =
    let e : cut.strips * cut.height ≡ cut.height * cut.strips + 0 = omega arith in
    let some : 0 < cut.strips = omega (arith, k.some) in ap (λ n. n / cut.strips) e ∙ div-mul-add cut.height cut.strips 0 some

up : (q n a h : ℕ) → q * n ≤ a → n ≤ h → (q + 1) * n ≤ a + h
up q n a h l m = omega arith

pub first_more : (cut : CutParts) (strip : ℕ) → IsCut cut → first_row cut strip < first_row cut (strip + 1)
unfolding first_row
first_more cut strip k =
    let a : ℕ = strip * cut.height in
    let q : ℕ = a / cut.strips in
    let low : q * cut.strips ≤ a = omega (arith, div-add-mod' a cut.strips) in
    let more : (q + 1) * cut.strips ≤ (strip + 1) * cut.height = omega (arith, up q cut.strips a cut.height low k.filled) in
    let next : q + 1 ≤ (strip + 1) * cut.height / cut.strips = le-div (q + 1) ((strip + 1) * cut.height) cut.strips (omega (arith, k.some)) more in
    omega (arith, next)

pub first_within : (cut : CutParts) (strip : ℕ) → IsCut cut → strip ≤ cut.strips → first_row cut strip ≤ cut.height
unfolding first_row
first_within cut strip k h =
    let all : strip * cut.height ≤ cut.strips * cut.height = mul-le strip cut.height cut.strips cut.height h (omega arith) in
    let low : strip * cut.height < (cut.height + 1) * cut.strips = omega (arith, all, k.some) in
    let it : strip * cut.height / cut.strips < cut.height + 1 = div_below (strip * cut.height) cut.strips (cut.height + 1) (omega (arith, k.some)) low in
    omega (arith, it)

pub first_inside : (cut : CutParts) (strip : ℕ) → IsCut cut → strip < cut.strips → first_row cut strip < cut.height
first_inside cut strip k h = omega (arith, first_more cut strip k, first_within cut (strip + 1) k (omega arith))

-- the strip, among the first k, in which a row lies
row_below : (cut : CutParts) (y k : ℕ) → IsCut cut → y < first_row cut k → (strip : ℕ) × (strip < k) × (first_row cut strip ≤ y) × (y < first_row cut (strip + 1))
row_below cut y zero c h = absurd (omega (arith, first_top cut c, h))
row_below cut y (suc n) c h = elim (cases_lt y (first_row cut n)) [
  | inl l ↦ (let w = row_below cut y n c l in (w.0, omega (arith, w.1), w.2, w.3))
  | inr l ↦ (let e : suc n ≡ n + 1 = omega arith in (n, omega arith, l, subst (λ m. y < first_row cut m) e h))
]

pub row_in : (cut : CutParts) (y : ℕ) → IsCut cut → y < cut.height → (strip : ℕ) × (strip < cut.strips) × (first_row cut strip ≤ y) × (y < first_row cut (strip + 1))
row_in cut y c h = row_below cut y cut.strips c (omega (arith, first_end cut c, h))
