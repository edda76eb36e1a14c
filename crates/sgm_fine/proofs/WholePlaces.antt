-- What is gathered from packed rows are the samples of a window.
use Rattle.std.proofs.Common.{◌≡◌, ℕ, ◌+◌, ◌*◌, ◌-◌, ◌/◌, ◌%◌, ◌<◌, ◌≤◌, ◌&&◌, Option, Some, None, Bool, true, false, List, ℤ, pos, negsuc, neg_ℤ, ◌+ℤ◌, ◌-ℤ◌, ◌≤ℤ◌, unsigned_abs, nat_lt, if◌then◌else◌, inl, inr, refl, arith, ap, subst, sym, ◌∙◌}
use Rattle.std.specs.Prelude.{nat_le, option_and_then}
use Rattle.std.proofs.lemmas.Bool.{and_from, cases_lt, cond-true, cond_both, le-leb, lt-ltb}
use Rattle.std.proofs.lemmas.Int.{ints}
use Rattle.sgm_base.specs.Values.{Values, value_at}
use Rattle.sgm_fine.specs.Bands.{AreBetween, ArePacked, HoldsGathered, HoldsRows, IsGathered, IsWhole, packed, start}
use Rattle.sgm_fine.specs.Samples.{Centre, HoldsLie, LiesInside, between, half, left_at, place_of, right_at, sample}
use Rattle.sgm_fine.specs.Small.{HoldsWhole}
use Rattle.sgm_fine.specs.Windows.{number, value_around}
use Rattle.sgm_fine.specs.declared.band.Bands.{Bands}
use Rattle.sgm_fine.specs.declared.samples.Lie.{Lie}
use Rattle.sgm_fine.specs.declared.small.SmallWindow.{SmallWindow}
use Rattle.sgm_fine.specs.declared.whole.Gathered.{Gathered}
use Rattle.sgm_fine.proofs.Between.{Starts, after_is, before_is, here_later, here_sooner}

-- a packed sample is at most 255, and the sample itself where it isn't below 0
packed_most : (o : Option ℕ) → packed o ≤ℤ pos 255
packed_most None = omega (arith, ints)
packed_most (Some v) = cond_both (nat_lt v 256) (pos v) (negsuc 0) (λ z. z ≤ℤ pos 255) (λ e. grind (arith, ints, e)) (λ e. omega (arith, ints))

packed_some : (o : Option ℕ) → pos 0 ≤ℤ packed o → o ≡ Some (unsigned_abs (packed o))
packed_some None h = absurd (omega (arith, ints, h))
packed_some (Some v) h = by_test (nat_lt v 256) h
  where
    by_test : (b : Bool) → pos 0 ≤ℤ (if b then pos v else negsuc 0) → Some v ≡ Some (unsigned_abs (if b then pos v else negsuc 0))
    by_test true h = refl
    by_test false h = absurd (omega (arith, ints, h))

-- where the place k starts
start_is : (lie : Lie) (width k : ℕ) → k < 25 → LiesInside lie width → (number lie.columns (k % 5) -ℤ number lie.rows (k / 5)) -ℤ pos 8 ≡ pos (start lie k)
unfolding start
start_is lie width k lt h = let at = h (k % 5) (k / 5) (omega arith) (omega (arith, lt)) in omega (arith, ints, at.0)

start_low : (lie : Lie) (width k : ℕ) → k < 25 → LiesInside lie width → start lie k / 16 + 2 < width
start_low lie width k lt h =
    let at = h (k % 5) (k / 5) (omega arith) (omega (arith, lt)) in
    let is = start_is lie width k lt h in
    omega (arith, ints, at.1, is)

-- the samples that are packed where a window lies inside
packed_at : (band : List ℤ) (plane : Values) (y j q n : ℕ) → HoldsRows 5 band plane y → j < 5 → q < plane.width → n ≡ 4160 * j + q → number band n ≡ packed (value_at plane q (y + j - 2))
packed_at band plane y j q n h lj lq e = ap (number band) e ∙ h j q lj lq

-- what is known of the window of a pixel that lies inside
pub record LiesWhole (bands : Bands) (one other : Values) (x y : ℕ) (lie : Lie) : Type 0 where
  pub held : ArePacked bands one other y
  pub from : 2 ≤ x
  pub to : x + 2 < one.width
  pub among : LiesInside lie other.width

-- its packed samples
pub record AreSamples (g : Gathered) (one other : Values) (x y : ℕ) (lie : Lie) (k : ℕ) : Type 0 where
  pub left : number g.left k ≡ packed (value_at one (x + k % 5 - 2) (y + k / 5 - 2))
  pub first : number g.first k ≡ packed (value_at other (start lie k / 16) (y + k / 5 - 2))
  pub second : number g.second k ≡ packed (value_at other (start lie k / 16 + 1) (y + k / 5 - 2))
  pub third : number g.third k ≡ packed (value_at other (start lie k / 16 + 2) (y + k / 5 - 2))

pub are_samples : (g : Gathered) (bands : Bands) (one other : Values) (x y : ℕ) (lie : Lie) (k : ℕ) → k < 25 → LiesWhole bands one other x y lie → number g.left k ≡ number bands.left (4160 * (k / 5) + (x + k % 5 - 2))
    → HoldsGathered g bands.right lie k → AreSamples g one other x y lie k
are_samples g bands one other x y lie k lt w l h =
    let low = start_low lie other.width k lt w.among in
    let row : k / 5 < 5 = omega (arith, lt) in
    record {
      left = l ∙ packed_at bands.left one y (k / 5) (x + k % 5 - 2) _ w.held.left row (omega (arith, w.from, w.to)) refl;
      first = h.first ∙ packed_at bands.right other y (k / 5) (start lie k / 16) _ w.held.right row (omega (arith, low)) refl;
      second = h.second ∙ packed_at bands.right other y (k / 5) (start lie k / 16 + 1) _ w.held.right row (omega (arith, low)) (omega arith);
      third = h.third ∙ packed_at bands.right other y (k / 5) (start lie k / 16 + 2) _ w.held.right row (omega (arith, low)) (omega arith);
    }

-- what is gathered from the packed rows of such a window
pub record IsFromRows (g : Gathered) (bands : Bands) (one other : Values) (x y : ℕ) (lie : Lie) : Type 0 where
  pub lies : LiesWhole bands one other x y lie
  pub copied : (k : ℕ) → k < 25 → number g.left k ≡ number bands.left (4160 * (k / 5) + (x + k % 5 - 2))
  pub each : (k : ℕ) → k < 25 → HoldsGathered g bands.right lie k

pub from_rows : (g : Gathered) (bands : Bands) (one other : Values) (x y width : ℕ) (lie : Lie) (left : List ℤ) → ArePacked bands one other y → (2 ≤ x) × (x + 2 < one.width) → width ≡ other.width → LiesInside lie width
    → g.left ≡ left → ((k : ℕ) → k < 25 → number left k ≡ number bands.left (4160 * (k / 5) + (x + k % 5 - 2))) → ((k : ℕ) → k < 25 → HoldsGathered g bands.right lie k) → IsFromRows g bands one other x y lie
from_rows g bands one other x y width lie left held columns wide among same copied each = record {
  lies = record { held = held; from = columns.0; to = columns.1; among = subst (LiesInside lie) wide among };
  copied = λ k lt. ap (λ xs. number xs k) same ∙ copied k lt;
  each = each;
}

at_most : (z : ℤ) (o : Option ℕ) → z ≡ packed o → z ≤ℤ pos 255
at_most z o e = subst (λ n. n ≤ℤ pos 255) (sym e) (packed_most o)

-- samples that aren't below 0 are whole, and so are the zeros behind
pub places_whole : (g : Gathered) (bands : Bands) (one other : Values) (x y : ℕ) (lie : Lie) → IsFromRows g bands one other x y lie → IsGathered g → ((k : ℕ) → k < 32 → pos 0 ≤ℤ number g.left k) → ((k : ℕ) → k < 32 → pos 0 ≤ℤ number g.first k) → ((k : ℕ) → k < 32 → pos 0 ≤ℤ number g.second k)
    → ((k : ℕ) → k < 32 → pos 0 ≤ℤ number g.third k) → (k : ℕ) → k < 32 → IsWhole g k
places_whole g bands one other x y lie rows rest left first second third k lt = elim (cases_lt k 25) [
  | inl here ↦
      let is = are_samples g bands one other x y lie k here rows.lies (rows.copied k here) (rows.each k here) in
      let part = (rows.each k here).part in
      record {
        left = (left k lt, at_most _ (value_at one (x + k % 5 - 2) (y + k / 5 - 2)) is.left);
        first = (first k lt, at_most _ (value_at other (start lie k / 16) (y + k / 5 - 2)) is.first);
        second = (second k lt, at_most _ (value_at other (start lie k / 16 + 1) (y + k / 5 - 2)) is.second);
        third = (third k lt, at_most _ (value_at other (start lie k / 16 + 2) (y + k / 5 - 2)) is.third);
        part = (omega (arith, ints, part), omega (arith, ints, part));
      }
  | inr behind ↦
      let l = rest.left.1 k behind in
      let a = rest.first.1 k behind in
      let b = rest.second.1 k behind in
      let c = rest.third.1 k behind in
      let f = rest.part.1 k behind in
      record {
        left = (left k lt, omega (arith, ints, l));
        first = (first k lt, omega (arith, ints, a));
        second = (second k lt, omega (arith, ints, b));
        third = (third k lt, omega (arith, ints, c));
        part = (omega (arith, ints, f), omega (arith, ints, f));
      }
]

-- the sample that a packed one is
unpacked : (z : ℤ) (o : Option ℕ) → z ≡ packed o → pos 0 ≤ℤ z → o ≡ Some (unsigned_abs z)
unpacked z o e h = packed_some o (subst (λ n. pos 0 ≤ℤ n) e h) ∙ ap (λ n. Some (unsigned_abs n)) (sym e)

sample_at : (plane : Values) (y q : ℕ) → q < plane.width → sample plane y (pos q) ≡ value_at plane q y
sample_at plane y q lt = ap (λ b. option_and_then (λ x. value_at plane x y) (if b then Some q else None)) (lt-ltb q plane.width lt)

around_at : (plane : Values) (x y i j : ℕ) → 2 ≤ x → 2 ≤ y → value_around plane 2 x y i j ≡ value_at plane (x + i - 2) (y + j - 2)
around_at plane x y i j lx ly =
    cond-true (nat_le 2 (x + i) && nat_le 2 (y + j)) (value_at plane (x + i - 2) (y + j - 2)) None
    (and_from (nat_le 2 (x + i)) (nat_le 2 (y + j)) (le-leb 2 (x + i) (omega (arith, lx))) (le-leb 2 (y + j) (omega (arith, ly))))

-- the samples of the place k
holds_left : (g : Gathered) (bands : Bands) (p : Centre) (lie : Lie) (k : ℕ) → LiesWhole bands p.left p.right p.x p.y lie → AreSamples g p.left p.right p.x p.y lie k → IsWhole g k
    → left_at p k ≡ Some (unsigned_abs (number g.left k))
holds_left g bands p lie k w is whole =
    around_at p.left p.x p.y (k % 5) (k / 5) w.from w.held.above ∙ unpacked (number g.left k) _ is.left whole.left.0

-- where it starts, and the three pixels around it
starts_at : (p : Centre) (lie : Lie) (k : ℕ) → k < 25 → LiesInside lie p.right.width → HoldsLie lie p → Starts (place_of p k) (pos (start lie k / 16)) (start lie k % 16)
starts_at p lie k lt among h =
    let is = start_is lie p.right.width k lt among in
    let at = h k lt in
    (omega (arith, ints, is, sym at), omega arith)

pixel_at : (p : Centre) (lie : Lie) (k n : ℕ) (z : ℤ) → n < p.right.width → z ≡ packed (value_at p.right n (p.y + k / 5 - 2)) → pos 0 ≤ℤ z
    → sample p.right (p.y + k / 5 - 2) (pos n) ≡ Some (unsigned_abs z)
pixel_at p lie k n z lt e h = sample_at p.right (p.y + k / 5 - 2) n lt ∙ unpacked z _ e h

is_rest : (g : Gathered) (lie : Lie) (k : ℕ) → number g.part k ≡ pos (start lie k % 16) → unsigned_abs (number g.part k) ≡ start lie k % 16
is_rest g lie k e = ap unsigned_abs e

pub holds_rights : (g : Gathered) (bands : Bands) (p : Centre) (lie : Lie) (k : ℕ) (next own last : ℤ) → k < 25 → LiesWhole bands p.left p.right p.x p.y lie → HoldsLie lie p
    → AreSamples g p.left p.right p.x p.y lie k → number g.part k ≡ pos (start lie k % 16) → IsWhole g k
    → AreBetween next own last (unsigned_abs (number g.first k)) (unsigned_abs (number g.second k)) (unsigned_abs (number g.third k)) (unsigned_abs (number g.part k))
    → (right_at p half k ≡ Some (unsigned_abs next)) × (right_at p (pos 0) k ≡ Some (unsigned_abs own)) × (right_at p (neg_ℤ half) k ≡ Some (unsigned_abs last))
holds_rights g bands p lie k next own last lt w h is part whole made =
    let f = start lie k % 16 in
    let q = start lie k / 16 in
    let row = sample p.right (p.y + k / 5 - 2) in
    let u = place_of p k in
    let low = start_low lie p.right.width k lt w.among in
    let s = starts_at p lie k lt w.among h in
    let a = unsigned_abs (number g.first k) in
    let b = unsigned_abs (number g.second k) in
    let c = unsigned_abs (number g.third k) in
    let ea : row (pos q) ≡ Some a = pixel_at p lie k q _ (omega (arith, low)) is.first whole.first.0 in
    let eb : row (pos q +ℤ pos 1) ≡ Some b = pixel_at p lie k (q + 1) _ (omega (arith, low)) is.second whole.second.0 in
    let third : pos (q + 2) ≡ (pos q +ℤ pos 1) +ℤ pos 1 = omega (arith, ints) in
    let ec : row ((pos q +ℤ pos 1) +ℤ pos 1) ≡ Some c = ap row (sym third) ∙ pixel_at p lie k (q + 2) _ low is.third whole.third.0 in
    let r : AreBetween next own last a b c f = subst (AreBetween next own last a b c) (is_rest g lie k part) made in (
      after_is row u (pos q) f b c s eb (λ _. ec) ∙ ap (λ z. Some (unsigned_abs z)) (sym r.after),
      own_is row u q f a b c s ea eb ec r,
      before_is row u (pos q) f a b s ea eb ∙ ap (λ z. Some (unsigned_abs z)) (sym r.before),
    )
  where
    own_is : (row : ℤ → Option ℕ) (u : ℤ) (q f a b c : ℕ) → Starts u (pos q) f → row (pos q) ≡ Some a → row (pos q +ℤ pos 1) ≡ Some b → row ((pos q +ℤ pos 1) +ℤ pos 1) ≡ Some c
        → AreBetween next own last a b c f → between row (u +ℤ pos 0) ≡ Some (unsigned_abs own)
    own_is row u q f a b c s ea eb ec r = elim (cases_lt f 8) [
      | inl sooner ↦ here_sooner row u (pos q) f a b s sooner ea eb ∙ ap (λ z. Some (unsigned_abs z)) (sym (r.sooner sooner))
      | inr later ↦ here_later row u (pos q) f b c s later eb (λ _. ec) ∙ ap (λ z. Some (unsigned_abs z)) (sym (r.later later))
    ]

pub window_whole : (w : SmallWindow) (g : Gathered) (bands : Bands) (p : Centre) (lie : Lie) → IsFromRows g bands p.left p.right p.x p.y lie → HoldsLie lie p → w.left ≡ g.left → ((k : ℕ) → k < 32 → IsWhole g k)
    → ((k : ℕ) → k < 25 → AreBetween (number w.after k) (number w.here k) (number w.before k) (unsigned_abs (number g.first k)) (unsigned_abs (number g.second k)) (unsigned_abs (number g.third k))
    (unsigned_abs (number g.part k))) → HoldsWhole w p
window_whole w g bands p lie rows h left whole made =
    let lies = rows.lies in
    let is = λ (k : ℕ) (lt : k < 25). are_samples g bands p.left p.right p.x p.y lie k lt lies (rows.copied k lt) (rows.each k lt) in
    let in_all = λ (k : ℕ) (lt : k < 25). whole k (omega (arith, lt)) in
    let rights = λ (k : ℕ) (lt : k < 25). holds_rights g bands p lie k _ _ _ lt lies h (is k lt) (rows.each k lt).part (in_all k lt) (made k lt) in
    record {
      left = λ k lt. holds_left g bands p lie k lies (is k lt) (in_all k lt) ∙ ap (λ xs. Some (unsigned_abs (number xs k))) (sym left);
      after = λ k lt. (rights k lt).0;
      here = λ k lt. (rights k lt).1;
      before = λ k lt. (rights k lt).2;
    }
