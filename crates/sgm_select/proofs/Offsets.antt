-- How far a disparity lies from its index, and that it stays among those of all indices.
use Rattle.std.proofs.Common.{◌≡◌, ℕ, ◌+◌, ◌-◌, ◌*◌, ◌/◌, ◌%◌, ◌<◌, ◌≤◌, true, false, cond, eqb, ◌||◌, Bool, List, refl, sym, ap, ◌∙◌, subst, inl, inr, arith, pos, negsuc, ◌+ℤ◌, ◌-ℤ◌, ◌*ℤ◌, unsigned_abs}
use Rattle.std.proofs.lemmas.Bool.{cases_lt, eq-eqb, ne_eqb}
use Rattle.std.proofs.lemmas.Int.{ints}
use Rattle.std.proofs.Math.Nat.{add-mul-div_right, mul-le-mul_right, mul-sub}
use Rattle.std.proofs.lemmas.Nat.{div-add-mod', div-mul-add, div_below, mod_below}
use Rattle.std.specs.Int.{int_div_euclid}
use Rattle.sgm_base.specs.Ranges.{Within}
use Rattle.sgm_base.specs.Rounding.{rounded}
use Rattle.sgm_select.specs.Rows.{base_in, sum_in}
use Rattle.sgm_select.specs.Selection.{in_sixteenths, offset, vertex}
use Rattle.sgm_select.proofs.LeastIndex.{IsLeastAt, least_of_least}

-- where the vertex lies after the middle, or before it
vertex_after : (a c : ℕ) → 15 * c ≤ 17 * a → rounded (pos 8 *ℤ (pos a -ℤ pos c)) (pos a +ℤ pos c) ≡ pos ((17 * a - 15 * c) / (2 * (a + c)))
vertex_after a c h = ap (λ z. int_div_euclid z (pos (2 * (a + c)))) (let top : (pos 2 *ℤ (pos 8 *ℤ (pos a -ℤ pos c))) +ℤ (pos a +ℤ pos c) ≡ pos (17 * a - 15 * c) = omega (arith, ints) in top)

vertex_before : (a c : ℕ) → 17 * a < 15 * c → rounded (pos 8 *ℤ (pos a -ℤ pos c)) (pos a +ℤ pos c) ≡ negsuc ((15 * c - 17 * a - 1) / (2 * (a + c)))
vertex_before a c h = ap (λ z. int_div_euclid z (pos (2 * (a + c)))) (let top : (pos 2 *ℤ (pos 8 *ℤ (pos a -ℤ pos c))) +ℤ (pos a +ℤ pos c) ≡ negsuc (15 * c - 17 * a - 1) = omega (arith, ints) in top)

near : (a c : ℕ) → 0 < a → Within 8 (rounded (pos 8 *ℤ (pos a -ℤ pos c)) (pos a +ℤ pos c))
near a c h = elim (cases_lt (17 * a) (15 * c)) [
  | inl l ↦ (let low : (15 * c - 17 * a - 1) / (2 * (a + c)) < 8 = div_below (15 * c - 17 * a - 1) (2 * (a + c)) 8 (omega arith) (omega arith) in
      subst (λ z. Within 8 z) (sym (vertex_before a c l)) (omega (arith, ints), omega (arith, ints)))
  | inr l ↦ (let high : (17 * a - 15 * c) / (2 * (a + c)) < 9 = div_below (17 * a - 15 * c) (2 * (a + c)) 9 (omega arith) (omega arith) in
      subst (λ z. Within 8 z) (sym (vertex_after a c l)) (omega (arith, ints), omega (arith, ints)))
]

-- eight more than that lies never before the middle
shifted : (a c : ℕ) → 0 < a → rounded (pos 8 *ℤ (pos a -ℤ pos c)) (pos a +ℤ pos c) ≡ pos ((33 * a + c) / (2 * (a + c))) -ℤ pos 8
shifted a c some =
    let k = 2 * (a + c) in
    elim (cases_lt (17 * a) (15 * c)) [
      | inl l ↦
          (let m = 15 * c - 17 * a - 1 in
          let low : m / k < 8 = div_below m k 8 (omega arith) (omega arith) in
          let rest : m % k < k = mod_below m k (omega (arith, some)) in
          let parts : (7 - m / k) * k + (k - 1 - m % k) ≡ 33 * a + c = omega (arith, div-add-mod' m k, mul-sub k 7 (m / k), mul-le-mul_right {m = m / k} {n = 7} k (omega (arith, low)), rest, low, l) in
          let quotient : (33 * a + c) / k ≡ 7 - m / k = ap (λ n. n / k) (sym parts) ∙ div-mul-add (7 - m / k) k (k - 1 - m % k) (omega (arith, some)) in
          vertex_before a c l ∙ omega (arith, ints, quotient, low))
      | inr l ↦
          (let m = 17 * a - 15 * c in
          let quotient : (33 * a + c) / k ≡ m / k + 8 = ap (λ n. n / k) (omega (arith, l)) ∙ add-mul-div_right m 8 (omega (arith, some)) in
          vertex_after a c l ∙ omega (arith, ints, quotient))
    ]

pub vertex_is : (before at after : ℕ) → at < before → at ≤ after
    → vertex before at after ≡ pos ((33 * (before - at) + (after - at)) / (2 * ((before - at) + (after - at)))) -ℤ pos 8
unfolding vertex
vertex_is before at after f r =
    let ea : pos before -ℤ pos at ≡ pos (before - at) = omega (arith, ints) in
    let ec : pos after -ℤ pos at ≡ pos (after - at) = omega (arith, ints) in
    rw (ea, ec) (shifted (before - at) (after - at) (omega arith))

pub vertex_near : (before at after : ℕ) → at < before → at ≤ after → Within 8 (vertex before at after)
unfolding vertex
vertex_near before at after f r =
    let ea : pos before -ℤ pos at ≡ pos (before - at) = omega (arith, ints) in
    let ec : pos after -ℤ pos at ≡ pos (after - at) = omega (arith, ints) in
    rw (ea, ec) (near (before - at) (after - at) (omega arith))

or_true : (b : Bool) → (b || true) ≡ true
or_true true = refl
or_true false = refl

-- the index of a column is one at which its sum is least
base_in_least : (sums : List ℕ) (count x : ℕ) → 0 < count → IsLeastAt (sum_in sums count x) count (base_in sums count x)
unfolding base_in
base_in_least sums count x h = least_of_least (sum_in sums count x) count h

pub base_least : (sums : List ℕ) (count x b : ℕ) → 1 ≤ count → b ≡ base_in sums count x → IsLeastAt (sum_in sums count x) count b
base_least sums count x b h e = subst (λ k. IsLeastAt (sum_in sums count x) count k) (sym e) (base_in_least sums count x (omega arith))

-- the offset of an index that is not the first or the last
pub offset_inside : (f : ℕ → ℕ) (n b : ℕ) → 0 < b → b + 1 < n → offset f n b ≡ vertex (f (b - 1)) (f b) (f (b + 1))
offset_inside f n b h k =
    ap (λ t. cond t (pos 0) (vertex (f (b - 1)) (f b) (f (b + 1)))) (ap (λ t. t || eqb (b + 1) n) (ne_eqb b 0 (λ e. omega arith)) ∙ ne_eqb (b + 1) n (λ e. omega arith))

pub offset_first : (f : ℕ → ℕ) (n : ℕ) → offset f n 0 ≡ pos 0
offset_first f n = refl

pub offset_last : (f : ℕ → ℕ) (n b : ℕ) → b + 1 ≡ n → offset f n b ≡ pos 0
offset_last f n b e = ap (λ t. cond t (pos 0) (vertex (f (b - 1)) (f b) (f (b + 1)))) (ap (λ t. eqb b 0 || t) (eq-eqb (b + 1) n e) ∙ or_true (eqb b 0))

-- an index in sixteenths is what it says, and none is above that of the last index
pub record IsRefined (f : ℕ → ℕ) (n b : ℕ) : Type 0 where
  pub near : Within 8 (offset f n b)
  pub whole : pos (in_sixteenths f n b) ≡ pos (16 * b) +ℤ offset f n b
  pub most : in_sixteenths f n b ≤ 16 * (n - 1)

pub refined_is : (f : ℕ → ℕ) (n b : ℕ) → IsLeastAt f n b → IsRefined f n b
unfolding in_sixteenths
refined_is f n b h = elim (cases_lt 0 b) [
  | inr first ↦ (let e : offset f n b ≡ pos 0 = subst (λ k. offset f n k ≡ pos 0) (let z : 0 ≡ b = omega arith in z) (offset_first f n) in
      record { near = rw e (omega (arith, ints), omega (arith, ints)); whole = rw e (omega (arith, ints)); most = rw e (omega (arith, ints, h.inside)) })
  | inl some ↦ elim (cases_lt (b + 1) n) [
    | inr last ↦ (let e : offset f n b ≡ pos 0 = offset_last f n b (omega (arith, h.inside)) in
        record { near = rw e (omega (arith, ints), omega (arith, ints)); whole = rw e (omega (arith, ints)); most = rw e (omega (arith, ints)) })
    | inl inside ↦ (let e = offset_inside f n b some inside in
        let near : Within 8 (offset f n b) = subst (λ z. Within 8 z) (sym e) (vertex_near (f (b - 1)) (f b) (f (b + 1)) (h.first (b - 1) (omega arith)) (h.low (b + 1) inside)) in
        record { near = near; whole = omega (arith, ints, near.0, near.1); most = omega (arith, ints, near.0, near.1) })
  ]
]

-- which takes no more than the sums at the indices that there are
pub in_sixteenths-agree : (f g : ℕ → ℕ) (n b : ℕ) → b < n → ((d : ℕ) → d < n → f d ≡ g d) → in_sixteenths f n b ≡ in_sixteenths g n b
unfolding in_sixteenths
in_sixteenths-agree f g n b h same =
    ap (λ z. unsigned_abs (pos (16 * b) +ℤ z)) (elim (cases_lt 0 b) [
      | inr first ↦ (let z : 0 ≡ b = omega arith in subst (λ k. offset f n k ≡ offset g n k) z refl)
      | inl some ↦ elim (cases_lt (b + 1) n) [
        | inr last ↦ offset_last f n b (omega arith) ∙ sym (offset_last g n b (omega arith))
        | inl inside ↦ offset_inside f n b some inside
            ∙ ap (λ s. vertex s (f b) (f (b + 1))) (same (b - 1) (omega arith)) ∙ ap (λ s. vertex (g (b - 1)) s (f (b + 1))) (same b h) ∙ ap (λ s. vertex (g (b - 1)) (g b) s) (same (b + 1) inside)
            ∙ sym (offset_inside g n b some inside)
      ]
    ])
