-- Each index at the end of a ray has a best sequence, and the parts of a sequence add up to its energy.
use Rattle.std.proofs.Common.{◌≡◌, ℕ, ◌+◌, ◌<◌, ◌≤◌, zero, suc, List, [], ◌∷◌, ◌++◌, sum_by, length, refl, sym, ap, ◌∙◌, subst, inl, inr, arith}
use Rattle.std.specs.Prelude.{reverse, true}
use Rattle.std.specs.List.{Contains, filter}
use Rattle.std.proofs.lemmas.Bool.{cases_lt, eqb-true}
use Rattle.std.proofs.lemmas.List.{reverse-append, reverse-reverse}
use Rattle.std.proofs.lemmas.List.Sums.{sum_by-cons}
use Rattle.sgm_energy.specs.declared.dir.Dir.{Dir}
use Rattle.sgm_energy.specs.Rays.{Pixel, Problem, ray, before}
use Rattle.sgm_energy.specs.Energies.{sequences, ends_in, energy, costs, jumps, jump, least_ending}
use Rattle.sgm_energy.proofs.Members.{from_filter}
use Rattle.sgm_energy.proofs.RayLemmas.{before_last}
use Rattle.sgm_trace.specs.declared.traced.Step.{Step}
use Rattle.sgm_trace.specs.Best.{attaining, not_after, best, first_step, step_between, steps_after, steps_of}
use Rattle.sgm_trace.proofs.Bests.{IsBest, IsBefore, best_is, first_is_best, next_is_best}

-- ---- the first of the least values

pub record FirstLeast (f : ℕ → ℕ) (n : ℕ) : Type 0 where
  pub at : ℕ
  pub inside : at < n
  pub low : (b : ℕ) → b < n → f at ≤ f b
  pub first : (b : ℕ) → b < at → f at < f b

-- among all up to the next
up_to : (f : ℕ → ℕ) (m a : ℕ) → ((b : ℕ) → b < m → f a ≤ f b) → f a ≤ f m → (b : ℕ) → b < suc m → f a ≤ f b
up_to f m a low here b h = elim (cases_lt b m) [
  | inl l ↦ low b l
  | inr n ↦ (let e : b ≡ m = omega (arith, h, n) in subst (λ x. f a ≤ f x) (sym e) here)
]

first_least : (f : ℕ → ℕ) (m : ℕ) → FirstLeast f (suc m)
first_least f zero =
    record { at = 0; inside = omega arith; low = up_to f 0 0 (λ b h. absurd (omega (arith, h))) (omega arith); first = λ b h. absurd (omega (arith, h)) }
first_least f (suc m) =
    let v = first_least f m in
    elim (cases_lt (f (suc m)) (f v.at)) [
      | inl l ↦ record {
        at = suc m;
        inside = omega arith;
        low = up_to f (suc m) (suc m) (λ b h. omega (arith, l, v.low b h)) (omega arith);
        first = λ b h. omega (arith, l, v.low b h);
      }
      | inr n ↦ record {
        at = v.at;
        inside = omega (arith, v.inside);
        low = up_to f (suc m) v.at v.low (omega (arith, n));
        first = v.first;
      }
    ]

before_is : (g : Problem) (qs : List Pixel) (q p : Pixel) (m d : ℕ) → g.count ≡ suc m → (a : ℕ) × IsBefore g qs q p a d
before_is g qs q p m d e =
    let v = first_least (λ b. least_ending g (qs ++ q ∷ []) b + jump g q p b d) m in
    (v.at, record { inside = omega (arith, v.inside, e); low = λ b h. v.low b (omega (arith, h, e)); first = v.first })

-- ---- the best sequence, pixel by pixel

best_along : (g : Problem) (m : ℕ) → g.count ≡ suc m → (rs : List Pixel) (p : Pixel) (d : ℕ) → d < g.count → (s : List ℕ) × IsBest g (reverse rs ++ p ∷ []) d s
best_along g m e [] p d h = (d ∷ [], first_is_best g p d h)
best_along g m e (q ∷ rs) p d h =
    let w = before_is g (reverse rs) q p m d e in
    let v = best_along g m e rs q w.0 w.1.inside in
    (v.0 ++ d ∷ [], subst (λ qs. IsBest g (qs ++ p ∷ []) d (v.0 ++ d ∷ [])) (sym (reverse-append (q ∷ []) rs)) (next_is_best g (reverse rs) q p w.0 d v.0 h w.1 v.1))

count_is : (n d : ℕ) → d < n → (m : ℕ) × (n ≡ suc m)
count_is zero d h = absurd (omega (arith, h))
count_is (suc m) d h = (m, refl)

-- the best sequence of an index at the end of a ray
pub best_of_ray : (g : Problem) (dir : Dir) (p : Pixel) (d : ℕ) → d < g.count → IsBest g (ray g dir p) d (best g (ray g dir p) d)
best_of_ray g dir p d h =
    let m = count_is g.count d h in
    let v = best_along g m.0 m.1 (reverse (before g dir p)) p d h in
    let whole : reverse (reverse (before g dir p)) ++ p ∷ [] ≡ ray g dir p = ap (λ (qs : List Pixel). qs ++ p ∷ []) (reverse-reverse (before g dir p)) ∙ before_last g dir p in
    let is : IsBest g (ray g dir p) d v.0 = subst (λ qs. IsBest g qs d v.0) whole v.1 in
    subst (IsBest g (ray g dir p) d) (sym (best_is g (ray g dir p) d v.0 is)) is

-- ---- what it is

pub best_member : (g : Problem) (dir : Dir) (p : Pixel) (d : ℕ) → d < g.count → Contains (sequences g.count (length (ray g dir p))) (best g (ray g dir p) d)
unfolding attaining
best_member g dir p d h =
    let ps = ray g dir p in
    let f = from_filter _ (filter (ends_in d) (sequences g.count (length ps))) (best g ps d) (best_of_ray g dir p d h).member in
    (from_filter (ends_in d) (sequences g.count (length ps)) (best g ps d) f.0).0

pub best_ends : (g : Problem) (dir : Dir) (p : Pixel) (d : ℕ) → d < g.count → ends_in d (best g (ray g dir p) d) ≡ true
unfolding attaining
best_ends g dir p d h =
    let ps = ray g dir p in
    let f = from_filter _ (filter (ends_in d) (sequences g.count (length ps))) (best g ps d) (best_of_ray g dir p d h).member in
    (from_filter (ends_in d) (sequences g.count (length ps)) (best g ps d) f.0).1

pub best_least : (g : Problem) (dir : Dir) (p : Pixel) (d : ℕ) → d < g.count → energy g (ray g dir p) (best g (ray g dir p) d) ≡ least_ending g (ray g dir p) d
unfolding attaining
best_least g dir p d h =
    let ps = ray g dir p in
    let f = from_filter _ (filter (ends_in d) (sequences g.count (length ps))) (best g ps d) (best_of_ray g dir p d h).member in
    eqb-true (energy g ps (best g ps d)) (least_ending g ps d) f.1

pub best_first : (g : Problem) (dir : Dir) (p : Pixel) (d : ℕ) → d < g.count → (t : List ℕ) → Contains (attaining g (ray g dir p) d) t → not_after (best g (ray g dir p) d) t ≡ true
best_first g dir p d h = (best_of_ray g dir p d h).first

-- ---- its parts

abbrev pub part : Step → ℕ
part step = step.cost + step.jump

costs_more : (g : Problem) (p : Pixel) (b : ℕ) (ps : List Pixel) (s : List ℕ) → costs g (p ∷ ps) (b ∷ s) ≡ g.cost p b + costs g ps s
unfolding costs
costs_more g p b ps s = refl

jumps_more : (g : Problem) (q p : Pixel) (a b : ℕ) (ps : List Pixel) (s : List ℕ) → jumps g (q ∷ p ∷ ps) (a ∷ b ∷ s) ≡ jump g q p a b + jumps g (p ∷ ps) (b ∷ s)
unfolding jumps
jumps_more g q p a b ps s = refl

after_more : (g : Problem) (q p : Pixel) (a b : ℕ) (ps : List Pixel) (s : List ℕ)
    → sum_by part (steps_after g q a (p ∷ ps) (b ∷ s)) ≡ (g.cost p b + jump g q p a b) + sum_by part (steps_after g p b ps s)
unfolding steps_after
after_more g q p a b ps s = sum_by-cons part (step_between g q p a b) (steps_after g p b ps s)

first_more : (g : Problem) (p : Pixel) (b : ℕ) (ps : List Pixel) (s : List ℕ) → sum_by part (steps_of g (p ∷ ps) (b ∷ s)) ≡ (g.cost p b + 0) + sum_by part (steps_after g p b ps s)
unfolding steps_of
first_more g p b ps s = sum_by-cons part (first_step g p b) (steps_after g p b ps s)

-- nothing but the parts of the pixels that have an index
after_none : (g : Problem) (q : Pixel) (a : ℕ) (s : List ℕ) → sum_by part (steps_after g q a [] s) ≡ costs g [] s + jumps g (q ∷ []) (a ∷ s)
unfolding steps_after costs jumps
after_none g q a s = refl

after_end : (g : Problem) (q : Pixel) (a : ℕ) (p : Pixel) (ps : List Pixel) → sum_by part (steps_after g q a (p ∷ ps) []) ≡ costs g (p ∷ ps) [] + jumps g (q ∷ p ∷ ps) (a ∷ [])
unfolding steps_after costs jumps
after_end g q a p ps = refl

none_sum : (g : Problem) (s : List ℕ) → sum_by part (steps_of g [] s) ≡ energy g [] s
unfolding steps_of costs jumps
none_sum g s = refl

end_sum : (g : Problem) (p : Pixel) (ps : List Pixel) → sum_by part (steps_of g (p ∷ ps) []) ≡ energy g (p ∷ ps) []
unfolding steps_of costs jumps
end_sum g p [] = refl
end_sum g p (q ∷ ps) = refl

after_sum : (g : Problem) (q : Pixel) (a : ℕ) (ps : List Pixel) (s : List ℕ) → sum_by part (steps_after g q a ps s) ≡ costs g ps s + jumps g (q ∷ ps) (a ∷ s)
after_sum g q a [] s = after_none g q a s
after_sum g q a (p ∷ ps) [] = after_end g q a p ps
after_sum g q a (p ∷ ps) (b ∷ s) = omega (arith, after_sum g p b ps s, after_more g q p a b ps s, costs_more g p b ps s, jumps_more g q p a b ps s)

pub steps_sum : (g : Problem) (ps : List Pixel) (s : List ℕ) → sum_by part (steps_of g ps s) ≡ energy g ps s
steps_sum g [] s = none_sum g s
steps_sum g (p ∷ ps) [] = end_sum g p ps
steps_sum g (p ∷ ps) (b ∷ s) = omega (arith, after_sum g p b ps s, first_more g p b ps s, costs_more g p b ps s)
