-- The sequence from its end backwards.
use Rattle.std.proofs.Common.{◌≡◌, ℕ, ◌+◌, ◌<◌, List, [], ◌∷◌, ◌++◌, length, get_or, take, reverse, slice_index, sym, ap, ◌∙◌, subst, arith, append-nil, append_assoc}
use Rattle.std.proofs.lemmas.List.{take_all, take_more, reverse-append}
use Rattle.sgm_energy.specs.Rays.{Pixel, pixel_at, Problem}
use Rattle.sgm_energy.proofs.Sequences.{sequences_length}
use Rattle.sgm_trace.specs.declared.traced.Step.{Step}
use Rattle.sgm_trace.specs.Best.{best, first_step, step_between, steps_of, steps_after}
use Rattle.sgm_trace.proofs.Bests.{IsBest, IsBefore, best_is, first_is_best, next_is_best, attaining_from, steps_push}
use Rattle.sgm_energy.specs.Energies.{jump, least_ending}
use Rattle.sgm_trace.specs.Rows.{IsFirstLeast, energies_of}
use Rattle.sgm_trace.proofs.Growing.{up_to_next, energy_at}

-- whatever is best up to the k-th pixel and ends in b begins what is best along all and ends in d, and these are the
-- steps after it, the last first
pub record Follows (g : Problem) (ps : List Pixel) (d k b : ℕ) (steps : List Step) : Type 0 where
  pub each : (s : List ℕ) → IsBest g (take (k + 1) ps) b s
      → (t : List ℕ) × IsBest g ps d t × (steps_of g ps t ≡ steps_of g (take (k + 1) ps) s ++ reverse steps)

pub follows_start : (g : Problem) (ps : List Pixel) (d k : ℕ) → length ps ≡ k + 1 → Follows g ps d k d []
follows_start g ps d k e =
    let all : take (k + 1) ps ≡ ps = take_all (k + 1) ps (omega arith) in
    record {
      each = λ s w. (s, subst (λ qs. IsBest g qs d s) all w, ap (λ qs. steps_of g qs s) (sym all) ∙ sym (append-nil (steps_of g (take (k + 1) ps) s)));
    }

more_steps : (g : Problem) (qs : List Pixel) (q p : Pixel) (a b : ℕ) (s : List ℕ) → IsBest g (qs ++ q ∷ []) a s
    → steps_of g ((qs ++ q ∷ []) ++ p ∷ []) (s ++ b ∷ []) ≡ steps_of g (qs ++ q ∷ []) s ++ step_between g q p a b ∷ []
more_steps g qs q p a b s w =
    let v = attaining_from g qs q a s w.member in
    subst (λ x. steps_of g ((qs ++ q ∷ []) ++ p ∷ []) (x ++ b ∷ []) ≡ steps_of g (qs ++ q ∷ []) x ++ step_between g q p a b ∷ []) v.1.whole
    (steps_push g qs v.0 q p a b (sequences_length g.count (length qs) v.0 v.1.member))

pub follows_more : (g : Problem) (ps : List Pixel) (d j k a b : ℕ) (steps : List Step) → k ≡ j + 1 → k < length ps → b < g.count
    → IsBefore g (take j ps) (get_or ps j (pixel_at 0 0)) (get_or ps k (pixel_at 0 0)) a b
    → Follows g ps d k b steps
    → Follows g ps d j a (steps ++ step_between g (get_or ps j (pixel_at 0 0)) (get_or ps k (pixel_at 0 0)) a b ∷ [])
follows_more g ps d j k a b steps e h hb w rest =
    let q = get_or ps j (pixel_at 0 0) in
    let p = get_or ps k (pixel_at 0 0) in
    let step = step_between g q p a b in
    let before : take (j + 1) ps ≡ take j ps ++ q ∷ [] = take_more ps j (pixel_at 0 0) (omega arith) in
    let all : take (k + 1) ps ≡ (take j ps ++ q ∷ []) ++ p ∷ [] = up_to_next ps j k e h in
    record {
      each = λ s v. (
          let here : IsBest g (take j ps ++ q ∷ []) a s = subst (λ qs. IsBest g qs a s) before v in
          let next : IsBest g (take (k + 1) ps) b (s ++ b ∷ []) = subst (λ qs. IsBest g qs b (s ++ b ∷ [])) (sym all) (next_is_best g (take j ps) q p a b s hb w here) in
          let t = rest.each (s ++ b ∷ []) next in
          let grown : steps_of g (take (k + 1) ps) (s ++ b ∷ []) ≡ steps_of g (take (j + 1) ps) s ++ step ∷ [] =
          ap (λ qs. steps_of g qs (s ++ b ∷ [])) all ∙ more_steps g (take j ps) q p a b s here ∙ ap (λ qs. steps_of g qs s ++ step ∷ []) (sym before) in (
            t.0,
            t.1,
            t.2 ∙ ap (λ ss. ss ++ reverse steps) grown ∙ append_assoc (steps_of g (take (j + 1) ps) s) (step ∷ []) (reverse steps)
                ∙ ap (λ ss. steps_of g (take (j + 1) ps) s ++ ss) (sym (reverse-append steps (step ∷ []))),
          )
          );
    }

pub follows_end : (g : Problem) (ps : List Pixel) (d b : ℕ) (steps : List Step) → 0 < length ps → b < g.count → Follows g ps d 0 b steps
    → reverse (steps ++ first_step g (get_or ps 0 (pixel_at 0 0)) b ∷ []) ≡ steps_of g ps (best g ps d)
unfolding steps_of steps_after
follows_end g ps d b steps h hb rest =
    let p = get_or ps 0 (pixel_at 0 0) in
    let one : take 1 ps ≡ p ∷ [] = take_more ps 0 (pixel_at 0 0) h in
    let t = rest.each (b ∷ []) (subst (λ qs. IsBest g qs b (b ∷ [])) (sym one) (first_is_best g p b hb)) in
    reverse-append steps (first_step g p b ∷ [])
    ∙ sym (t.2 ∙ ap (λ qs. steps_of g qs (b ∷ []) ++ reverse steps) one)
    ∙ ap (steps_of g ps) (sym (best_is g ps d t.0 t.1))

-- what the search for the index before has found, over the row of energies that it read
pub before_from : (g : Problem) (ps : List Pixel) (j k a b : ℕ) (row : List ℕ) → k ≡ j + 1
    → k < length ps → row ≡ energies_of g (take (j + 1) ps)
    → IsFirstLeast
    (λ x. slice_index row x
    + jump g (get_or ps j (pixel_at 0 0)) (get_or ps k (pixel_at 0 0)) x b)
    g.count a
    → IsBefore g (take j ps) (get_or ps j (pixel_at 0 0)) (get_or ps k (pixel_at 0 0)) a b
before_from g ps j k a b row e h is w =
    let qs = take j ps ++ get_or ps j (pixel_at 0 0) ∷ [] in
    let upto : row ≡ energies_of g qs = is ∙ ap (energies_of g) (take_more ps j (pixel_at 0 0) (omega arith)) in
    let at = λ (x : ℕ) (hx : x < g.count). (let v : slice_index row x ≡ least_ending g qs x = ap (λ r. slice_index r x) upto ∙ energy_at g qs x hx in v) in
    record {
      inside = w.inside;
      low = λ x hx. omega (arith, w.low x hx, at x hx, at a w.inside);
      first = λ x hx. omega (arith, w.first x hx, at x (omega (arith, hx, w.inside)), at a w.inside);
    }
