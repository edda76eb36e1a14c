-- The laws of path values.
use Rattle.std.proofs.Common.{◌≡◌, ℕ, ◌+◌, ◌<◌, ◌≤◌, List, [], ◌∷◌, ◌++◌, map, Option, Some, None, refl, sym, ap, ◌∙◌, arith}
use Rattle.sgm_base.specs.Values.{Values, value_at}
use Rattle.sgm_energy.specs.Step.{IsStepped}
use Rattle.sgm_energy.specs.declared.dir.Dir.{Dir}
use Rattle.sgm_energy.specs.Pens.{Penalties}
use Rattle.sgm_energy.specs.Rays.{Pixel, Problem, IsInside, guided_problem, predecessor, ray, before}
use Rattle.sgm_energy.specs.Energies.{below, least_of_all, least_ending, path_value, IsWithin, least_value}
use Rattle.sgm_energy.proofs.Members.{in_map, from_map, in_below, from_below}
use Rattle.sgm_energy.proofs.Leasts.{least_le, least_is}
use Rattle.sgm_energy.proofs.LeastEnergies.{all_of_none, ending_first, ending_next_le, ending_next_in, all_le_ending, all_in_ending, all_le_more}
use Rattle.sgm_energy.proofs.RayLemmas.{ray_ends, ray_first, ray_next, before_is}
use Rattle.sgm_energy.proofs.Penalties.{far-ordered, far-limited}
use Rattle.sgm_energy.proofs.Steps.{carried_le_far, step_is}

-- what a path value is at the last pixel of a ray
pub value_is : (g : Problem) (dir : Dir) (p : Pixel) (ps : List Pixel) (d : ℕ) → d < g.count → ray g dir p ≡ ps ++ p ∷ [] → path_value g dir p d + least_of_all g ps ≡ least_ending g (ps ++ p ∷ []) d
unfolding path_value
value_is g dir p ps d h e =
    let el : least_ending g (ray g dir p) d ≡ least_ending g (ps ++ p ∷ []) d = ap (λ r. least_ending g r d) e in
    let ea : least_of_all g (before g dir p) ≡ least_of_all g ps = ap (least_of_all g) (before_is g dir p ps e) in
    omega (arith, all_le_more g ps p d h)

-- it is no true difference below 0
pub low : (g : Problem) (dir : Dir) (p : Pixel) (d : ℕ) → d < g.count → least_of_all g (before g dir p) ≤ least_ending g (ray g dir p) d
low g dir p d h =
    let w = ray_ends g dir p in
    let el : least_ending g (ray g dir p) d ≡ least_ending g (w.0 ++ p ∷ []) d = ap (λ r. least_ending g r d) w.1 in
    let ea : least_of_all g (before g dir p) ≡ least_of_all g w.0 = ap (least_of_all g) (before_is g dir p w.0 w.1) in
    omega (arith, all_le_more g w.0 p d h)

pub first : (g : Problem) (dir : Dir) (p : Pixel) (d : ℕ) → d < g.count → predecessor g dir p ≡ None → path_value g dir p d ≡ g.cost p d
first g dir p d h e =
    omega (arith, value_is g dir p [] d h (ray_first g dir p e), all_of_none g, ending_first g p d h)

-- the least value, together with what was subtracted, is the least energy; none is less, and one is it
pub record Least (g : Problem) (dir : Dir) (q : Pixel) (qs : List Pixel) : Type 0 where
  pub energy : least_value g dir q + least_of_all g qs ≡ least_of_all g (qs ++ q ∷ [])
  pub each : (a : ℕ) → a < g.count → least_value g dir q ≤ path_value g dir q a
  pub at : ℕ
  pub below_count : at < g.count
  pub reached : path_value g dir q at ≡ least_value g dir q

least_value_is : (g : Problem) (dir : Dir) (q : Pixel) (qs : List Pixel) → 0 < g.count → ray g dir q ≡ qs ++ q ∷ [] → Least g dir q qs
least_value_is g dir q qs h e =
    let a = all_in_ending g qs q h in
    let is = least_is (map (path_value g dir q) (below g.count)) (path_value g dir q a.0) (in_map (path_value g dir q) (below g.count) a.0 (in_below g.count a.0 a.1))
    (λ x c. let v = from_map (path_value g dir q) (below g.count) x c in
    let l = from_below g.count v.0 v.1 in
    omega (arith, value_is g dir q qs a.0 a.1 e, value_is g dir q qs v.0 l e, a.2, v.2, all_le_ending g qs q v.0 l)) in
    record {
      energy = omega (arith, is, value_is g dir q qs a.0 a.1 e, a.2);
      each = λ x l. least_le (map (path_value g dir q) (below g.count)) (path_value g dir q x) (in_map (path_value g dir q) (below g.count) x (in_below g.count x l));
      at = a.0;
      below_count = a.1;
      reached = sym is;
    }

pub next : (g : Problem) (dir : Dir) (p q : Pixel) (d : ℕ) → d < g.count → g.p1 ≤ g.far q p → predecessor g dir p ≡ Some q
    → IsStepped (path_value g dir q) g.count g.p1 (g.far q p) (least_value g dir q) (g.cost p d) d (path_value g dir p d)
next g dir p q d h f e =
    let w = ray_ends g dir q in
    let qs = w.0 in
    let rp : ray g dir p ≡ (qs ++ q ∷ []) ++ p ∷ [] = ray_next g dir p q e ∙ ap (λ r. r ++ p ∷ []) w.1 in
    let l = least_value_is g dir q qs (omega arith) w.1 in
    let a = ending_next_in g qs q p d h in
    let step = step_is (path_value g dir q) g.count g.p1 (g.far q p) (least_value g dir q) d (least_of_all g qs) (g.cost p d) (least_ending g ((qs ++ q ∷ []) ++ p ∷ []) d) h f
    l.each l.at l.below_count l.reached
    (λ x hx. omega (arith, ending_next_le g qs q p x d hx h, value_is g dir q qs x hx w.1))
    a.0 a.1 (omega (arith, a.2, value_is g dir q qs a.0 a.1 w.1)) in
    omega (arith, step, value_is g dir p (qs ++ q ∷ []) d h rp, l.energy)

-- a path value is at most the greatest cost and the greatest penalty
pub high : (g : Problem) (dir : Dir) (p : Pixel) (d most top : ℕ) → d < g.count → IsInside g p → IsWithin g most top → path_value g dir p d ≤ most + top
high g dir p d most top h i w = cases (predecessor g dir p) refl
  where
    cases : (o : Option Pixel) → predecessor g dir p ≡ o → path_value g dir p d ≤ most + top
    cases None e = omega (arith, first g dir p d h e, w.costs p d i h)
    cases (Some q) e =
        omega (arith, next g dir p q d h (w.ordered q p) e, carried_le_far (path_value g dir q) g.count g.p1 (g.far q p) (least_value g dir q) d, w.costs p d i h, w.penalties q p)

pub within_guided : (width height count most : ℕ) (cost : Pixel → ℕ → ℕ) (penalties : Penalties) (guide : Values) → penalties.p1 ≤ penalties.p2
    → ((p : Pixel) (d : ℕ) → p.x < width → p.y < height → d < count → cost p d ≤ most)
    → IsWithin (guided_problem width height count cost penalties guide) most penalties.p2
within_guided width height count most cost penalties guide le h =
    record {
      costs = λ p d i l. h p d i.0 i.1 l;
      ordered = λ q p. far-ordered penalties (value_at guide p.x p.y) (value_at guide q.x q.y) le;
      penalties = λ q p. far-limited penalties (value_at guide p.x p.y) (value_at guide q.x q.y) le;
    }
