-- The least energies of each index, from pixel to pixel.
use Rattle.std.proofs.Common.{◌≡◌, ℕ, ◌+◌, ◌*◌, ◌<◌, ◌≤◌, zero, suc, List, [], ◌∷◌, ◌++◌, length, get_or, take, map, slice_index, refl, sym, ap, ◌∙◌, subst, arith}
use Rattle.std.specs.List.{All}
use Rattle.std.proofs.lemmas.List.{take_more, length-map, get_or-map}
use Rattle.std.proofs.lemmas.List.FromFn.{length-map-range_with_len, get_or-map-range_with_len}
use Rattle.sgm_energy.specs.Step.{carried}
use Rattle.sgm_energy.specs.Rays.{Pixel, pixel_at, Problem, IsInside}
use Rattle.sgm_energy.specs.Energies.{least_ending}
use Rattle.sgm_energy.proofs.Steps.{change_same, step_is}
use Rattle.sgm_energy.proofs.LeastEnergies.{ending_first, ending_next_le, ending_next_in}
use Rattle.sgm_trace.specs.declared.place.Place.{Place}
use Rattle.sgm_trace.specs.Rows.{energies_of, first_energies, pixel_of}

pub energies_length : (g : Problem) (ps : List Pixel) → length (energies_of g ps) ≡ g.count
energies_length g ps = length-map-range_with_len (least_ending g ps) 0 g.count

pub energy_at : (g : Problem) (ps : List Pixel) (d : ℕ) → d < g.count → slice_index (energies_of g ps) d ≡ least_ending g ps d
energy_at g ps d h = get_or-map-range_with_len (least_ending g ps) 0 g.count d d 0 h (omega arith)

-- what is carried to an index and its cost are its least energy
pub next_is : (g : Problem) (qs : List Pixel) (q p : Pixel) (low d : ℕ) → d < g.count → g.p1 ≤ g.far q p
    → ((a : ℕ) → a < g.count → low ≤ slice_index (energies_of g (qs ++ q ∷ [])) a)
    → (m : ℕ) → m < g.count → slice_index (energies_of g (qs ++ q ∷ [])) m ≡ low
    → carried (slice_index (energies_of g (qs ++ q ∷ []))) g.count g.p1 (g.far q p) low d + g.cost p d ≡ least_ending g ((qs ++ q ∷ []) ++ p ∷ []) d
next_is g qs q p low d hd hf each m hm em =
    let v = ending_next_in g qs q p d hd in
    let all = least_ending g ((qs ++ q ∷ []) ++ p ∷ []) d in
    let s : all ≡ (g.cost p d + carried (slice_index (energies_of g (qs ++ q ∷ []))) g.count g.p1 (g.far q p) low d) + 0 =
    step_is (slice_index (energies_of g (qs ++ q ∷ []))) g.count g.p1 (g.far q p) low d 0 (g.cost p d) all hd hf each m hm em
    (λ a h. omega (arith, ending_next_le g qs q p a d h hd, energy_at g (qs ++ q ∷ []) a h)) v.0 v.1 (omega (arith, v.2, energy_at g (qs ++ q ∷ []) v.0 v.1)) in
    omega (arith, s)

-- the pixels of a ray up to the next
pub up_to_next : (ps : List Pixel) (j k : ℕ) → k ≡ j + 1 → k < length ps
    → take (k + 1) ps ≡ (take j ps ++ get_or ps j (pixel_at 0 0) ∷ []) ++ get_or ps k (pixel_at 0 0) ∷ []
up_to_next ps j k e h =
    take_more ps k (pixel_at 0 0) h
    ∙ ap (λ (n : ℕ). take n ps ++ get_or ps k (pixel_at 0 0) ∷ []) e
    ∙ ap (λ (qs : List Pixel). qs ++ get_or ps k (pixel_at 0 0) ∷ []) (take_more ps j (pixel_at 0 0) (omega arith))

-- no least energy is greater than what the same index costs at most everywhere
pub energy_small : (g : Problem) (most : ℕ) → ((p : Pixel) (d : ℕ) → IsInside g p → d < g.count → g.cost p d ≤ most) → (ps : List Pixel) → All (IsInside g) ps
    → (k d : ℕ) → k < length ps → d < g.count → least_ending g (take (k + 1) ps) d ≤ most * (k + 1)
energy_small g most limit ps inside zero d h hd =
    let p = get_or ps 0 (pixel_at 0 0) in
    let one : take 1 ps ≡ p ∷ [] = take_more ps 0 (pixel_at 0 0) h in
    omega (arith, ap (λ qs. least_ending g qs d) one, ending_first g p d hd, limit p d (inside 0 (pixel_at 0 0) h) hd)
energy_small g most limit ps inside (suc j) d h hd =
    let q = get_or ps j (pixel_at 0 0) in
    let p = get_or ps (suc j) (pixel_at 0 0) in
    let all = up_to_next ps j (suc j) (omega arith) h in
    let before : take (j + 1) ps ≡ take j ps ++ q ∷ [] = take_more ps j (pixel_at 0 0) (omega arith) in
    let low = energy_small g most limit ps inside j d (omega arith) hd in
    let grown : most * (suc j + 1) ≡ most * (j + 1) + most = omega arith in
    omega (
      arith,
      grown,
      ap (λ qs. least_ending g qs d) all,
      ap (λ qs. least_ending g qs d) before,
      low,
      ending_next_le g (take j ps) q p d d hd hd,
      change_same g.p1 (g.far q p) d d refl,
      limit p d (inside (suc j) (pixel_at 0 0) h) hd,
    )

-- the rows that are kept
pub rows_length : {X : Type 0} (f : X → List ℕ) (rows : List X) (g : Problem) (ps : List Pixel) (n : ℕ) → map f rows ≡ first_energies g ps n → length rows ≡ n
rows_length f rows g ps n e = sym (length-map rows f) ∙ ap length e ∙ length-map-range_with_len (λ k. energies_of g (take (k + 1) ps)) 0 n

pub row_at : {X : Type 0} (f : X → List ℕ) (rows : List X) (g : Problem) (ps : List Pixel) (n j : ℕ) (x : X) → map f rows ≡ first_energies g ps n → j < n
    → f (get_or rows j x) ≡ energies_of g (take (j + 1) ps)
row_at f rows g ps n j x e h =
    let long = rows_length f rows g ps n e in
    sym (get_or-map f rows j x [] (omega arith)) ∙ ap (λ xs. get_or xs j []) e
    ∙ get_or-map-range_with_len (λ k. energies_of g (take (k + 1) ps)) 0 n j j [] h (omega arith)

pub inside_map : (g : Problem) (places : List Place) → All (λ p. IsInside g (pixel_of p)) places → All (IsInside g) (map pixel_of places)
inside_map g places h i d l =
    let none : Place = record { x = 0; y = 0 } in
    let long : i < length places = omega (arith, length-map places pixel_of) in
    subst (IsInside g) (sym (get_or-map pixel_of places i none d long)) (h i none long)

pub row_small : (g : Problem) (most : ℕ) → ((p : Pixel) (d : ℕ) → IsInside g p → d < g.count → g.cost p d ≤ most) → (places : List Place) → All (λ p. IsInside g (pixel_of p)) places
    → (row : List ℕ) (j : ℕ) → row ≡ energies_of g (take (j + 1) (map pixel_of places)) → j < length places
    → (d : ℕ) → d < length row → slice_index row d ≤ most * (j + 1)
row_small g most limit places inside row j e h d l =
    let ps = map pixel_of places in
    let hd : d < g.count = omega (arith, ap length e, energies_length g (take (j + 1) ps)) in
    omega (arith, ap (λ r. slice_index r d) e, energy_at g (take (j + 1) ps) d hd, energy_small g most limit ps (inside_map g places inside) j d (omega (arith, length-map places pixel_of)) hd)

-- the value that is put in a row for an index
pub next_value : (g : Problem) (qs : List Pixel) (q p : Pixel) (before : List ℕ) (low d near far cost reached : ℕ) → before ≡ energies_of g (qs ++ q ∷ []) → d < g.count
    → near ≡ g.p1 → far ≡ g.far q p → cost ≡ g.cost p d → g.p1 ≤ g.far q p
    → ((a : ℕ) → a < length before → low ≤ slice_index before a) → (m : ℕ) → m < length before → slice_index before m ≡ low
    → reached ≡ carried (slice_index before) (length before) near far low d
    → reached + cost ≡ least_ending g ((qs ++ q ∷ []) ++ p ∷ []) d
next_value g qs q p before low d near far cost reached is hd en ef ec order each m hm em er =
    let row = energies_of g (qs ++ q ∷ []) in
    let long : length before ≡ g.count = ap length is ∙ energies_length g (qs ++ q ∷ []) in
    let value : reached ≡ carried (slice_index row) g.count g.p1 (g.far q p) low d =
    er ∙ ap (λ (b : List ℕ). carried (slice_index b) (length before) near far low d) is ∙ ap (λ (n : ℕ). carried (slice_index row) n near far low d) long
    ∙ ap (λ (n : ℕ). carried (slice_index row) g.count n far low d) en ∙ ap (λ (n : ℕ). carried (slice_index row) g.count g.p1 n low d) ef in
    omega (
      arith,
      value,
      ec,
      next_is g qs q p low d hd order
          (λ a h. omega (arith, each a (omega arith), ap (λ (b : List ℕ). slice_index b a) is)) m (omega arith) (sym (ap (λ (b : List ℕ). slice_index b m) is) ∙ em),
    )
