-- Where the pixels of a ray stand.
use Rattle.std.proofs.Common.{◌≡◌, ℕ, ℤ, ◌+◌, ◌-◌, ◌<◌, ◌≤◌, zero, suc, take, drop, get_or, List, [], ◌∷◌, ◌++◌, length, Option, Some, None, refl, sym, ap, ◌∙◌, subst, inl, inr, ◌⊎◌, arith, pos, negsuc, ◌+ℤ◌, ◌*ℤ◌}
use Rattle.std.specs.Option.{option_map_or}
use Rattle.std.proofs.lemmas.Int.{ints}
use Rattle.std.proofs.lemmas.List.{length_push, length-append, length-drop, same_from_push, append_assoc, take-append-drop, ext_get_or}
use Rattle.std.proofs.Math.Seq.{drop-cons}
use Rattle.std.proofs.lemmas.Bool.{cases_lt}
use Rattle.sgm_energy.specs.declared.dir.Dir.{Dir}
use Rattle.sgm_energy.specs.declared.dir.Dir.TheVariants.{Right, Left, Down, DownRight, DownLeft, Up, UpRight, UpLeft}
use Rattle.sgm_energy.specs.Dirs.{offset}
use Rattle.sgm_energy.specs.Rays.{Pixel, pixel_at, Problem, predecessor, minus, ray_within, ray, StandsBefore, IsInside, IsRay}
use Rattle.sgm_energy.proofs.RayLemmas.{Parts, parts_from, predecessor_is, before_inside, none_is_not_some, minus_pos, minus_negsuc, minus_zero, minus_one, minus_up, room, room_falls, room_small, within_ends, ray_ends}

-- one axis, by one offset
one : (limit r q p k : ℕ) → minus limit p (pos 1) ≡ Some q → pos r +ℤ (pos k *ℤ pos 1) ≡ pos q → pos r +ℤ (pos (k + 1) *ℤ pos 1) ≡ pos p
one limit r q p k e h = omega (arith, ints, (minus_pos limit p 1 q e).0, h)

none : (limit r q p k : ℕ) → minus limit p (pos 0) ≡ Some q → pos r +ℤ (pos k *ℤ pos 0) ≡ pos q → pos r +ℤ (pos (k + 1) *ℤ pos 0) ≡ pos p
none limit r q p k e h = omega (arith, ints, (minus_pos limit p 0 q e).0, h)

back : (limit r q p k : ℕ) → minus limit p (negsuc 0) ≡ Some q → pos r +ℤ (pos k *ℤ negsuc 0) ≡ pos q → pos r +ℤ (pos (k + 1) *ℤ negsuc 0) ≡ pos p
back limit r q p k e h = omega (arith, ints, (minus_negsuc limit p 0 q e).0, h)

pub stands_here : (dir : Dir) (p : Pixel) → StandsBefore dir p 0 p
stands_here Right p = record { across = omega (arith, ints); down = omega (arith, ints) }
stands_here Left p = record { across = omega (arith, ints); down = omega (arith, ints) }
stands_here Down p = record { across = omega (arith, ints); down = omega (arith, ints) }
stands_here DownRight p = record { across = omega (arith, ints); down = omega (arith, ints) }
stands_here DownLeft p = record { across = omega (arith, ints); down = omega (arith, ints) }
stands_here Up p = record { across = omega (arith, ints); down = omega (arith, ints) }
stands_here UpRight p = record { across = omega (arith, ints); down = omega (arith, ints) }
stands_here UpLeft p = record { across = omega (arith, ints); down = omega (arith, ints) }

pub stands_more : (g : Problem) (dir : Dir) (p q r : Pixel) (k : ℕ) → Parts g dir p q → StandsBefore dir q k r → StandsBefore dir p (k + 1) r
stands_more g Right p q r k w s = record { across = one g.width r.x q.x p.x k w.across s.across; down = none g.height r.y q.y p.y k w.down s.down }
stands_more g Left p q r k w s = record { across = back g.width r.x q.x p.x k w.across s.across; down = none g.height r.y q.y p.y k w.down s.down }
stands_more g Down p q r k w s = record { across = none g.width r.x q.x p.x k w.across s.across; down = one g.height r.y q.y p.y k w.down s.down }
stands_more g DownRight p q r k w s = record { across = one g.width r.x q.x p.x k w.across s.across; down = one g.height r.y q.y p.y k w.down s.down }
stands_more g DownLeft p q r k w s = record { across = back g.width r.x q.x p.x k w.across s.across; down = one g.height r.y q.y p.y k w.down s.down }
stands_more g Up p q r k w s = record { across = none g.width r.x q.x p.x k w.across s.across; down = back g.height r.y q.y p.y k w.down s.down }
stands_more g UpRight p q r k w s = record { across = one g.width r.x q.x p.x k w.across s.across; down = back g.height r.y q.y p.y k w.down s.down }
stands_more g UpLeft p q r k w s = record { across = back g.width r.x q.x p.x k w.across s.across; down = back g.height r.y q.y p.y k w.down s.down }

last_cases : {X : Type 0} (xs : List X) → (xs ≡ []) ⊎ ((ys : List X) × (y : X) × (xs ≡ ys ++ y ∷ []))
last_cases [] = inl refl
last_cases (x ∷ xs) = elim (last_cases xs) [
  | inl e ↦ inr ([], x, ap (λ l. x ∷ l) e)
  | inr w ↦ inr (x ∷ w.0, w.1, ap (λ l. x ∷ l) w.2)
]

-- r lies in the image, k offsets before p
pub record Place (g : Problem) (dir : Dir) (p : Pixel) (k : ℕ) (r : Pixel) : Type 0 where
  pub inside : IsInside g r
  pub stands : StandsBefore dir p k r

-- in a list with p at its end, an element stands at the end or in the rest
places_step : (g : Problem) (dir : Dir) (p r : Pixel) (front ps rs : List Pixel) → IsInside g p → front ++ p ∷ [] ≡ ps ++ r ∷ rs
    → ((ts : List Pixel) → front ≡ ps ++ r ∷ ts → Place g dir p (length ts + 1) r) → Place g dir p (length rs) r
places_step g dir p r front ps rs i e rest = elim (last_cases rs) [
  | inl n ↦ (let same = same_from_push front ps p r (e ∙ ap (λ l. ps ++ r ∷ l) n) in
      subst (λ l. Place g dir p (length l) r) (sym n) (subst (Place g dir p 0) same.1 (record { inside = i; stands = stands_here dir p })))
  | inr w ↦ (let same = same_from_push front (ps ++ r ∷ w.0) p w.1 (e ∙ ap (λ l. ps ++ r ∷ l) w.2 ∙ sym (append_assoc ps (r ∷ w.0) (w.1 ∷ []))) in
      let n : length w.0 + 1 ≡ length rs = sym (length_push w.0 w.1) ∙ ap length (sym w.2) in
      subst (λ k. Place g dir p k r) n (rest w.0 same.0))
]

not_nil : {X : Type 0} (ps : List X) (r : X) (rs : List X) → [] ≡ ps ++ r ∷ rs → ⊥
not_nil ps r rs e = absurd (omega (arith, ap length e, length-append ps (r ∷ rs)))

place_more : (g : Problem) (dir : Dir) (p q r : Pixel) (k : ℕ) → Parts g dir p q → Place g dir q k r → Place g dir p (k + 1) r
place_more g dir p q r k w s = record { inside = s.inside; stands = stands_more g dir p q r k w s.stands }

places_before : (g : Problem) (dir : Dir) (n : ℕ) (p r : Pixel) (ps : List Pixel)
    → ((q : Pixel) (ts : List Pixel) → IsInside g q → ray_within g dir n q ≡ ps ++ r ∷ ts → Place g dir q (length ts) r)
    → (o : Option Pixel) → predecessor g dir p ≡ o → (ts : List Pixel) → option_map_or (ray_within g dir n) o [] ≡ ps ++ r ∷ ts → Place g dir p (length ts + 1) r
places_before g dir n p r ps rest None e ts s = absurd (not_nil ps r ts s)
places_before g dir n p r ps rest (Some q) e ts s =
    let w = parts_from g dir p q e in
    place_more g dir p q r (length ts) w (rest q ts (before_inside g dir p q w) s)

places_within : (g : Problem) (dir : Dir) (n : ℕ) (p r : Pixel) (ps rs : List Pixel) → IsInside g p → ray_within g dir n p ≡ ps ++ r ∷ rs → Place g dir p (length rs) r
unfolding ray_within
places_within g dir zero p r ps rs i e = places_step g dir p r [] ps rs i e (λ ts s. absurd (not_nil ps r ts s))
places_within g dir (suc n) p r ps rs i e =
    places_step g dir p r (option_map_or (ray_within g dir n) (predecessor g dir p) []) ps rs i e
    (places_before g dir n p r ps (λ q ts j s. places_within g dir n q r ps ts j s) (predecessor g dir p) refl)

-- a pixel of a ray with k pixels after it lies in the image, k offsets before the last
pub ray_places : (g : Problem) (dir : Dir) (p r : Pixel) (ps rs : List Pixel) → IsInside g p → ray g dir p ≡ ps ++ r ∷ rs → Place g dir p (length rs) r
unfolding ray
ray_places g dir p r ps rs i e = places_within g dir (g.width + g.height) p r ps rs i e

-- the first of a list with p at its end
first_of : (front : List Pixel) (p r : Pixel) (rs : List Pixel) → front ++ p ∷ [] ≡ r ∷ rs → ((front ≡ []) × (p ≡ r)) ⊎ ((ts : List Pixel) × (front ≡ r ∷ ts))
first_of [] p r rs e = inl (refl, cc)
first_of (x ∷ xs) p r rs e = let h : x ≡ r = cc in inr (xs, ap (λ z. z ∷ xs) h)

none_left : (g : Problem) (dir : Dir) (p : Pixel) → room g dir p ≤ 0 → (o : Option Pixel) → predecessor g dir p ≡ o → predecessor g dir p ≡ None
none_left g dir p h None e = e
none_left g dir p h (Some q) e = absurd (omega (arith, room_falls g dir p q (parts_from g dir p q e)))

begins_before : (g : Problem) (dir : Dir) (n : ℕ) (p r : Pixel) (rs : List Pixel) → room g dir p ≤ suc n → ((q : Pixel) (ts : List Pixel) → room g dir q ≤ n → ray_within g dir n q ≡ r ∷ ts → predecessor g dir r ≡ None)
    → (o : Option Pixel) → predecessor g dir p ≡ o → option_map_or (ray_within g dir n) o [] ++ p ∷ [] ≡ r ∷ rs → predecessor g dir r ≡ None
begins_before g dir n p r rs h rest None e s = let same : p ≡ r = cc in subst (λ z. predecessor g dir z ≡ None) same e
begins_before g dir n p r rs h rest (Some q) e s = elim (first_of (ray_within g dir n q) p r rs s) [
  | inl w ↦ (let ends = within_ends g dir n q in absurd (omega (arith, ap length w.0, ap length ends.1, length_push ends.0 q)))
  | inr w ↦ rest q w.0 (omega (arith, room_falls g dir p q (parts_from g dir p q e))) w.1
]

begins_within : (g : Problem) (dir : Dir) (n : ℕ) (p r : Pixel) (rs : List Pixel) → room g dir p ≤ n → ray_within g dir n p ≡ r ∷ rs → predecessor g dir r ≡ None
unfolding ray_within
begins_within g dir zero p r rs h e = let same : p ≡ r = cc in subst (λ z. predecessor g dir z ≡ None) same (none_left g dir p h (predecessor g dir p) refl)
begins_within g dir (suc n) p r rs h e = begins_before g dir n p r rs h (λ q ts l s. begins_within g dir n q r ts l s) (predecessor g dir p) refl e

-- before the first pixel of a ray there is none in the image
pub ray_begins : (g : Problem) (dir : Dir) (p r : Pixel) (rs : List Pixel) → IsInside g p → ray g dir p ≡ r ∷ rs → predecessor g dir r ≡ None
unfolding ray
ray_begins g dir p r rs i e = begins_within g dir (g.width + g.height) p r rs (omega (arith, room_small g dir p i)) e

-- ---- one offset before a pixel that has no predecessor there is no pixel of the image
ahead : (limit r f p n k : ℕ) → n ≡ k + 1 → r < limit → pos r +ℤ (pos n *ℤ pos 1) ≡ pos p → pos f +ℤ (pos k *ℤ pos 1) ≡ pos p → minus limit f (pos 1) ≡ Some r
ahead limit r f p n k e l hr hf =
    let s : f ≡ r + 1 = omega (arith, ints, hr, hf) in
    minus_one limit f (omega arith) (omega arith) ∙ ap Some (omega arith)

beside : (limit r f p n k : ℕ) → n ≡ k + 1 → r < limit → pos r +ℤ (pos n *ℤ pos 0) ≡ pos p → pos f +ℤ (pos k *ℤ pos 0) ≡ pos p → minus limit f (pos 0) ≡ Some r
beside limit r f p n k e l hr hf =
    let s : f ≡ r = omega (arith, ints, hr, hf) in
    minus_zero limit f (omega arith) ∙ ap Some s

behind : (limit r f p n k : ℕ) → n ≡ k + 1 → r < limit → pos r +ℤ (pos n *ℤ negsuc 0) ≡ pos p → pos f +ℤ (pos k *ℤ negsuc 0) ≡ pos p → minus limit f (negsuc 0) ≡ Some r
behind limit r f p n k e l hr hf =
    let s : r ≡ f + 1 = omega (arith, ints, hr, hf) in
    minus_up limit f (omega arith) ∙ ap Some (sym s)

between : (g : Problem) (dir : Dir) (p f r : Pixel) (n k : ℕ) → n ≡ k + 1 → IsInside g r → StandsBefore dir p n r → StandsBefore dir p k f → Parts g dir f r
between g Right p f r n k e i a b = record { across = ahead g.width r.x f.x p.x n k e i.0 a.across b.across; down = beside g.height r.y f.y p.y n k e i.1 a.down b.down }
between g Left p f r n k e i a b = record { across = behind g.width r.x f.x p.x n k e i.0 a.across b.across; down = beside g.height r.y f.y p.y n k e i.1 a.down b.down }
between g Down p f r n k e i a b = record { across = beside g.width r.x f.x p.x n k e i.0 a.across b.across; down = ahead g.height r.y f.y p.y n k e i.1 a.down b.down }
between g DownRight p f r n k e i a b = record { across = ahead g.width r.x f.x p.x n k e i.0 a.across b.across; down = ahead g.height r.y f.y p.y n k e i.1 a.down b.down }
between g DownLeft p f r n k e i a b = record { across = behind g.width r.x f.x p.x n k e i.0 a.across b.across; down = ahead g.height r.y f.y p.y n k e i.1 a.down b.down }
between g Up p f r n k e i a b = record { across = beside g.width r.x f.x p.x n k e i.0 a.across b.across; down = behind g.height r.y f.y p.y n k e i.1 a.down b.down }
between g UpRight p f r n k e i a b = record { across = ahead g.width r.x f.x p.x n k e i.0 a.across b.across; down = behind g.height r.y f.y p.y n k e i.1 a.down b.down }
between g UpLeft p f r n k e i a b = record { across = behind g.width r.x f.x p.x n k e i.0 a.across b.across; down = behind g.height r.y f.y p.y n k e i.1 a.down b.down }

none_before : (g : Problem) (dir : Dir) (p r : Pixel) → IsInside g p → (ps : List Pixel) → ray g dir p ≡ ps → StandsBefore dir p (length ps) r → IsInside g r → ⊥
none_before g dir p r i [] e s j = let w = ray_ends g dir p in absurd (not_nil w.0 p [] (sym e ∙ w.1))
none_before g dir p r i (f ∷ fs) e s j =
    let place = ray_places g dir p f [] fs i e in
    let parts = between g dir p f r (length (f ∷ fs)) (length fs) (omega arith) j s place.stands in
    absurd (none_is_not_some r (sym (ray_begins g dir p f fs i e) ∙ predecessor_is g dir f r parts))

pub is_ray : (g : Problem) (dir : Dir) (p : Pixel) → IsInside g p → IsRay g dir p (ray g dir p)
is_ray g dir p i =
    record {
      inside = λ qs rs r e. (ray_places g dir p r qs rs i e).inside;
      places = λ qs rs r e. (ray_places g dir p r qs rs i e).stands;
      ends = λ r s j. none_before g dir p r i (ray g dir p) refl s j;
    }

-- ---- there is only one ray
at : {X : Type 0} (xs : List X) (i : ℕ) (x : X) → i < length xs → xs ≡ take i xs ++ get_or xs i x ∷ drop (suc i) xs
at xs i x h = sym (take-append-drop i xs) ∙ ap (λ l. take i xs ++ l) (drop-cons xs i x h)

same_axis : (r s p : ℕ) (z : ℤ) → pos r +ℤ z ≡ pos p → pos s +ℤ z ≡ pos p → r ≡ s
same_axis r s p z a b = omega (arith, ints, a, b)

same_place : (dir : Dir) (p r s : Pixel) (k m : ℕ) → k ≡ m → StandsBefore dir p k r → StandsBefore dir p m s → r ≡ s
same_place dir p r s k m e a b =
    let c : StandsBefore dir p k s = subst (λ n. StandsBefore dir p n s) (sym e) b in
    ap (λ x. pixel_at x r.y) (same_axis r.x s.x p.x (pos k *ℤ (offset dir).0) a.across c.across)
    ∙ ap (pixel_at s.x) (same_axis r.y s.y p.y (pos k *ℤ (offset dir).1) a.down c.down)

not_longer : (g : Problem) (dir : Dir) (p : Pixel) (ps qs : List Pixel) → IsRay g dir p ps → IsRay g dir p qs → length ps < length qs → ⊥
not_longer g dir p ps qs a b l =
    let i : ℕ = length qs - suc (length ps) in
    let h : i < length qs = omega arith in
    let e = at qs i p h in
    let n : length (drop (suc i) qs) ≡ length ps = omega (arith, length-drop (suc i) qs) in
    a.ends (get_or qs i p) (subst (λ k. StandsBefore dir p k (get_or qs i p)) n (b.places (take i qs) (drop (suc i) qs) (get_or qs i p) e))
    (b.inside (take i qs) (drop (suc i) qs) (get_or qs i p) e)

pub only_ray : (g : Problem) (dir : Dir) (p : Pixel) (ps qs : List Pixel) → IsRay g dir p ps → IsRay g dir p qs → ps ≡ qs
only_ray g dir p ps qs a b =
    let same : length ps ≡ length qs = elim (cases_lt (length ps) (length qs)) [
      | inl l ↦ absurd (not_longer g dir p ps qs a b l)
      | inr l ↦ (elim (cases_lt (length qs) (length ps)) [
        | inl m ↦ absurd (not_longer g dir p qs ps b a m)
        | inr m ↦ omega arith
      ])
    ] in
    ext_get_or p ps qs same (λ i h.
    same_place dir p (get_or ps i p) (get_or qs i p) (length (drop (suc i) ps)) (length (drop (suc i) qs))
    (omega (arith, length-drop (suc i) ps, length-drop (suc i) qs))
    (a.places (take i ps) (drop (suc i) ps) (get_or ps i p) (at ps i p h))
    (b.places (take i qs) (drop (suc i) qs) (get_or qs i p) (at qs i p (omega arith))))
