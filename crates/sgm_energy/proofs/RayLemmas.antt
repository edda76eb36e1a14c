-- How a ray comes to a pixel.
use Rattle.std.proofs.Common.{◌≡◌, ℕ, ◌+◌, ◌-◌, ◌<◌, ◌≤◌, zero, suc, Bool, true, false, cond, ltb, List, [], ◌∷◌, ◌++◌, length, take, Option, Some, None, refl, sym, ap, ◌∙◌, subst, inl, inr, ◌⊎◌, arith, ℤ, pos, negsuc}
use Rattle.std.specs.Prelude.{option_and_then}
use Rattle.std.specs.Option.{option_map_or}
use Rattle.std.proofs.lemmas.Bool.{ltb-true, ltb-false, lt-ltb, le-ltb}
use Rattle.std.proofs.lemmas.List.{length_push, take_at}
use Rattle.sgm_energy.specs.declared.dir.Dir.{Dir}
use Rattle.sgm_energy.specs.declared.dir.Dir.TheVariants.{Right, Left, Down, DownRight, DownLeft, Up, UpRight, UpLeft}
use Rattle.sgm_energy.specs.Dirs.{offset}
use Rattle.sgm_energy.specs.Rays.{Pixel, pixel_at, Problem, IsInside, minus, column_before, row_before, predecessor, ray_within, ray, before}

-- ---- the column or the row before
chosen : {A : Type 0} (b : Bool) (x y : Option A) (z : A) → cond b x y ≡ Some z → ((b ≡ true) × (x ≡ Some z)) ⊎ ((b ≡ false) × (y ≡ Some z))
chosen true x y z e = inl (refl, e)
chosen false x y z e = inr (refl, e)

pub none_is_not_some : {A : Type 0} (x : A) → None ≡ Some x → ⊥
none_is_not_some x e = absurd (cc)

some_is : {A : Type 0} (x y : A) → Some x ≡ Some y → x ≡ y
some_is x y e = cc

below_limit : (limit n m : ℕ) → cond (ltb n limit) (Some n) None ≡ Some m → (n ≡ m) × (n < limit)
below_limit limit n m e = elim (chosen (ltb n limit) (Some n) None m e) [
  | inl w ↦ (some_is n m w.1, ltb-true n limit w.0)
  | inr w ↦ absurd (none_is_not_some m w.1)
]

pub minus_pos : (limit n k m : ℕ) → minus limit n (pos k) ≡ Some m → (m + k ≡ n) × (m < limit)
minus_pos limit n k m e = elim (chosen (ltb n k) None (cond (ltb (n - k) limit) (Some (n - k)) None) m e) [
  | inl w ↦ absurd (none_is_not_some m w.1)
  | inr w ↦ (let v = below_limit limit (n - k) m w.1 in (omega (arith, ltb-false n k w.0, v.0), omega (arith, v.0, v.1)))
]

pub minus_negsuc : (limit n k m : ℕ) → minus limit n (negsuc k) ≡ Some m → (m ≡ n + (k + 1)) × (m < limit)
minus_negsuc limit n k m e = let v = below_limit limit (n + (k + 1)) m e in (sym v.0, omega (arith, v.0, v.1))

pub minus_zero : (limit n : ℕ) → n < limit → minus limit n (pos 0) ≡ Some n
minus_zero limit n h =
    let t : n - 0 ≡ n = omega arith in
    ap (λ b. cond b None (cond (ltb (n - 0) limit) (Some (n - 0)) None)) (le-ltb n 0 (omega arith))
    ∙ ap (λ m. cond (ltb m limit) (Some m) None) t ∙ ap (λ b. cond b (Some n) None) (lt-ltb n limit h)

pub minus_one : (limit n : ℕ) → 0 < n → n - 1 < limit → minus limit n (pos 1) ≡ Some (n - 1)
minus_one limit n h l =
    ap (λ b. cond b None (cond (ltb (n - 1) limit) (Some (n - 1)) None)) (le-ltb n 1 h) ∙ ap (λ b. cond b (Some (n - 1)) None) (lt-ltb (n - 1) limit l)

pub minus_one_none : (limit n : ℕ) → n ≡ 0 → minus limit n (pos 1) ≡ None
minus_one_none limit n e = ap (λ b. cond b None (cond (ltb (n - 1) limit) (Some (n - 1)) None)) (lt-ltb n 1 (omega arith))

pub minus_up : (limit n : ℕ) → n + 1 < limit → minus limit n (negsuc 0) ≡ Some (n + 1)
minus_up limit n h = ap (λ b. cond b (Some (n + 1)) None) (lt-ltb (n + 1) limit h)

pub minus_up_none : (limit n : ℕ) → limit ≤ n + 1 → minus limit n (negsuc 0) ≡ None
minus_up_none limit n h = ap (λ b. cond b (Some (n + 1)) None) (le-ltb (n + 1) limit h)

pub minus_small : (limit n m : ℕ) (z : ℤ) → minus limit n z ≡ Some m → m < limit
minus_small limit n m (pos k) e = (minus_pos limit n k m e).1
minus_small limit n m (negsuc k) e = (minus_negsuc limit n k m e).1

-- ---- the predecessor
and_then_some : {A B : Type 0} (f : A → Option B) (o : Option A) (y : B) → option_and_then f o ≡ Some y → (x : A) × (o ≡ Some x) × (f x ≡ Some y)
and_then_some f None y e = absurd (cc)
and_then_some f (Some x) y e = (x, refl, e)

pub record Parts (g : Problem) (dir : Dir) (p q : Pixel) : Type 0 where
  pub across : column_before dir g.width p.x ≡ Some q.x
  pub down : row_before dir g.height p.y ≡ Some q.y

pub parts_from : (g : Problem) (dir : Dir) (p q : Pixel) → predecessor g dir p ≡ Some q → Parts g dir p q
parts_from g dir p q e =
    let u = and_then_some (λ x. option_and_then (λ y. Some (pixel_at x y)) (row_before dir g.height p.y)) (column_before dir g.width p.x) q e in
    let v = and_then_some (λ y. Some (pixel_at u.0 y)) (row_before dir g.height p.y) q u.2 in
    let w : pixel_at u.0 v.0 ≡ q = some_is (pixel_at u.0 v.0) q v.2 in
    record { across = u.1 ∙ ap (λ (r : Pixel). Some r.x) w; down = v.1 ∙ ap (λ (r : Pixel). Some r.y) w }

pub predecessor_is : (g : Problem) (dir : Dir) (p q : Pixel) → Parts g dir p q → predecessor g dir p ≡ Some q
predecessor_is g dir p q w =
    ap (option_and_then (λ x. option_and_then (λ y. Some (pixel_at x y)) (row_before dir g.height p.y))) w.across
    ∙ ap (option_and_then (λ y. Some (pixel_at q.x y))) w.down

pub no_column : (g : Problem) (dir : Dir) (p : Pixel) → column_before dir g.width p.x ≡ None → predecessor g dir p ≡ None
no_column g dir p e = ap (option_and_then (λ x. option_and_then (λ y. Some (pixel_at x y)) (row_before dir g.height p.y))) e

pub no_row : (g : Problem) (dir : Dir) (p : Pixel) → row_before dir g.height p.y ≡ None → predecessor g dir p ≡ None
no_row g dir p e = none (column_before dir g.width p.x)
  where
    none : (o : Option ℕ) → option_and_then (λ x. option_and_then (λ y. Some (pixel_at x y)) (row_before dir g.height p.y)) o ≡ None
    none None = refl
    none (Some x) = ap (option_and_then (λ y. Some (pixel_at x y))) e

pub before_inside : (g : Problem) (dir : Dir) (p q : Pixel) → Parts g dir p q → IsInside g q
before_inside g dir p q w = (minus_small g.width p.x q.x (offset dir).0 w.across, minus_small g.height p.y q.y (offset dir).1 w.down)

-- ---- a ray ends: what is left before p, at most
unfoldable pub room : Problem → Dir → Pixel → ℕ
room g Right p = p.x
room g Left p = g.width - suc p.x
room g Down p = p.y
room g DownRight p = p.y
room g DownLeft p = p.y
room g Up p = g.height - suc p.y
room g UpRight p = g.height - suc p.y
room g UpLeft p = g.height - suc p.y

pub room_falls : (g : Problem) (dir : Dir) (p q : Pixel) → Parts g dir p q → room g dir q < room g dir p
unfolding room
room_falls g Right p q w = omega (arith, (minus_pos g.width p.x 1 q.x w.across).0)
room_falls g Left p q w = omega (arith, minus_negsuc g.width p.x 0 q.x w.across)
room_falls g Down p q w = omega (arith, (minus_pos g.height p.y 1 q.y w.down).0)
room_falls g DownRight p q w = omega (arith, (minus_pos g.height p.y 1 q.y w.down).0)
room_falls g DownLeft p q w = omega (arith, (minus_pos g.height p.y 1 q.y w.down).0)
room_falls g Up p q w = omega (arith, minus_negsuc g.height p.y 0 q.y w.down)
room_falls g UpRight p q w = omega (arith, minus_negsuc g.height p.y 0 q.y w.down)
room_falls g UpLeft p q w = omega (arith, minus_negsuc g.height p.y 0 q.y w.down)

pub room_small : (g : Problem) (dir : Dir) (q : Pixel) → IsInside g q → room g dir q < g.width + g.height
unfolding room
room_small g Right q h = omega (arith, h.0)
room_small g Left q h = omega (arith, h.0)
room_small g Down q h = omega (arith, h.1)
room_small g DownRight q h = omega (arith, h.1)
room_small g DownLeft q h = omega (arith, h.1)
room_small g Up q h = omega (arith, h.1)
room_small g UpRight q h = omega (arith, h.1)
room_small g UpLeft q h = omega (arith, h.1)

-- a bound that serves each predecessor of p serves p, one greater
enough_before : (g : Problem) (dir : Dir) (n : ℕ) (p : Pixel) → ((q : Pixel) → Parts g dir p q → ray_within g dir (suc n) q ≡ ray_within g dir n q) → (o : Option Pixel) → predecessor g dir p ≡ o → option_map_or (ray_within g dir (suc n)) o [] ≡ option_map_or (ray_within g dir n) o []
enough_before g dir n p each None e = refl
enough_before g dir n p each (Some q) e = each q (parts_from g dir p q e)

none_before : (g : Problem) (dir : Dir) (p : Pixel) → room g dir p ≤ 0 → (o : Option Pixel) → predecessor g dir p ≡ o → option_map_or (ray_within g dir zero) o [] ≡ []
none_before g dir p h None e = refl
none_before g dir p h (Some q) e = absurd (omega (arith, room_falls g dir p q (parts_from g dir p q e)))

within_enough : (g : Problem) (dir : Dir) (n : ℕ) (p : Pixel) → room g dir p ≤ n → ray_within g dir (suc n) p ≡ ray_within g dir n p
unfolding ray_within
within_enough g dir zero p h = ap (λ ps. ps ++ p ∷ []) (none_before g dir p h (predecessor g dir p) refl)
within_enough g dir (suc n) p h =
    ap (λ ps. ps ++ p ∷ []) (enough_before g dir n p (λ q w. within_enough g dir n q (omega (arith, room_falls g dir p q w))) (predecessor g dir p) refl)

-- ---- the ray
pub within_ends : (g : Problem) (dir : Dir) (n : ℕ) (p : Pixel) → (ps : List Pixel) × (ray_within g dir n p ≡ ps ++ p ∷ [])
unfolding ray_within
within_ends g dir zero p = ([], refl)
within_ends g dir (suc n) p = (option_map_or (ray_within g dir n) (predecessor g dir p) [], refl)

pub ray_ends : (g : Problem) (dir : Dir) (p : Pixel) → (ps : List Pixel) × (ray g dir p ≡ ps ++ p ∷ [])
unfolding ray
ray_ends g dir p = within_ends g dir (g.width + g.height) p

pub ray_first : (g : Problem) (dir : Dir) (p : Pixel) → predecessor g dir p ≡ None → ray g dir p ≡ p ∷ []
unfolding ray ray_within
ray_first g dir p e = first (g.width + g.height)
  where
    first : (n : ℕ) → ray_within g dir n p ≡ p ∷ []
    first zero = refl
    first (suc n) = ap (λ o. option_map_or (ray_within g dir n) o [] ++ p ∷ []) e

pub ray_next : (g : Problem) (dir : Dir) (p q : Pixel) → predecessor g dir p ≡ Some q → ray g dir p ≡ ray g dir q ++ p ∷ []
unfolding ray ray_within
ray_next g dir p q e =
    let small = room_small g dir q (before_inside g dir p q (parts_from g dir p q e)) in
    let n : ℕ = (g.width + g.height) - 1 in
    let s : g.width + g.height ≡ suc n = omega arith in
    subst (λ m. ray_within g dir m p ≡ ray_within g dir m q ++ p ∷ []) (sym s)
    (ap (λ o. option_map_or (ray_within g dir n) o [] ++ p ∷ []) e
    ∙ ap (λ ps. ps ++ p ∷ []) (sym (within_enough g dir n q (omega arith))))

front_is : (g : Problem) (dir : Dir) (p : Pixel) (ps : List Pixel) → ray g dir p ≡ ps ++ p ∷ [] → before g dir p ≡ ps
unfolding before
front_is g dir p ps e =
    ap (λ r. take (length r - 1) r) e ∙ take_at ps (p ∷ []) (length (ps ++ p ∷ []) - 1) (omega (arith, length_push ps p))

pub before_first : (g : Problem) (dir : Dir) (p : Pixel) → predecessor g dir p ≡ None → before g dir p ≡ []
before_first g dir p e = front_is g dir p [] (ray_first g dir p e)

pub before_next : (g : Problem) (dir : Dir) (p q : Pixel) → predecessor g dir p ≡ Some q → before g dir p ≡ ray g dir q
before_next g dir p q e = front_is g dir p (ray g dir q) (ray_next g dir p q e)

pub before_is : (g : Problem) (dir : Dir) (p : Pixel) (ps : List Pixel) → ray g dir p ≡ ps ++ p ∷ [] → before g dir p ≡ ps
before_is g dir p ps e = front_is g dir p ps e

pub before_last : (g : Problem) (dir : Dir) (p : Pixel) → before g dir p ++ p ∷ [] ≡ ray g dir p
before_last g dir p = let w = ray_ends g dir p in ap (λ ps. ps ++ p ∷ []) (front_is g dir p w.0 w.1) ∙ sym w.1
