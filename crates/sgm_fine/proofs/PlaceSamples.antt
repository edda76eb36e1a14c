-- The samples of one place of a window, and where they lie.
use Rattle.std.proofs.Common.{◌≡◌, ℕ, ◌^◌, ◌+◌, ◌-◌, ◌/◌, Bool, true, false, ◌&&◌, Option, Some, None, is_some, IfSome, ℤ, pos, neg_ℤ, ◌+ℤ◌, ◌-ℤ◌, ◌*ℤ◌, ◌≤ℤ◌, to_z, of_z, w32, arith, refl, ap, ap₂, subst, sym, ◌∙◌}
use Rattle.std.proofs.lemmas.Int.{ints}
use Rattle.std.proofs.lemmas.Option.{IfSome_then}
use Rattle.sgm_base.specs.Ranges.{Within}
use Rattle.sgm_fine.specs.Samples.{Centre, HoldsPlace, HoldsSides, half, has, has_rights, left_at, place_of, right_at, sample}
use Rattle.sgm_fine.specs.declared.samples.Place.{Place}

-- what the code computes as the place of a column less how far a row lies to the left
pub lowered : (l d : ℤ) → Within (2 ^ 22) l → Within 6600 d → to_z w32 (of_z w32 (to_z w32 (of_z w32 l) -ℤ to_z w32 (of_z w32 d))) ≡ l -ℤ d
lowered l d hl hd = omega (arith, ints, hl.0, hl.1, hd.0, hd.1)

-- the place of a column of a level surface
pub level_same : (x x' v v' : ℕ) (f f' i : ℤ) → x' ≡ x → v' ≡ v → f' ≡ f
    → (pos 16 *ℤ ((pos x +ℤ i) -ℤ f)) -ℤ pos v ≡ (pos 16 *ℤ ((pos x' +ℤ i) -ℤ f')) -ℤ pos v'
level_same x x' v v' f f' i ex ev ef =
    ap (λ n. (pos 16 *ℤ ((pos n +ℤ i) -ℤ f)) -ℤ pos v) (sym ex) ∙ ap (λ n. (pos 16 *ℤ ((pos x' +ℤ i) -ℤ f)) -ℤ pos n) (sym ev)
    ∙ ap (λ z. (pos 16 *ℤ ((pos x' +ℤ i) -ℤ z)) -ℤ pos v') (sym ef)

pub place_same : (l l' a a' d d' : ℤ) → l ≡ l' → a ≡ a' → d ≡ d' → (l -ℤ a) -ℤ d ≡ (l' -ℤ a') -ℤ d'
place_same l l' a a' d d' el ea ed = ap₂ (λ (y z : ℤ). y -ℤ z) (ap₂ (λ (y z : ℤ). y -ℤ z) el ea) ed

-- whether four samples are there
one_and_three : (a b c d : Option ℕ) → (is_some a && (is_some b && is_some c && is_some d)) ≡ (is_some a && is_some b && is_some c && is_some d)
one_and_three None b c d = refl
one_and_three (Some a) b c d = refl

-- what is found of a left sample and of those around a place of a right row is what the place k of a window has, where these are its own
pub has_from : (p : Centre) (k : ℕ) (found : Bool) (one : Option ℕ) (row : ℤ → Option ℕ) (u : ℤ) → found ≡ (is_some one && has_rights row u) → one ≡ left_at p k → row ≡ sample p.right (p.y + k / 5 - 2) → u ≡ place_of p k
    → found ≡ has p k
has_from p k found one row u is left same at =
    is ∙ ap₂ (λ o b. is_some o && b) left (ap₂ has_rights same at) ∙ one_and_three (left_at p k) (right_at p half k) (right_at p (pos 0) k) (right_at p (neg_ℤ half) k)

pub holds_from : (p : Centre) (k : ℕ) (found : Option Place) (one : Option ℕ) (row : ℤ → Option ℕ) (u : ℤ) → IfSome found (λ s. HoldsSides s one row u) → one ≡ left_at p k → row ≡ sample p.right (p.y + k / 5 - 2) → u ≡ place_of p k
    → IfSome found (λ s. HoldsPlace s p k)
holds_from p k found one row u held left same at = IfSome_then found held (λ s h.
    let is = subst (λ r. HoldsSides s one r (place_of p k)) same (subst (HoldsSides s one row) at h) in
    record { left = sym left ∙ is.left; after = is.after; here = is.here; before = is.before })

pub all_four : (a b c d : Option ℕ) (s t u v : ℕ) → a ≡ Some s → b ≡ Some t → c ≡ Some u → d ≡ Some v → true ≡ (is_some a && is_some b && is_some c && is_some d)
all_four a b c d s t u v ea eb ec ed = rw (ea, eb, ec, ed) refl

-- whether three are there
pub all_three : (b c d : Option ℕ) (t u v : ℕ) → b ≡ Some t → c ≡ Some u → d ≡ Some v → true ≡ (is_some b && is_some c && is_some d)
all_three b c d t u v eb ec ed = rw (eb, ec, ed) refl

pub lacks_first : (b c d : Option ℕ) → b ≡ None → false ≡ (is_some b && is_some c && is_some d)
lacks_first b c d eb = rw eb refl

pub lacks_last : (b c d : Option ℕ) → d ≡ None → false ≡ (is_some b && is_some c && is_some d)
lacks_last None c d ed = refl
lacks_last (Some b) None d ed = refl
lacks_last (Some b) (Some c) d ed = rw ed refl

-- one and three, where the three aren't all there
pub lacks_three : (a : Option ℕ) (has : Bool) → false ≡ has → false ≡ (is_some a && has)
lacks_three None has e = refl
lacks_three (Some a) has e = e

-- what lies between two others lies no further
pub apart_least : (m z a b x y : ℤ) → m ≤ℤ z → z ≡ a -ℤ b → a ≤ℤ x → y ≤ℤ b → m ≤ℤ (x -ℤ y)
apart_least m z a b x y h e ha hb = omega (arith, ints, h, e, ha, hb)

pub apart_most : (m z a b x y : ℤ) → z ≤ℤ m → z ≡ a -ℤ b → x ≤ℤ a → b ≤ℤ y → (x -ℤ y) ≤ℤ m
apart_most m z a b x y h e ha hb = omega (arith, ints, h, e, ha, hb)
