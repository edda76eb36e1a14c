-- The sample of a row between two pixels, from those of the pixels.
use Rattle.std.proofs.Common.{◌≡◌, ◌≢◌, ℕ, zero, suc, ◌+◌, ◌-◌, ◌*◌, ◌/◌, ◌%◌, ◌<◌, ◌≤◌, inl, inr, true, false, ◌==◌, ◌^◌, Option, Some, None, is_some, if◌then◌else◌, ℤ, pos, negsuc, ◌+ℤ◌, ◌-ℤ◌, ◌*ℤ◌, unsigned_abs, to_z, of_z, w32, arith, refl, ap, ap₂, subst, sym, ◌∙◌}
use Rattle.std.specs.Prelude.{min, option_and_then, option_map}
use Rattle.std.specs.Int.{int_div_euclid, int_rem_euclid}
use Rattle.std.proofs.lemmas.Bool.{cases_lt}
use Rattle.std.proofs.lemmas.Int.{ints}
use Rattle.sgm_base.specs.Ranges.{Within}
use Rattle.sgm_fine.specs.Samples.{HoldsThree, between, has_rights, quotient, rest}
use Rattle.sgm_fine.specs.declared.samples.Three.{Three}
use Rattle.sgm_fine.proofs.PlaceSamples.{all_three, lacks_first, lacks_last}

quotient_at : (u q : ℤ) (f : ℕ) → u ≡ (pos 16 *ℤ q) +ℤ pos f → f < 16 → int_div_euclid u (pos 16) ≡ q
quotient_at (pos a) q f e lt = omega (arith, ints, e, lt)
quotient_at (negsuc a) q f e lt = omega (arith, ints, e, lt)

rest_at : (u q : ℤ) (f : ℕ) → u ≡ (pos 16 *ℤ q) +ℤ pos f → f < 16 → unsigned_abs (int_rem_euclid u (pos 16)) ≡ f
rest_at (pos a) q f e lt = omega (arith, ints, e, lt)
rest_at (negsuc a) q f e lt = omega (arith, ints, e, lt)

-- a place is so many sixteenths after a pixel
pub parts : (u : ℤ) → u ≡ (pos 16 *ℤ int_div_euclid u (pos 16)) +ℤ int_rem_euclid u (pos 16)
parts (pos a) = omega (arith, ints)
parts (negsuc a) = omega (arith, ints)

pub rest_small : (u : ℤ) → unsigned_abs (int_rem_euclid u (pos 16)) < 16
rest_small (pos a) = omega (arith, ints)
rest_small (negsuc a) = omega (arith, ints)

pub rest_pos : (u : ℤ) → int_rem_euclid u (pos 16) ≡ pos (unsigned_abs (int_rem_euclid u (pos 16)))
rest_pos (pos a) = refl
rest_pos (negsuc a) = refl

-- what lies so many sixteenths after the pixel q
at_parts : (ℤ → Option ℕ) → ℤ → ℕ → Option ℕ
at_parts row q f =
    if f == 0 then option_map (λ here. 16 * here) (row q)
    else option_and_then (λ here. option_map (λ next. (16 - f) * here + f * next) (row (q +ℤ pos 1))) (row q)

between_parts : (row : ℤ → Option ℕ) (u q : ℤ) (f : ℕ) → u ≡ (pos 16 *ℤ q) +ℤ pos f → f < 16 → between row u ≡ at_parts row q f
unfolding at_parts
between_parts row u q f e lt = ap₂ (at_parts row) (quotient_at u q f e lt) (rest_at u q f e lt)

parts_two : (row : ℤ → Option ℕ) (q : ℤ) (f a b : ℕ) → row q ≡ Some a → (f ≢ 0 → row (q +ℤ pos 1) ≡ Some b) → at_parts row q f ≡ Some ((16 - f) * a + f * b)
unfolding at_parts
parts_two row q zero a b ea eb = ap (option_map (λ here. 16 * here)) ea ∙ ap (λ n. Some n) (omega arith)
parts_two row q (suc f) a b ea eb = let some : (suc f == 0) ≡ false = grind arith in rw (some, ea, eb (λ e. omega (arith, e))) refl

parts_no_here : (row : ℤ → Option ℕ) (q : ℤ) (f : ℕ) → row q ≡ None → at_parts row q f ≡ None
unfolding at_parts
parts_no_here row q zero e = ap (option_map (λ here. 16 * here)) e
parts_no_here row q (suc f) e = let some : (suc f == 0) ≡ false = grind arith in rw (some, e) refl

parts_no_next : (row : ℤ → Option ℕ) (q : ℤ) (f a : ℕ) → f ≢ 0 → row q ≡ Some a → row (q +ℤ pos 1) ≡ None → at_parts row q f ≡ None
unfolding at_parts
parts_no_next row q zero a some ea en = absurd (some refl)
parts_no_next row q (suc f) a some ea en = let is : (suc f == 0) ≡ false = grind arith in rw (is, ea, en) refl

-- the next pixel counts where the place isn't the pixel's own
pub between_two : (row : ℤ → Option ℕ) (u q : ℤ) (f a b : ℕ) → u ≡ (pos 16 *ℤ q) +ℤ pos f → f < 16 → row q ≡ Some a → (f ≢ 0 → row (q +ℤ pos 1) ≡ Some b)
    → between row u ≡ Some ((16 - f) * a + f * b)
between_two row u q f a b e lt ea eb = between_parts row u q f e lt ∙ parts_two row q f a b ea eb

pub no_here : (row : ℤ → Option ℕ) (u q : ℤ) (f : ℕ) → u ≡ (pos 16 *ℤ q) +ℤ pos f → f < 16 → row q ≡ None → between row u ≡ None
no_here row u q f e lt en = between_parts row u q f e lt ∙ parts_no_here row q f en

pub no_next : (row : ℤ → Option ℕ) (u q : ℤ) (f a : ℕ) → u ≡ (pos 16 *ℤ q) +ℤ pos f → f < 16 → f ≢ 0 → row q ≡ Some a → row (q +ℤ pos 1) ≡ None → between row u ≡ None
no_next row u q f a e lt some ea en = between_parts row u q f e lt ∙ parts_no_next row q f a some ea en

-- what the pixels around a place give
pub third_is : (row : ℤ → Option ℕ) (q z : ℤ) (f c : ℕ) → z ≡ (q +ℤ pos 1) +ℤ pos (min f 1) → row z ≡ Some c → f ≢ 0 → row ((q +ℤ pos 1) +ℤ pos 1) ≡ Some c
third_is row q z f c e is some =
    let one : min f 1 ≡ 1 = grind (arith, some) in
    sym (ap row (e ∙ ap (λ n. (q +ℤ pos 1) +ℤ pos n) one)) ∙ is

pub third_none : (row : ℤ → Option ℕ) (q z : ℤ) (f b : ℕ) → z ≡ (q +ℤ pos 1) +ℤ pos (min f 1) → row z ≡ None → row (q +ℤ pos 1) ≡ Some b
    → (f ≢ 0) × (row ((q +ℤ pos 1) +ℤ pos 1) ≡ None)
third_none row q z zero b e is some =
    let here : z ≡ q +ℤ pos 1 = omega (arith, ints, e) in
    absurd (no_both (row (q +ℤ pos 1)) b some (sym (ap row here) ∙ is))
  where
    no_both : (o : Option ℕ) (b : ℕ) → o ≡ Some b → o ≡ None → ⊥
    no_both o b e n =
        let f : Option ℕ → ℕ = λ p. if is_some p then 1 else 0 in
        let x : f (Some b) ≡ f None = sym (ap f e) ∙ ap f n in
        omega (arith, x)
third_none row q z (suc f) b e is some =
    let next : z ≡ (q +ℤ pos 1) +ℤ pos 1 = omega (arith, ints, e) in
    (λ x. omega (arith, x), sym (ap row next) ∙ is)

-- the place half a pixel before u is so many sixteenths after the pixel q
abbrev pub Starts : ℤ → ℤ → ℕ → Type 0
Starts u q f = (u ≡ ((pos 16 *ℤ q) +ℤ pos f) +ℤ pos 8) × (f < 16)

pub after_is : (row : ℤ → Option ℕ) (u q : ℤ) (f b c : ℕ) → Starts u q f → row (q +ℤ pos 1) ≡ Some b → (f ≢ 0 → row ((q +ℤ pos 1) +ℤ pos 1) ≡ Some c)
    → between row (u +ℤ pos 8) ≡ Some ((16 - f) * b + f * c)
after_is row u q f b c s eb ec = between_two row (u +ℤ pos 8) (q +ℤ pos 1) f b c (omega (arith, ints, s.0)) s.1 eb ec

pub before_is : (row : ℤ → Option ℕ) (u q : ℤ) (f a b : ℕ) → Starts u q f → row q ≡ Some a → row (q +ℤ pos 1) ≡ Some b
    → between row (u +ℤ negsuc 7) ≡ Some ((16 - f) * a + f * b)
before_is row u q f a b s ea eb = between_two row (u +ℤ negsuc 7) q f a b (omega (arith, ints, s.0)) s.1 ea (λ _. eb)

pub here_sooner : (row : ℤ → Option ℕ) (u q : ℤ) (f a b : ℕ) → Starts u q f → f < 8 → row q ≡ Some a → row (q +ℤ pos 1) ≡ Some b
    → between row (u +ℤ pos 0) ≡ Some ((8 - f) * a + (8 + f) * b)
here_sooner row u q f a b s lt ea eb =
    let more : 16 - (8 + f) ≡ 8 - f = omega arith in
    between_two row (u +ℤ pos 0) q (8 + f) a b (omega (arith, ints, s.0)) (omega (arith, lt)) ea (λ _. eb) ∙ ap (λ n. Some (n * a + (8 + f) * b)) more

pub here_later : (row : ℤ → Option ℕ) (u q : ℤ) (f b c : ℕ) → Starts u q f → 8 ≤ f → row (q +ℤ pos 1) ≡ Some b → (f ≢ 0 → row ((q +ℤ pos 1) +ℤ pos 1) ≡ Some c)
    → between row (u +ℤ pos 0) ≡ Some ((24 - f) * b + (f - 8) * c)
here_later row u q f b c s le eb ec =
    let more : 16 - (f - 8) ≡ 24 - f = omega (arith, le, s.1) in
    between_two row (u +ℤ pos 0) (q +ℤ pos 1) (f - 8) b c (omega (arith, ints, s.0, le)) (omega (arith, s.1)) eb (λ _. ec (λ e. omega (arith, le, e)))
    ∙ ap (λ n. Some (n * b + (f - 8) * c)) more

pub no_third : (row : ℤ → Option ℕ) (u q z : ℤ) (f b : ℕ) → Starts u q f → z ≡ (q +ℤ pos 1) +ℤ pos (min f 1) → row z ≡ None → row (q +ℤ pos 1) ≡ Some b
    → between row (u +ℤ pos 8) ≡ None
no_third row u q z f b s e is eb =
    let n = third_none row q z f b e is eb in
    no_next row (u +ℤ pos 8) (q +ℤ pos 1) f b (omega (arith, ints, s.0)) s.1 n.0 eb n.1

pub three_there : (row : ℤ → Option ℕ) (u q : ℤ) (f a b c : ℕ) → Starts u q f → row q ≡ Some a → row (q +ℤ pos 1) ≡ Some b
    → (f ≢ 0 → row ((q +ℤ pos 1) +ℤ pos 1) ≡ Some c) → true ≡ has_rights row u
three_there row u q f a b c s ea eb ec = elim (cases_lt f 8) [
  | inl lt ↦ all_three _ _ _ _ _ _ (after_is row u q f b c s eb ec) (here_sooner row u q f a b s lt ea eb) (before_is row u q f a b s ea eb)
  | inr ge ↦ all_three _ _ _ _ _ _ (after_is row u q f b c s eb ec) (here_later row u q f b c s ge eb ec) (before_is row u q f a b s ea eb)
]

pub starts : (u : ℤ) → Starts u (quotient u) (rest u)
unfolding quotient rest
starts u =
    let whole = parts (u -ℤ pos 8) in
    let part = rest_pos (u -ℤ pos 8) in
    (omega (arith, ints, whole, part), rest_small (u -ℤ pos 8))

-- the same where the place lies right of column 0
pub quotient_is : (u : ℤ) (n : ℕ) → u -ℤ pos 8 ≡ pos n → quotient u ≡ pos (n / 16)
unfolding quotient
quotient_is u n e = quotient_at (u -ℤ pos 8) (pos (n / 16)) (n % 16) (omega (arith, ints, e)) (omega arith)

pub rest_is : (u : ℤ) (n : ℕ) → u -ℤ pos 8 ≡ pos n → rest u ≡ n % 16
unfolding rest
rest_is u n e = rest_at (u -ℤ pos 8) (pos (n / 16)) (n % 16) (omega (arith, ints, e)) (omega arith)

-- what the code computes of them
pub started : (u : ℤ) → Within (2 ^ 24) u → to_z w32 (of_z w32 (to_z w32 (of_z w32 u) -ℤ pos 8)) ≡ u -ℤ pos 8
started u h = omega (arith, ints, h.0, h.1)

pub next_to : (u z : ℤ) → Within (2 ^ 24) u → z ≡ quotient u → to_z w32 (of_z w32 (z +ℤ pos 1)) ≡ quotient u +ℤ pos 1
next_to u z h e = let s = starts u in omega (arith, ints, h.0, h.1, e, s.0, s.1)

pub last_to : (u z : ℤ) (n f : ℕ) → Within (2 ^ 24) u → z ≡ quotient u → n ≡ min f 1
    → to_z w32 (of_z w32 (to_z w32 (of_z w32 (z +ℤ pos 1)) +ℤ to_z w32 n)) ≡ (quotient u +ℤ pos 1) +ℤ pos (min f 1)
last_to u z n f h e en = let s = starts u in omega (arith, ints, h.0, h.1, e, en, s.0, s.1)

-- what the pixels around a place say of the samples there
pub three_starts : (three : Three) (row : ℤ → Option ℕ) (u : ℤ) → HoldsThree three row u → Starts u (quotient u) three.part
three_starts three row u h = subst (Starts u (quotient u)) (sym h.part) (starts u)

pub three_third : (three : Three) (row : ℤ → Option ℕ) (u : ℤ) (c : ℕ) → HoldsThree three row u → three.third ≡ Some c → three.part ≢ 0 → row ((quotient u +ℤ pos 1) +ℤ pos 1) ≡ Some c
three_third three row u c h e = third_is row (quotient u) _ three.part c refl (sym h.third ∙ e)

pub three_have : (three : Three) (row : ℤ → Option ℕ) (u : ℤ) (a b c : ℕ) → HoldsThree three row u → three.first ≡ Some a → three.second ≡ Some b → three.third ≡ Some c → true ≡ has_rights row u
three_have three row u a b c h ea eb ec =
    three_there row u (quotient u) three.part a b c (three_starts three row u h) (sym h.first ∙ ea) (sym h.second ∙ eb) (three_third three row u c h ec)

pub three_no_first : (three : Three) (row : ℤ → Option ℕ) (u : ℤ) → HoldsThree three row u → three.first ≡ None → false ≡ has_rights row u
three_no_first three row u h none =
    let s = three_starts three row u h in
    lacks_last _ _ _ (no_here row (u +ℤ negsuc 7) (quotient u) three.part (omega (arith, ints, s.0)) s.1 (sym h.first ∙ none))

pub three_no_second : (three : Three) (row : ℤ → Option ℕ) (u : ℤ) → HoldsThree three row u → three.second ≡ None → false ≡ has_rights row u
three_no_second three row u h none =
    let s = three_starts three row u h in
    lacks_first _ _ _ (no_here row (u +ℤ pos 8) (quotient u +ℤ pos 1) three.part (omega (arith, ints, s.0)) s.1 (sym h.second ∙ none))

pub three_no_third : (three : Three) (row : ℤ → Option ℕ) (u : ℤ) (b : ℕ) → HoldsThree three row u → three.second ≡ Some b → three.third ≡ None → false ≡ has_rights row u
three_no_third three row u b h some none =
    lacks_first _ _ _ (no_third row u (quotient u) _ three.part b (three_starts three row u h) refl (sym h.third ∙ none) (sym h.second ∙ some))
