-- What a try adds.
use Rattle.std.proofs.Common.{◌≡◌, ◌≢◌, ℕ, ◌+◌, ◌-◌, ◌⊎◌, Bool, true, false, cond, ◌==◌, List, [], ◌∷◌, ◌++◌, length, Option, Some, refl, sym, ap, subst, ◌∙◌, inl, inr, ⊎_elim, arith, eq-eqb, ne_eqb, get_or-set_other}
use Rattle.std.specs.Prelude.{slice_get}
use Rattle.std.proofs.lemmas.Bool.{cases_eq}
use Rattle.std.proofs.lemmas.List.{length_push, get_or_push}
use Rattle.std.proofs.lemmas.Option.{slice_get-get_or}
use Rattle.sgm_energy.specs.declared.dir.Dir.{Dir}
use Rattle.sgm_energy.specs.Dirs.{front_of, number_of}
use Rattle.sgm_energy.proofs.DirLemmas.{number_lt, same_number}
use Rattle.sgm_strip.specs.Parcels.{ParcelParts, is_done, with_done, parcel_of}
use Rattle.sgm_strip.specs.Fronts.{FrontParts, visit_of}
use Rattle.sgm_strip.specs.declared.front.Visit.{Visit}
use Rattle.sgm_board.specs.Words.{dir_word, strip_word}
use Rattle.sgm_board.specs.Passes.{PassParts, after_look, after_put, after_return, after_take, after_try}
use Rattle.sgm_board.specs.Boards.{IsHeld, IsLastBy}
use Rattle.sgm_board.specs.declared.board.Board.{Board}
use Rattle.sgm_work.specs.Tries.{HasTried, HasTriedFirst}
use Rattle.sgm_work.proofs.Ending.{at_one, one_place}

-- ---- a map that is changed at one place

pub where_same : {A : Type 0} (j k : ℕ) (x y : A) → j ≡ k → cond (j == k) x y ≡ x
where_same j k x y e = ap (λ b. cond b x y) (eq-eqb j k e)

pub where_else : {A : Type 0} (j k : ℕ) (x y : A) → j ≢ k → cond (j == k) x y ≡ y
where_else j k x y ne = ap (λ b. cond b x y) (ne_eqb j k ne)

-- a look at the word of a direction is none at the word of a strip
pub dir_look : (dir : Dir) (s x y : ℕ) → cond (strip_word s == dir_word dir) x y ≡ y
dir_look dir s x y = where_else (strip_word s) (dir_word dir) x y (λ e. omega (arith, e, number_lt dir))

-- ---- one try

module _ (p : PassParts) (strip : ℕ) (dir : Dir) where
  abbrev tries : ℕ → Dir → ℕ
  tries s = cond (s == strip) (λ d. cond (number_of d == number_of dir) (p.tries strip dir + 1) (p.tries strip d)) (p.tries s)

  tries_here : tries strip dir ≡ p.tries strip dir + 1
  tries_here = ap (λ (b : Bool). (cond b (λ d. cond (number_of d == number_of dir) (p.tries strip dir + 1) (p.tries strip d)) (p.tries strip)) dir) (eq-eqb strip strip refl)
      ∙ where_same (number_of dir) (number_of dir) (p.tries strip dir + 1) (p.tries strip dir) refl

  tries_at_other : (s : ℕ) (d : Dir) → s ≢ strip → tries s d ≡ p.tries s d
  tries_at_other s d ne = ap (λ (b : Bool). (cond b (λ d. cond (number_of d == number_of dir) (p.tries strip dir + 1) (p.tries strip d)) (p.tries s)) d) (ne_eqb s strip ne)

  tries_of_other : (s : ℕ) (d : Dir) → number_of d ≢ number_of dir → tries s d ≡ p.tries s d
  tries_of_other s d ne = elim (cases_eq s strip) [
    | inl same ↦ ap (λ (b : Bool). (cond b (λ d. cond (number_of d == number_of dir) (p.tries strip dir + 1) (p.tries strip d)) (p.tries s)) d) (eq-eqb s strip same)
        ∙ where_else (number_of d) (number_of dir) (p.tries strip dir + 1) (p.tries strip d) ne ∙ ap (λ n. p.tries n d) (sym same)
    | inr other ↦ tries_at_other s d other
  ]

  tries_else : (s : ℕ) (d : Dir) → (s ≢ strip) ⊎ (number_of d ≢ number_of dir) → tries s d ≡ p.tries s d
  tries_else s d other = ⊎_elim (λ (ne : s ≢ strip). tries_at_other s d ne) (λ (ne : number_of d ≢ number_of dir). tries_of_other s d ne) other

  pub tried_none : (found : ℕ) (q : PassParts) → q ≡ after_try (after_look p (dir_word dir) found) strip dir → HasTried strip dir 0 p q
  tried_none found q is = subst (HasTried strip dir 0 p) (sym is) record {
    same = record { same_number = refl; same_gathered = refl };
    same_strip = refl;
    claims = refl;
    here = tries_here;
    others = tries_else;
    puts = omega arith;
    looks = λ s. dir_look dir s (p.looks (dir_word dir) + 1) (p.looks (strip_word s));
  }

  pub tried_some : (due was : ℕ) (q r : PassParts) → q ≡ after_take (after_try (after_look p (dir_word dir) due) strip dir) dir → r ≡ after_put (after_look q (dir_word dir) was) dir → HasTried strip dir 1 p r
  tried_some due was q r is is' = subst (HasTried strip dir 1 p) (sym (is' ∙ ap (λ (u : PassParts). after_put (after_look u (dir_word dir) was) dir) is)) record {
    same = record { same_number = refl; same_gathered = refl };
    same_strip = refl;
    claims = refl;
    here = tries_here;
    others = tries_else;
    puts = refl;
    looks = λ s. dir_look dir s _ _ ∙ dir_look dir s (p.looks (dir_word dir) + 1) (p.looks (strip_word s));
  }

-- ---- the parcel of the strip held

-- the direction is done in the parcel, and the pass shows it
pub held_put : (board : Board) (p q : PassParts) (old new : ParcelParts) (dir : Dir) → IsHeld board p old → q.strip ≡ p.strip → q.done ≡ (λ d. cond (number_of d == number_of dir) true (p.done d))
    → new ≡ parcel_of old.scene old.cut old.strip (with_done old.done dir) old.costs new.sums → is_done new.done dir ≡ true → IsHeld board q new
held_put board p q old new dir held strip shown is on = record {
  of_board = (ap (λ (x : ParcelParts). x.scene) is ∙ held.of_board.0, ap (λ (x : ParcelParts). x.cut) is ∙ held.of_board.1);
  held = strip ∙ held.held ∙ ap (λ (x : ParcelParts). Some x.strip) (sym is);
  done = λ d. elim (cases_eq (number_of d) (number_of dir)) [
    | inl same ↦ ap (is_done new.done) (same_number d dir same) ∙ on ∙ sym (ap (λ (f : Dir → Bool). f d) shown ∙ where_same (number_of d) (number_of dir) true (p.done d) same)
    | inr other ↦ ap (λ (x : ParcelParts). is_done x.done d) is ∙ get_or-set_other old.done (number_of dir) (number_of d) true false other ∙ held.done d
        ∙ sym (ap (λ (f : Dir → Bool). f d) shown ∙ where_else (number_of d) (number_of dir) true (p.done d) other)
  ];
}

-- a pass holds one strip
pub one_strip : (held : Option ℕ) (a b : ℕ) → held ≡ Some a → held ≡ Some b → a ≡ b
one_strip held a b ea eb = let e : Some a ≡ Some b = sym ea ∙ eb in cc

pub last_by : (front : FrontParts) (visits : List Visit) (strip worker : ℕ) → front.visits ≡ visits ++ visit_of strip worker ∷ [] → IsLastBy front strip worker
last_by front visits strip worker is =
    let visit = visit_of strip worker in
    let long = length_push visits visit in
    ap (λ (v : List Visit). slice_get v (length v - 1)) is ∙ slice_get-get_or (visits ++ visit ∷ []) (length (visits ++ visit ∷ []) - 1) visit (omega (arith, long))
    ∙ ap (λ (v : Visit). Some v) (get_or_push visits visit visit (length (visits ++ visit ∷ []) - 1) (omega (arith, long)))

-- ---- the tries at one strip

pub first_none : (strip : ℕ) (p : PassParts) → HasTriedFirst strip 0 0 p p
first_none strip p = record {
  same = record { same_number = refl; same_gathered = refl };
  claims = refl;
  tried = λ d front e h. absurd (omega arith);
  left = λ d front e h. refl;
  others = λ s d ne. refl;
  puts = omega arith;
  looks = λ s. omega arith;
}

pub first_more : (strip count handed more : ℕ) (dir : Dir) (p q r : PassParts) → HasTriedFirst strip count handed p q → HasTried strip dir more q r → front_of dir ≡ Some count → HasTriedFirst strip (count + 1) (handed + more) p r
first_more strip count handed more dir p q r first one at = record {
  same = record { same_number = one.same.same_number ∙ first.same.same_number; same_gathered = one.same.same_gathered ∙ first.same.same_gathered };
  claims = one.claims ∙ first.claims;
  tried = λ d front e h. elim (cases_eq front count) [
    | inl same ↦ (let is : d ≡ dir = at_one d dir front count e at same in
        ap (r.tries strip) is ∙ one.here ∙ ap (λ n. n + 1) (first.left dir count at (omega arith) ∙ ap (p.tries strip) (sym is)))
    | inr other ↦ one.others strip d (inr (λ e'. other (one_place d dir front count e at e'))) ∙ first.tried d front e (omega arith)
  ];
  left = λ d front e h. one.others strip d (inr (λ e'. let same = one_place d dir front count e at e' in omega arith)) ∙ first.left d front e (omega arith);
  others = λ s d ne. one.others s d (inl ne) ∙ first.others s d ne;
  puts = omega (arith, one.puts, first.puts);
  looks = λ s. omega (arith, one.looks s, first.looks s);
}

pub first_returned : (strip at count handed found : ℕ) (p q r : PassParts) → HasTriedFirst strip count handed p q → r ≡ after_return (after_look q (strip_word at) found) → HasTriedFirst strip count handed p r
first_returned strip at count handed found p q r first is = subst (HasTriedFirst strip count handed p) (sym is) record {
  same = record { same_number = first.same.same_number; same_gathered = first.same.same_gathered };
  claims = first.claims;
  tried = first.tried;
  left = first.left;
  others = first.others;
  puts = first.puts;
  looks = λ s. elim (cases_eq (strip_word s) (strip_word at)) [
    | inl same ↦ omega (arith, first.looks s, where_same (strip_word s) (strip_word at) (q.looks (strip_word at) + 1) (q.looks (strip_word s)) same, ap q.looks same)
    | inr other ↦ omega (arith, first.looks s, where_else (strip_word s) (strip_word at) (q.looks (strip_word at) + 1) (q.looks (strip_word s)) other)
  ];
}
