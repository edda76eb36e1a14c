-- Pieces that are made side by side.
use Rattle.std.proofs.Common.{◌≡◌, ◌<◌, ◌∙◌, ℕ, suc, List, [], ◌∷◌, length, get_or, Option, Some, None, Vec, Global, Result, Ok, Err, map, refl, sym, ap, subst, arith}
use Rattle.std.specs.Prelude.{All, IfOk, IfSome, slice_get}
use Rattle.std.specs.Iterator.{Yields}
use Rattle.std.specs.Option.{option_or}
use Rattle.std.specs.Vec.Iter.{into_iter_items, into_iter_len, into_iter_steps}
use Rattle.std.proofs.lemmas.List.{get_or-map, get_or_default, length-map, nil_from_length}
use Rattle.std.proofs.lemmas.Option.{get_or_from_slice_get, slice_get_within}
use denote.Param.Members.{Shared}
use Rattle.sgm_threads.specs.Sharing.{AreMade, AreOwn, HoldOwn, MayGive}

-- what is said of each element is said of one that a vector's iterator gives
pub each_given : {A Z : Type 0} (P : A → Type 0) (xs : List A) (x : A) → (s : _) → (t : _) → (u : _) → All P (into_iter_items s)
    → Yields (into_iter_steps {X = A} {Z = Z}) s xs t → into_iter_steps {X = A} {Z = Z} t (Some x) u → P x
each_given P [] x s t u all y e =
    let items = ap (λ i. into_iter_items i) y ∙ e.0 in
    (subst (All P) items all) 0 x (omega arith)
each_given P (z ∷ xs) x s t u all y e =
    let items = y.1.0 in
    each_given P xs x y.0 t u (λ k d h. (subst (All P) items all) (suc k) d (omega (arith, h))) y.2 e

-- what a vector's iterator has given when it ends is all that it held
pub drained : {A Z : Type 0} → (xs all : List A) → (s : _) → (t : _) → (u : _) → into_iter_items s ≡ all → into_iter_len s ≡ length all
    → Yields (into_iter_steps {X = A} {Z = Z}) s xs t → into_iter_steps {X = A} {Z = Z} t None u → xs ≡ all
drained [] all s t u items len y e = sym (nil_from_length all (omega (arith, len, ap (λ i. into_iter_len i) y, e.0)))
drained (x ∷ xs) all s t u items len y e =
    let more = sym items ∙ y.1.0 in
    ap (λ ys. x ∷ ys) (drained xs (into_iter_items y.0) y.0 t u refl (omega (arith, len, y.1.1, ap length more)) y.2 e) ∙ sym more

-- the one or the other was made for its place
either_held : {X : Type 0} (P : X → Type 0) (own place : Option X) → IfSome own P → IfSome place P → IfSome (option_or own place) P
either_held P None place own other = other
either_held P (Some x) place own other = own

-- with what one thread made, the places are as before
pub put_held : {F X : Type 0} (g : Shared F (ℕ × Unit {0}) (Option X)) (f : F) (count : ℕ) (own places : Vec (Option X) Global) (new : List (Option X))
    → AreOwn g f count own → AreOwn g f count places → length new ≡ length places.items
    → ((k : ℕ) → k < length new → get_or new k None ≡ option_or (get_or own.items k None) (get_or places.items k None)) → HoldOwn g f new
put_held g f count own places new mine all same each k d h =
    let inside : k < length places.items = omega (arith, same, h) in
    let owned : k < length own.items = omega (arith, mine.all, all.all, inside) in
    let joined : get_or new k d ≡ option_or (get_or own.items k d) (get_or places.items k d) =
    get_or_default new k d None h ∙ each k h
    ∙ ap (λ o. option_or o (get_or places.items k None)) (get_or_default own.items k None d owned)
    ∙ ap (option_or (get_or own.items k d)) (get_or_default places.items k None d inside) in
    subst (λ o. IfSome o (MayGive g f k)) (sym joined)
    (either_held (MayGive g f k) (get_or own.items k d) (get_or places.items k d) (mine.own k d owned) (all.own k d inside))

-- of what was in the places each is what f may give for its number
pub all_made : {F X : Type 0} (g : Shared F (ℕ × Unit {0}) (Option X)) (f : F) (places : List (Option X)) (all : List X)
    → HoldOwn g f places → map Some all ≡ places → AreMade g f all
all_made g f places all held e k d h =
    let here : get_or places k (Some d) ≡ Some (get_or all k d) = ap (λ xs. get_or xs k (Some d)) (sym e) ∙ get_or-map Some all k d (Some d) h in
    subst (λ o. IfSome o (MayGive g f k)) here (held k (Some d) (omega (arith, h, ap length e, length-map all Some)))

pub so_many : {X : Type 0} (places : List (Option X)) (all : List X) (n : ℕ) → length places ≡ n → map Some all ≡ places → length all ≡ n
so_many places all n count e = sym (length-map all Some) ∙ ap length e ∙ count

-- what is said of each piece at its index is said of it at its place
pub each_at : {X : Type 0} (P : ℕ → X → Type 0) (all : List X) → ((k : ℕ) (d : X) → k < length all → P k (get_or all k d)) → (k : ℕ) (x : X) → slice_get all k ≡ Some x → P k x
each_at P all each k x at = subst (P k) (get_or_from_slice_get all k x x at) (each k x (slice_get_within all k x at))

-- what follows from a clause of an answer, and from two
pub if_ok : {V E : Type 0} {P Q : V → Type 0} (r : Result V E) → ((v : V) → P v → Q v) → IfOk r P → IfOk r Q
if_ok (Ok v) f p = f v p
if_ok (Err e) f p = tt

pub if_ok_two : {V E : Type 0} {P Q S : V → Type 0} (r : Result V E) → ((v : V) → P v → Q v → S v) → IfOk r P → IfOk r Q → IfOk r S
if_ok_two (Ok v) f p q = f v p q
if_ok_two (Err e) f p q = tt
