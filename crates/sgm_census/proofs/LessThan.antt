-- What is less than a centre, list by list.
use Rattle.std.proofs.Common.{◌≡◌, ℕ, ◌+◌, ◌*◌, ◌<◌, zero, suc, Bool, ltb, List, [], ◌∷◌, ◌++◌, map, length, get_or, Option, Some, None, option_map, refl, sym, ap, ◌∙◌, arith}
use Rattle.std.proofs.lemmas.List.{map-append, length-map}
use Rattle.sgm_census.specs.Codes.{all_there, less_than}
use Rattle.std.specs.Int.{from_bool}
use Rattle.sgm_census.specs.Packed.{pushed}

-- two lists one after the other, where both are there
abbrev pub joined : {X : Type 0} → Option (List X) → Option (List X) → Option (List X)
joined None b = None
joined (Some xs) None = None
joined (Some xs) (Some ys) = Some (xs ++ ys)

joined-nil : {X : Type 0} (b : Option (List X)) → b ≡ joined (Some []) b
joined-nil None = refl
joined-nil (Some ys) = refl

joined-cons : {X : Type 0} (x : X) (a b : Option (List X)) → option_map (λ ys. x ∷ ys) (joined a b) ≡ joined (option_map (λ ys. x ∷ ys) a) b
joined-cons x None b = refl
joined-cons x (Some xs) None = refl
joined-cons x (Some xs) (Some ys) = refl

joined-map : {X Y : Type 0} (f : X → Y) (a b : Option (List X)) → option_map (map f) (joined a b) ≡ joined (option_map (map f) a) (option_map (map f) b)
joined-map f None b = refl
joined-map f (Some xs) None = refl
joined-map f (Some xs) (Some ys) = ap (λ zs. Some zs) (map-append f xs ys)

all_there-append : {X : Type 0} (xs ys : List (Option X)) → all_there (xs ++ ys) ≡ joined (all_there xs) (all_there ys)
all_there-append [] ys = joined-nil (all_there ys)
all_there-append (None ∷ xs) ys = refl
all_there-append (Some x ∷ xs) ys = ap (λ o. option_map (λ zs. x ∷ zs) o) (all_there-append xs ys) ∙ joined-cons x (all_there xs) (all_there ys)

all_there_none : {X : Type 0} (xs : List (Option X)) (k : ℕ) (d : Option X) → k < length xs → get_or xs k d ≡ None → all_there xs ≡ None
all_there_none [] k d h e = absurd (omega arith)
all_there_none (None ∷ xs) k d h e = refl
all_there_none (Some x ∷ xs) zero d h e = cc
all_there_none (Some x ∷ xs) (suc k) d h e = ap (λ o. option_map (λ zs. x ∷ zs) o) (all_there_none xs k d (omega arith) e)

pub less_than-append : (centre : ℕ) (xs ys : List (Option ℕ)) → less_than centre (xs ++ ys) ≡ joined (less_than centre xs) (less_than centre ys)
unfolding less_than
less_than-append centre xs ys =
    ap (λ o. option_map (map (λ v. ltb v centre)) o) (all_there-append xs ys) ∙ joined-map (λ v. ltb v centre) (all_there xs) (all_there ys)

pub less_than_none : (centre : ℕ) (xs : List (Option ℕ)) (k : ℕ) (d : Option ℕ) → k < length xs → get_or xs k d ≡ None → less_than centre xs ≡ None
unfolding less_than
less_than_none centre xs k d h e = ap (λ o. option_map (map (λ v. ltb v centre)) o) (all_there_none xs k d h e)

pub less_than-one : (centre v : ℕ) → less_than centre (Some v ∷ []) ≡ Some (ltb v centre ∷ [])
unfolding less_than
less_than-one centre v = refl

pub pushed-push : (w : ℕ) (bs : List Bool) (b : Bool) → pushed w (bs ++ b ∷ []) ≡ 2 * pushed w bs + from_bool b
pushed-push w [] b = refl
pushed-push w (x ∷ bs) b = pushed-push (2 * w + from_bool x) bs b

pub pushed-append : (w : ℕ) (xs ys : List Bool) → pushed w (xs ++ ys) ≡ pushed (pushed w xs) ys
pushed-append w [] ys = refl
pushed-append w (x ∷ xs) ys = pushed-append (2 * w + from_bool x) xs ys

pub mapped_some : {X Y : Type 0} (f : X → Y) (o : Option X) (y : Y) → option_map f o ≡ Some y → (x : X) × (o ≡ Some x) × (f x ≡ y)
mapped_some f None y e = cc
mapped_some f (Some x) y e = (x, refl, cc)

length-all_there : {X : Type 0} (xs : List (Option X)) (ys : List X) → all_there xs ≡ Some ys → length ys ≡ length xs
length-all_there [] ys e =
    let none : [] ≡ ys = cc in
    ap length (sym none)
length-all_there (None ∷ xs) ys e = cc
length-all_there (Some x ∷ xs) ys e =
    let w = mapped_some (λ zs. x ∷ zs) (all_there xs) ys e in
    omega (arith, length-all_there xs w.0 w.1, ap length w.2)

-- there are as many truth values as values
pub length-less_than : (centre : ℕ) (xs : List (Option ℕ)) (bs : List Bool) → less_than centre xs ≡ Some bs → length bs ≡ length xs
unfolding less_than
length-less_than centre xs bs e =
    let w = mapped_some (map (λ v. ltb v centre)) (all_there xs) bs e in
    omega (arith, length-all_there xs w.0 w.1, ap length w.2, length-map w.0 (λ v. ltb v centre))
