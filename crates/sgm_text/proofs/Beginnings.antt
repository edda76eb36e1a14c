-- What stands in front of what is added.
use Rattle.std.proofs.Common.{◌≡◌, ℕ, List, ◌++◌, length, drop, take, sym, ap, ◌∙◌, arith}
use Rattle.std.proofs.Common.{append_assoc, subst, Result, Ok, Err, OnOk, OnErr}
use Rattle.std.proofs.lemmas.List.{take-append-drop, take_all}
use Rattle.std.proofs.Math.Seq.{take-append_seam}
use Rattle.sgm_text.specs.Texts.{StartsAs}

-- what is added at the end leaves what stood before
pub starts_append : (xs ys : List ℕ) → StartsAs xs (xs ++ ys)
starts_append xs ys = take-append_seam xs ys

-- and so on
pub starts_on : (xs ys zs : List ℕ) → StartsAs xs ys → StartsAs ys zs → StartsAs xs zs
starts_on xs ys zs p q =
    let more = drop (length xs) ys in
    let rest = drop (length ys) zs in
    let second : ys ≡ xs ++ more =
    sym (take-append-drop (length xs) ys) ∙ ap (λ (t : List ℕ). t ++ more) p in
    let third : zs ≡ ys ++ rest =
    sym (take-append-drop (length ys) zs) ∙ ap (λ (t : List ℕ). t ++ rest) q in
    let whole : zs ≡ xs ++ (more ++ rest) =
    third ∙ ap (λ (t : List ℕ). t ++ rest) second ∙ append_assoc xs more rest in
    subst (λ (t : List ℕ). StartsAs xs t) (sym whole) (starts_append xs _)

-- what was added at the end of a text leaves what stood before
pub starts_more : (xs ys zs added : List ℕ)
    → StartsAs xs ys → zs ≡ ys ++ added → StartsAs xs zs
starts_more xs ys zs added p is =
    starts_on xs ys zs p (subst (λ (t : List ℕ). StartsAs ys t) (sym is) (starts_append ys added))

-- a text with more at its end begins as before
pub starts_with : (first now added : List ℕ) → now ≡ first ++ added → StartsAs first now
starts_with first now added is =
    subst (λ (t : List ℕ). StartsAs first t) (sym is) (starts_append first added)

pub starts_same : (xs ys : List ℕ) → ys ≡ xs → StartsAs xs ys
starts_same xs ys same =
    ap (take (length xs)) same ∙ take_all (length xs) xs (omega arith)

pub on_err : {E P : Type 0} (r : Result (Unit {0}) E) → P → OnErr r P
on_err (Ok u) p = tt
on_err (Err e) p = p

-- a part that was added, then one of which a piece may have been added
pub err_after : {E : Type 0} (r : Result (Unit {0}) E) (old first new added : List ℕ)
    → first ≡ old ++ added → OnErr r (StartsAs first new) → OnErr r (StartsAs old new)
err_after (Ok u) old first new added p q = tt
err_after (Err e) old first new added p q =
    starts_on old first new (starts_with old first added p) q

-- two parts, one after the other
pub two_parts : {E : Type 0} (r : Result (Unit {0}) E) (old first new a b : List ℕ)
    → first ≡ old ++ a → OnOk r (new ≡ first ++ b) → OnOk r (new ≡ old ++ (a ++ b))
two_parts (Err e) old first new a b p q = tt
two_parts (Ok u) old first new a b p q =
    q ∙ ap (λ (t : List ℕ). t ++ b) p ∙ append_assoc old a b
