-- Names that are begun and finished.
use Rattle.std.proofs.Common.{◌≡◌, ◌∙◌, ℕ, List, [], ◌∷◌, ◌++◌, Bool, true, false, cond, not, ◌||◌, refl, sym, ap, Option, Some, String, string_bytes}
use Rattle.std.specs.List.{filter, list_any}
use Rattle.std.specs.Str.{bytes_eq}
use Rattle.std.specs.declared.alloc.Global.{Global}
use Rattle.std.proofs.Math.Path.{fun_ext}
use Rattle.std.proofs.lemmas.List.Folds.{list_any-append}
use Rattle.std.proofs.lemmas.Slice.Eq.{bytes_eq-Decides}
use Rattle.sgm_io.specs.Keep.{name_of}
use Rattle.sgm_io.specs.Names.{is_among}
use Rattle.sgm_io.specs.Unfinished.{NameSet, with_name, without_name}
use Rattle.sgm_io.specs.Writing.{bytes_eq-same}

-- a name that was finished is not unfinished
pub without_name-same : (name : List ℕ) (names : NameSet) → without_name name names name ≡ false
unfolding without_name
without_name-same name names = ap (λ (b : Bool). cond b false (names name)) (bytes_eq-same name)

-- and finishing one begins no other
pub without_name-false : (name other : List ℕ) (names : NameSet) → names other ≡ false → without_name name names other ≡ false
unfolding without_name
without_name-false name other names is = elim (bytes_eq other name) as (λ b. cond b false (names other) ≡ false) [ true ↦ refl | false ↦ is ]

-- a name that was begun and then finished
pub without_name-with_name : (name : List ℕ) (names : NameSet) → without_name name (with_name name names) ≡ without_name name names
unfolding with_name without_name
without_name-with_name name names = fun_ext (λ other.
    elim (bytes_eq other name) as (λ b. cond b false (cond b true (names other)) ≡ cond b false (names other)) [ true ↦ refl | false ↦ refl ])

-- one file that is begun, written and finished
pub finished : (name : List ℕ) (writing : Option (List ℕ)) (old now new : NameSet) → writing ≡ Some name → now ≡ with_name name old → new ≡ without_name (name_of writing) now → new ≡ without_name name old
finished name writing old now new open_ begun done =
    done
    ∙ ap (λ (w : Option (List ℕ)). without_name (name_of w) now) open_
    ∙ ap (λ (names : NameSet). without_name name names) begun
    ∙ without_name-with_name name old

-- a name more in the list
pub is_among-push : (names : List (String Global)) (s : String Global) → is_among (names ++ s ∷ []) ≡ with_name (string_bytes s) (is_among names)
unfolding with_name
is_among-push names s = fun_ext (λ other.
    list_any-append (λ (x : String Global). bytes_eq other (string_bytes x)) names (s ∷ []) ∙ either (is_among names other) (bytes_eq other (string_bytes s))) where
      either : (a b : Bool) → (a || (b || false)) ≡ cond b true a
      either true true = refl
      either true false = refl
      either false true = refl
      either false false = refl

any-cond : (test : String Global → Bool) (s : String Global) (names : List (String Global)) (b : Bool) → list_any test (cond b (s ∷ names) names) ≡ cond b (test s || list_any test names) (list_any test names)
any-cond test s names true = refl
any-cond test s names false = refl

-- one name of the list, which is taken out or kept
removed : (e k p any rest : Bool) → (k ≡ true → p ≡ e) → (e ≡ true → p ≡ k) → rest ≡ cond e false any → cond (not k) (p || rest) rest ≡ cond e false (p || any)
removed true true p any rest f g is = is
removed true false p any rest f g is = ap (λ (b : Bool). b || rest) (g refl) ∙ is
removed false true p any rest f g is = is ∙ ap (λ (b : Bool). b || any) (sym (f refl))
removed false false p any rest f g is = ap (λ (b : Bool). p || b) is

removed_at : (name other : List ℕ) (names : List (String Global)) → is_among (filter (λ s. not (bytes_eq name (string_bytes s))) names) other ≡ cond (bytes_eq other name) false (is_among names other)
removed_at name other [] = none (bytes_eq other name) where
  none : (b : Bool) → false ≡ cond b false false
  none true = refl
  none false = refl
removed_at name other (s ∷ names) =
    any-cond (λ x. bytes_eq other (string_bytes x)) s (filter (λ x. not (bytes_eq name (string_bytes x))) names) (not (bytes_eq name (string_bytes s)))
    ∙ removed (bytes_eq other name) (bytes_eq name (string_bytes s)) (bytes_eq other (string_bytes s)) (is_among names other) _
    (λ same. ap (λ (n : List ℕ). bytes_eq other n) (sym ((bytes_eq-Decides name (string_bytes s)).0 same)))
    (λ same. ap (λ (n : List ℕ). bytes_eq n (string_bytes s)) ((bytes_eq-Decides other name).0 same))
    (removed_at name other names)

-- a name is taken out of the list
pub is_among-filter : (name : List ℕ) (names : List (String Global)) → is_among (filter (λ s. not (bytes_eq name (string_bytes s))) names) ≡ without_name name (is_among names)
unfolding without_name
is_among-filter name names = fun_ext (λ other. removed_at name other names)
