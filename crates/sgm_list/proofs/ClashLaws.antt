-- Looking up by OUT.
use Rattle.std.proofs.Common.{◌≡◌, ◌≢◌, ℕ, ◌+◌, ◌<◌, ◌≤◌, List, [], ◌∷◌, ◌++◌, take, length, get_or, Bool, true, false, cond, ◌||◌, Option, Some, None, is_some, refl, sym, ap, ◌∙◌, arith}
use Rattle.std.specs.List.{list_any, position_from}
use Rattle.std.specs.Option.{option_or}
use Rattle.std.specs.Prelude.{codes}
use Rattle.std.specs.Str.{bytes_eq}
use Rattle.std.proofs.lemmas.List.{append_cancel_right, length-take-le, take_more}
use Rattle.std.proofs.lemmas.Slice.Eq.{bytes_eq-Decides}
use Rattle.sgm_list.specs.Entries.{EntryNames}
use Rattle.sgm_list.specs.Clashes.{is_output}
use Rattle.sgm_list.proofs.Found.{any_is_found, any_same, found_push, none_passes}
use Rattle.sgm_list.proofs.Joins.{is_false}

same_test : (a b : Bool) → (a ≡ true → b ≡ true) → (b ≡ true → a ≡ true) → a ≡ b
same_test true b f g = sym (f refl)
same_test false true f g = g refl
same_test false false f g = refl

equal : (xs ys : List ℕ) → bytes_eq xs ys ≡ true → xs ≡ ys
equal xs ys = (bytes_eq-Decides xs ys).0

tests : (xs ys : List ℕ) → xs ≡ ys → bytes_eq xs ys ≡ true
tests xs ys = (bytes_eq-Decides xs ys).1

-- the first entry with each OUT among the first k
abbrev pub Knows : (List ℕ → Option ℕ) → List EntryNames → ℕ → Type 0
Knows f entries k = (cs : List ℕ) → f cs ≡ position_from (λ entry. bytes_eq cs entry.out) 0 (take k entries)

module _ (entries : List EntryNames) (k : ℕ) (entry : EntryNames) (inside : k < length entries) (here : get_or entries k entry ≡ entry) where
  pushed : (cs : List ℕ) → position_from (λ e. bytes_eq cs e.out) 0 (take (k + 1) entries) ≡ option_or (position_from (λ e. bytes_eq cs e.out) 0 (take k entries)) (cond (bytes_eq cs entry.out) (Some k) None)
  pushed cs =
      ap (position_from (λ e. bytes_eq cs e.out) 0) (take_more entries k entry inside ∙ ap (λ (e : EntryNames). take k entries ++ e ∷ []) here)
      ∙ found_push (λ e. bytes_eq cs e.out) (take k entries) entry 0
      ∙ ap (λ (n : ℕ). option_or (position_from (λ e. bytes_eq cs e.out) 0 (take k entries)) (cond (bytes_eq cs entry.out) (Some n) None))
      (let e : 0 + length (take k entries) ≡ k = omega (arith, length-take-le k entries (let l : k ≤ length entries = omega arith in l)) in e)

  -- its OUT is new
  pub knows_new : (f g : List ℕ → Option ℕ) (out : List ℕ) → out ≡ entry.out → Knows f entries k → is_some (f out) ≡ false
      → ((cs : List ℕ) → g cs ≡ cond (bytes_eq out cs) (Some k) (f cs)) → Knows g entries (k + 1)
  knows_new f g out is known none now cs = now cs ∙ go (bytes_eq out cs) refl ∙ ap (λ (o : Option ℕ). option_or o (cond (bytes_eq cs entry.out) (Some k) None)) (known cs) ∙ sym (pushed cs)
    where
      absent : (o : Option ℕ) → is_some o ≡ false → o ≡ None
      absent None h = refl
      absent (Some x) h = absurd cc

      go : (b : Bool) → bytes_eq out cs ≡ b → cond b (Some k) (f cs) ≡ option_or (f cs) (cond (bytes_eq cs entry.out) (Some k) None)
      go true h =
          let same = equal out cs h in
          let gone : f cs ≡ None = ap f (sym same) ∙ absent (f out) none in
          let yes : bytes_eq cs entry.out ≡ true = tests cs entry.out (sym same ∙ is) in
          λ i. option_or (sym gone i) (cond (sym yes i) (Some k) None)
      go false h =
          let other : false ≡ bytes_eq cs entry.out = is_false (bytes_eq cs entry.out) (λ e. let t : bytes_eq out cs ≡ true = tests out cs (is ∙ sym (equal cs entry.out e)) in cc) in
          rest (f cs) ∙ ap (λ (b : Bool). option_or (f cs) (cond b (Some k) None)) other
        where
          rest : (o : Option ℕ) → o ≡ option_or o None
          rest None = refl
          rest (Some x) = refl

  -- an earlier one has it
  pub knows_old : (f : List ℕ → Option ℕ) (out : List ℕ) → out ≡ entry.out → Knows f entries k → is_some (f out) ≡ true → Knows f entries (k + 1)
  knows_old f out is known had cs = go (f cs) refl ∙ ap (λ (o : Option ℕ). option_or o (cond (bytes_eq cs entry.out) (Some k) None)) (known cs) ∙ sym (pushed cs)
    where
      go : (o : Option ℕ) → f cs ≡ o → o ≡ option_or o (cond (bytes_eq cs entry.out) (Some k) None)
      go (Some x) h = refl
      go None h =
          let other : false ≡ bytes_eq cs entry.out = is_false (bytes_eq cs entry.out) (λ e.
          let same : out ≡ cs = is ∙ sym (equal cs entry.out e) in
          let none : Option ℕ = None in let t : is_some none ≡ true = sym (ap (λ (o : Option ℕ). is_some o) h) ∙ (ap (λ (c : List ℕ). is_some (f c)) (sym same) ∙ had) in cc) in
          ap (λ (b : Bool). cond b (Some k) None) other

-- a name that ends so is an OUT and the ending exactly where what stands before is that OUT
pub ended_some : (name out ending : List ℕ) (entries : List EntryNames) → name ≡ out ++ ending
    → is_some (position_from (λ entry. bytes_eq out entry.out) 0 entries) ≡ list_any (λ entry. bytes_eq name (entry.out ++ ending)) entries
ended_some name out ending entries is =
    sym (any_is_found (λ entry. bytes_eq out entry.out) entries 0)
    ∙ any_same (λ entry. bytes_eq out entry.out) (λ entry. bytes_eq name (entry.out ++ ending)) entries
    (λ entry. same_test (bytes_eq out entry.out) (bytes_eq name (entry.out ++ ending))
    (λ h. tests name (entry.out ++ ending) (is ∙ ap (λ (o : List ℕ). o ++ ending) (equal out entry.out h)))
    (λ h. tests out entry.out (append_cancel_right out entry.out ending (sym is ∙ equal name (entry.out ++ ending) h))))

pub ended_none : (name ending : List ℕ) (entries : List EntryNames) → ((front : List ℕ) → name ≢ front ++ ending)
    → false ≡ list_any (λ entry. bytes_eq name (entry.out ++ ending)) entries
ended_none name ending entries never =
    none_passes (λ entry. bytes_eq name (entry.out ++ ending)) entries (λ entry. is_false (bytes_eq name (entry.out ++ ending)) (λ h. never entry.out (equal name (entry.out ++ ending) h)))

-- whether a name is an OUT of the entries and this ending
abbrev pub ends : List EntryNames → List ℕ → List ℕ → Bool
ends entries name ending = list_any (λ entry. bytes_eq name (entry.out ++ ending)) entries

-- ending by ending
pub output_by_ending : (entries : List EntryNames) (name : List ℕ)
    → (ends entries name (codes ".pgm") || (ends entries name (codes ".asc") || ends entries name (codes ".csv"))) ≡ is_output entries name
output_by_ending [] name = refl
output_by_ending (entry ∷ entries) name =
    swap (bytes_eq name (entry.out ++ codes ".pgm")) (bytes_eq name (entry.out ++ codes ".asc")) (bytes_eq name (entry.out ++ codes ".csv"))
    (ends entries name (codes ".pgm")) (ends entries name (codes ".asc")) (ends entries name (codes ".csv"))
    ∙ ap (λ (b : Bool). (bytes_eq name (entry.out ++ codes ".pgm") || (bytes_eq name (entry.out ++ codes ".asc") || (bytes_eq name (entry.out ++ codes ".csv") || false))) || b) (output_by_ending entries name)
  where
    swap : (a b c x y z : Bool) → ((a || x) || ((b || y) || (c || z))) ≡ ((a || (b || (c || false))) || (x || (y || z)))
    swap true b c x y z = refl
    swap false true c true y z = refl
    swap false true c false y z = refl
    swap false false true true y z = refl
    swap false false true false true z = refl
    swap false false true false false z = refl
    swap false false false true y z = refl
    swap false false false false true z = refl
    swap false false false false false z = refl

module _ (entries : List EntryNames) (name : List ℕ) where
  pub first_ends : ends entries name (codes ".pgm") ≡ true → true ≡ is_output entries name
  first_ends h =
      sym (ap (λ (b : Bool). b || (ends entries name (codes ".asc") || ends entries name (codes ".csv"))) h) ∙ output_by_ending entries name

  pub second_ends : ends entries name (codes ".asc") ≡ true → true ≡ is_output entries name
  second_ends h = go (ends entries name (codes ".pgm")) ∙ sym (ap (λ (b : Bool). ends entries name (codes ".pgm") || (b || ends entries name (codes ".csv"))) h) ∙ output_by_ending entries name
    where
      go : (b : Bool) → true ≡ (b || true)
      go true = refl
      go false = refl

  pub last_ends : ends entries name (codes ".pgm") ≡ false → ends entries name (codes ".asc") ≡ false → ends entries name (codes ".csv") ≡ is_output entries name
  last_ends h g =
      (λ i. sym h i || (sym g i || ends entries name (codes ".csv"))) ∙ output_by_ending entries name
