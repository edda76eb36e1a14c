-- The heights of a text, word by word.
use Rattle.std.proofs.Common.{◌≡◌, ◌≢◌, ℕ, zero, suc, ◌+◌, ◌-◌, ◌*◌, ◌<◌, ◌≤◌, ◌⊎◌, inl, inr, List, [], ◌∷◌, ◌++◌, length, drop, Bool, true, false, ◌==◌, ℤ, neg_ℤ, Option, Some, None, Result, Ok, Err, if◌then◌else◌, refl, sym, ap, ◌∙◌, subst, arith, rules, All, append_assoc, to_z, of_z, w64}
use Rattle.std.specs.List.{AllByRecursion}
use Rattle.std.specs.Option.{ForSome, option_map, option_and_then}
use Rattle.std.specs.Ordering.{int_eq}
use Rattle.std.proofs.lemmas.Bool.Decides.{Decides-int_eq, nat_tests}
use Rattle.std.proofs.lemmas.Int.{ints, clamps}
use Rattle.std.proofs.lemmas.List.{length-drop, length_push}
use Rattle.std.proofs.lemmas.List.Elements.{All-from_recursion}
use Rattle.sgm_base.specs.Ranges.{IsFromTo}
use Rattle.sgm_grid.specs.declared.asc_fault.AscFault.{AscFault}
use Rattle.sgm_grid.specs.declared.asc_fault.AscFault.TheVariants.{Count, Height}
use Rattle.sgm_grid.specs.declared.limits.TheConstants.{MAX_HEIGHT, NO_HEIGHT}
use Rattle.sgm_grid.specs.declared.grid_spec.GridSpec.{GridSpec}
use Rattle.sgm_grid.specs.Asc.{cell_in, cell_told, grid_of, heights_in, is_from_to, with_cell, with_spec}
use Rattle.sgm_grid.specs.Capped.{capped}
use Rattle.sgm_grid.specs.Cells.{Cells, IsHeight, cells_of}
use Rattle.sgm_grid.proofs.HeadLaws.{capped_fits, from_to, test_true}
use Rattle.sgm_grid.specs.Leading.{leading, prepend}
use Rattle.sgm_grid.specs.Numbers.{number_of}

abbrev Heights : Type 0
Heights = Result (List (Option ℤ)) AscFault

abbrev at_index : ℕ → Heights
at_index index = Err (Height index)

-- ---- how many

pub leading_at_most : (n : ℕ) (words : List (List ℕ)) → length (leading n words) ≤ n
leading_at_most zero words = omega arith
leading_at_most (suc n) [] = omega arith
leading_at_most (suc n) (word ∷ words) = step (cell_in word) (leading_at_most n words)
  where
    step : (o : Option (Option ℤ)) → length (leading n words) ≤ n → length (prepend o (leading n words)) ≤ suc n
    step None few = omega arith
    step (Some cell) few = omega arith

pub leading_within : (n : ℕ) (words : List (List ℕ)) → length (leading n words) ≤ length words
leading_within zero words = omega arith
leading_within (suc n) [] = omega arith
leading_within (suc n) (word ∷ words) = step (cell_in word) (leading_within n words)
  where
    step : (o : Option (Option ℤ)) → length (leading n words) ≤ length words → length (prepend o (leading n words)) ≤ suc (length words)
    step None few = omega arith
    step (Some cell) few = omega arith

-- ---- which

short_step : (k n : ℕ) (o : Option (Option ℤ)) (cells : List (Option ℤ)) (rest : Heights) → (length cells < n → rest ≡ at_index (k + 1 + length cells))
    → length (prepend o cells) < suc n → with_cell k o rest ≡ at_index (k + length (prepend o cells))
short_step k n None cells rest others few = ap at_index (omega arith)
short_step k n (Some cell) cells rest others few = ap (with_cell k (Some cell)) (others (omega arith)) ∙ ap at_index (omega arith)

-- where fewer stand in front than there are words, the next tells none
pub leading_short : (k n : ℕ) (words : List (List ℕ)) → length words ≡ n → length (leading n words) < n → heights_in k words ≡ at_index (k + length (leading n words))
leading_short k zero words long few = absurd (omega arith)
leading_short k (suc n) [] long few = absurd (omega arith)
leading_short k (suc n) (word ∷ words) long few =
    short_step k n (cell_in word) (leading n words) (heights_in (k + 1) words) (λ less. leading_short (k + 1) n words (omega arith) less) few

full_step : (k n : ℕ) (o : Option (Option ℤ)) (cells : List (Option ℤ)) (rest : Heights) → (n ≤ length cells → rest ≡ Ok cells)
    → suc n ≤ length (prepend o cells) → with_cell k o rest ≡ Ok (prepend o cells)
full_step k n None cells rest others all = absurd (omega arith)
full_step k n (Some cell) cells rest others all = ap (with_cell k (Some cell)) (others (omega arith))

pub leading_full : (k n : ℕ) (words : List (List ℕ)) → length words ≡ n → n ≤ length (leading n words) → heights_in k words ≡ Ok (leading n words)
leading_full k zero [] long all = refl
leading_full k zero (word ∷ words) long all = absurd (omega arith)
leading_full k (suc n) [] long all = absurd (omega arith)
leading_full k (suc n) (word ∷ words) long all =
    full_step k n (cell_in word) (leading n words) (heights_in (k + 1) words) (λ every. leading_full (k + 1) n words (omega arith) every) all

-- ---- each is a height

some_height : (z : ℤ) → IsHeight z → ForSome (Some z) IsHeight
some_height z height = search rules

no_height : ForSome {T = ℤ} None IsHeight
no_height = search rules

told_as : (b d : Bool) (z : ℤ) (cell : Option ℤ) → (d ≡ true → IsHeight z) → (if b then Some None else (if d then Some (Some z) else None)) ≡ Some cell → ForSome cell IsHeight
told_as true d z cell height e = let is : None ≡ cell = cc in subst (λ (o : Option ℤ). ForSome o IsHeight) is no_height
told_as false true z cell height e = let is : Some z ≡ cell = cc in subst (λ (o : Option ℤ). ForSome o IsHeight) is (some_height z (height refl))
told_as false false z cell height e = absurd cc

pub told_height : (z : ℤ) (cell : Option ℤ) → cell_told z ≡ Some cell → ForSome cell IsHeight
told_height z cell e = told_as (int_eq z NO_HEIGHT) (is_from_to (neg_ℤ MAX_HEIGHT) MAX_HEIGHT z) z cell (from_to (neg_ℤ MAX_HEIGHT) MAX_HEIGHT z) e

written_height : (o : Option ℤ) (cell : Option ℤ) → option_and_then cell_told o ≡ Some cell → ForSome cell IsHeight
written_height None cell e = absurd cc
written_height (Some z) cell e = told_height z cell e

pub leading_heights : (n : ℕ) (words : List (List ℕ)) → AllByRecursion (λ height. ForSome height IsHeight) (leading n words)
leading_heights zero words = tt
leading_heights (suc n) [] = tt
leading_heights (suc n) (word ∷ words) = step (cell_in word) (λ cell e. written_height (number_of word) cell e) (leading_heights n words)
  where
    step : (o : Option (Option ℤ)) → ((cell : Option ℤ) → o ≡ Some cell → ForSome cell IsHeight) → AllByRecursion (λ height. ForSome height IsHeight) (leading n words)
        → AllByRecursion (λ height. ForSome height IsHeight) (prepend o (leading n words))
    step None each all = tt
    step (Some cell) each all = (each cell refl, all)

-- ---- one more

-- a word that tells none ends them
pub ends_here : (n : ℕ) (word : List ℕ) (words : List (List ℕ)) → cell_in word ≡ None → leading n (word ∷ words) ≡ []
ends_here zero word words none = refl
ends_here (suc n) word words none = ap (λ (o : Option (Option ℤ)). prepend o (leading n words)) none

pub none_left : (n : ℕ) → leading n [] ≡ []
none_left zero = refl
none_left (suc n) = refl

pub one_more : (n m : ℕ) (word : List ℕ) (words : List (List ℕ)) (cell : Option ℤ) → n ≡ m + 1 → cell_in word ≡ Some cell → leading n (word ∷ words) ≡ cell ∷ leading m words
one_more zero m word words cell more is = absurd (omega arith)
one_more (suc n) m word words cell more is =
    let same : n ≡ m = omega arith in
    ap (λ (o : Option (Option ℤ)). prepend o (leading n words)) is ∙ ap (λ (k : ℕ). cell ∷ leading k words) same

-- ---- numbers that are too great may be taken as one

cell_none : (z : ℤ) → int_eq z NO_HEIGHT ≡ false → is_from_to (neg_ℤ MAX_HEIGHT) MAX_HEIGHT z ≡ false → cell_told z ≡ None
cell_none z other outside =
    ap (λ (b : Bool). if b then Some None else (if is_from_to (neg_ℤ MAX_HEIGHT) MAX_HEIGHT z then Some (Some z) else None)) other
    ∙ ap (λ (b : Bool). if b then Some (Some z) else None) outside

which : (b : Bool) → (b ≡ true) ⊎ (b ≡ false)
which true = inl refl
which false = inr refl

told_apart : (z : ℤ) → int_eq z NO_HEIGHT ≡ false → int_eq (capped z) NO_HEIGHT ≡ false
told_apart z other =
    elim (which (int_eq (capped z) NO_HEIGHT)) [
      | inl same ↦
          let is : capped z ≡ NO_HEIGHT = (Decides-int_eq (capped z) NO_HEIGHT).0 same in
          let real : z ≡ NO_HEIGHT = omega (arith, ints, clamps) in
          let yes : int_eq z NO_HEIGHT ≡ true = (Decides-int_eq z NO_HEIGHT).1 real in
          absurd cc
      | inr apart ↦ apart
    ]

still_outside : (z : ℤ) → is_from_to (neg_ℤ MAX_HEIGHT) MAX_HEIGHT z ≡ false → is_from_to (neg_ℤ MAX_HEIGHT) MAX_HEIGHT (capped z) ≡ false
still_outside z outside =
    elim (which (is_from_to (neg_ℤ MAX_HEIGHT) MAX_HEIGHT (capped z))) [
      | inl inside ↦
          let within = from_to (neg_ℤ MAX_HEIGHT) MAX_HEIGHT (capped z) inside in
          let real : IsFromTo (neg_ℤ MAX_HEIGHT) MAX_HEIGHT z = (omega (arith, ints, clamps, within.0, within.1), omega (arith, ints, clamps, within.0, within.1)) in
          let yes = test_true (neg_ℤ MAX_HEIGHT) MAX_HEIGHT z real in
          absurd cc
      | inr apart ↦ apart
    ]

pub cell_capped : (z : ℤ) → cell_told (capped z) ≡ cell_told z
cell_capped z =
    elim (which (int_eq z NO_HEIGHT)) [
      | inl empty ↦
          let is : z ≡ NO_HEIGHT = (Decides-int_eq z NO_HEIGHT).0 empty in
          let same : capped z ≡ z = omega (arith, ints, clamps) in
          ap cell_told same
      | inr other ↦ elim (which (is_from_to (neg_ℤ MAX_HEIGHT) MAX_HEIGHT z)) [
        | inl inside ↦
            let within = from_to (neg_ℤ MAX_HEIGHT) MAX_HEIGHT z inside in
            let same : capped z ≡ z = omega (arith, ints, clamps, within.0, within.1) in
            ap cell_told same
        | inr outside ↦ cell_none (capped z) (told_apart z other) (still_outside z outside) ∙ sym (cell_none z other outside)
      ]
    ]

-- what a number that was read tells is what its word tells
pub cell_of_number : (o : Option ℤ) (value : ℤ) → option_map capped o ≡ Some value → cell_told value ≡ option_and_then cell_told o
cell_of_number None value e = absurd cc
cell_of_number (Some z) value e = let is : value ≡ capped z = cc in ap cell_told is ∙ cell_capped z

-- and as the code hands it on
pub cell_as_read : (o : Option ℤ) (value : ℤ) → option_map capped o ≡ Some value → cell_told (to_z w64 (of_z w64 value)) ≡ option_and_then cell_told o
cell_as_read None value e = absurd cc
cell_as_read (Some z) value e =
    let is : value ≡ capped z = cc in
    ap (λ (v : ℤ). cell_told (to_z w64 (of_z w64 v))) is ∙ ap cell_told (capped_fits z) ∙ cell_capped z

pub no_number : (o : Option ℤ) → option_map capped o ≡ None → option_and_then cell_told o ≡ None
no_number None e = refl
no_number (Some z) e = absurd cc

-- ---- the grid behind a head

pub wrong_count : (spec : GridSpec) (words : List (List ℕ)) (have need : ℕ) → have ≡ length words → need ≡ spec.cols * spec.rows → have ≢ need
    → grid_of spec words ≡ Err (Count have need)
unfolding grid_of
wrong_count spec words have need is needs apart =
    let other : (length words == spec.cols * spec.rows) ≡ false = grind (arith, nat_tests) in
    ap (λ (b : Bool). if b then with_spec spec (heights_in 0 words) else Err (Count (length words) (spec.cols * spec.rows))) other
    ∙ ap (λ (n : ℕ). faulty (Count n (spec.cols * spec.rows))) (sym is) ∙ ap (λ (n : ℕ). faulty (Count have n)) (sym needs)
  where
    faulty : AscFault → Result Cells AscFault
    faulty fault = Err fault

pub enough : (spec : GridSpec) (words : List (List ℕ)) → length words ≡ spec.cols * spec.rows → grid_of spec words ≡ with_spec spec (heights_in 0 words)
unfolding grid_of
enough spec words full =
    let same : (length words == spec.cols * spec.rows) ≡ true = grind (arith, nat_tests) in
    ap (λ (b : Bool). if b then with_spec spec (heights_in 0 words) else Err (Count (length words) (spec.cols * spec.rows))) same

pub wrong_height : (spec : GridSpec) (words : List (List ℕ)) (need index : ℕ) → length words ≡ need → need ≡ spec.cols * spec.rows → index ≡ length (leading need words) → index < need
    → grid_of spec words ≡ Err (Height index)
wrong_height spec words need index full needs is few =
    enough spec words (full ∙ needs)
    ∙ ap (with_spec spec) (leading_short 0 need words full (omega arith) ∙ ap at_index (omega arith))

pub right_heights : (spec : GridSpec) (words : List (List ℕ)) (need : ℕ) (heights : List (Option ℤ)) → length words ≡ need → need ≡ spec.cols * spec.rows → heights ≡ leading need words
    → need ≤ length heights → grid_of spec words ≡ Ok (cells_of spec heights)
right_heights spec words need heights full needs is all =
    enough spec words (full ∙ needs)
    ∙ ap (with_spec spec) (leading_full 0 need words full (omega (arith, ap length is)))
    ∙ ap (λ (hs : List (Option ℤ)). grid hs) (sym is)
  where
    grid : List (Option ℤ) → Result Cells AscFault
    grid hs = Ok (cells_of spec hs)

-- ---- as the code counts them

pub counts : (n have count : ℕ) (words rest : List (List ℕ)) (heights : List (Option ℤ)) → heights ≡ leading n words → rest ≡ drop (length heights) words → have ≡ length heights → count ≡ length rest
    → have + count ≡ length words
counts n have count words rest heights is behind some more =
    omega (arith, ap length is, ap length behind, length-drop (length heights) words, leading_within n words)

drop_next : (words rest : List (List ℕ)) (word : List ℕ) (n : ℕ) → word ∷ rest ≡ drop n words → rest ≡ drop (n + 1) words
drop_next words rest word n is = ap (drop 1) is ∙ dropped n words
  where
    dropped : (n : ℕ) (words : List (List ℕ)) → drop 1 (drop n words) ≡ drop (n + 1) words
    dropped zero words = refl
    dropped (suc n) [] = let next : suc n + 1 ≡ suc (n + 1) = omega arith in sym (ap (λ (k : ℕ). drop k []) next)
    dropped (suc n) (w ∷ words) = let next : suc n + 1 ≡ suc (n + 1) = omega arith in dropped n words ∙ sym (ap (λ (k : ℕ). drop k (w ∷ words)) next)

pub more_whole : (most : ℕ) (words before rest : List (List ℕ)) (old new : List (Option ℤ)) (word : List ℕ) (cell : Option ℤ) → new ≡ old ++ cell ∷ [] → length old < most → before ≡ word ∷ rest
    → cell_in word ≡ Some cell → old ++ leading (most - length old) before ≡ leading most words → new ++ leading (most - length new) rest ≡ leading most words
more_whole most words before rest old new word cell is few front tells whole =
    let longer : length new ≡ length old + 1 = ap length is ∙ length_push old cell in
    let next : most - length old ≡ most - length new + 1 = omega arith in
    ap (λ (t : List (Option ℤ)). t ++ leading (most - length new) rest) is
    ∙ append_assoc old (cell ∷ []) (leading (most - length new) rest)
    ∙ ap (λ (t : List (Option ℤ)). old ++ t) (sym (ap (leading (most - length old)) front ∙ one_more (most - length old) (most - length new) word rest cell next tells))
    ∙ whole

pub more_rest : (words before rest : List (List ℕ)) (old new : List (Option ℤ)) (word : List ℕ) (cell : Option ℤ) → new ≡ old ++ cell ∷ [] → before ≡ word ∷ rest
    → before ≡ drop (length old) words → rest ≡ drop (length new) words
more_rest words before rest old new word cell is front so_far =
    drop_next words rest word (length old) (sym front ∙ so_far) ∙ ap (λ (n : ℕ). drop n words) (sym (ap length is ∙ length_push old cell))

pub all_heights : (n : ℕ) (words : List (List ℕ)) (heights : List (Option ℤ)) → heights ≡ leading n words → All (λ height. ForSome height IsHeight) heights
all_heights n words heights is =
    let P : List (Option ℤ) → Type 0 = λ hs. All (λ height. ForSome height IsHeight) hs in
    subst P (sym is) (All-from_recursion (λ height. ForSome height IsHeight) (leading n words) (leading_heights n words))
