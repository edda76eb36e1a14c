-- As many as there are lines of so many words.
use Rattle.std.proofs.Common.{◌≡◌, ℕ, ◌+◌, ◌==◌, List, [], ◌∷◌, length, Bool, cond, Option, Some, None, is_some, count_by, ne_eqb, refl, sym, ap, ◌∙◌, arith}
use Rattle.std.specs.Prelude.{filter_map}
use Rattle.std.specs.List.{cons_option}
use Rattle.std.proofs.lemmas.List.Recursion.{is_count_by}
use Rattle.sgm_text.specs.Words.{lines_of, words_of}
use Rattle.sgm_list.specs.Entries.{entries_of, entry_in}
use Rattle.sgm_list.specs.Names.{name_in, names_in}

is_four : (words : List (List ℕ)) → is_some (entry_in words) ≡ (length words == 4)
is_four [] = refl
is_four (a ∷ []) = refl
is_four (a ∷ b ∷ []) = refl
is_four (a ∷ b ∷ c ∷ []) = refl
is_four (a ∷ b ∷ c ∷ d ∷ []) = refl
is_four (a ∷ b ∷ c ∷ d ∷ e ∷ words) = sym (ne_eqb (length (a ∷ b ∷ c ∷ d ∷ e ∷ words)) 4 (λ h. omega arith))

is_one : (words : List (List ℕ)) → is_some (name_in words) ≡ (length words == 1)
is_one [] = refl
is_one (a ∷ []) = refl
is_one (a ∷ b ∷ words) = sym (ne_eqb (length (a ∷ b ∷ words)) 1 (λ h. omega arith))

one_more : {Y : Type 0} (found : Option Y) (ys : List Y) → length (cons_option found ys) ≡ cond (is_some found) (1 + length ys) (length ys)
one_more None ys = refl
one_more (Some y) ys = let e : length (y ∷ ys) ≡ 1 + length ys = omega arith in e

kept : {X Y : Type 0} (find : X → Option Y) (test : X → Bool) → ((x : X) → is_some (find x) ≡ test x) → (xs : List X)
    → length (filter_map find xs) ≡ count_by test xs
kept find test same xs =
    is_count_by (λ xs. length (filter_map find xs)) test refl (λ x xs.
    one_more (find x) (filter_map find xs)
    ∙ ap (λ (b : Bool). cond b (1 + length (filter_map find xs)) (length (filter_map find xs))) (same x)) xs

entries_counted : (text : List ℕ) → length (entries_of text) ≡ count_by (λ line. length (words_of line) == 4) (lines_of text)
entries_counted text = kept (λ line. entry_in (words_of line)) (λ line. length (words_of line) == 4) (λ line. is_four (words_of line)) (lines_of text)

names_counted : (text : List ℕ) → length (names_in text) ≡ count_by (λ line. length (words_of line) == 1) (lines_of text)
names_counted text = kept (λ line. name_in (words_of line)) (λ line. length (words_of line) == 1) (λ line. is_one (words_of line)) (lines_of text)

-- the same of a text that is those bytes
pub entry_count : (bytes text : List ℕ) (count : ℕ) → text ≡ bytes → count ≡ count_by (λ line. length (words_of line) == 4) (lines_of text) → count ≡ length (entries_of bytes)
entry_count bytes text count same is = is ∙ (sym (entries_counted text) ∙ ap (λ (t : List ℕ). length (entries_of t)) same)

pub name_count : (bytes text : List ℕ) (count : ℕ) → text ≡ bytes → count ≡ count_by (λ line. length (words_of line) == 1) (lines_of text) → count ≡ length (names_in bytes)
name_count bytes text count same is = is ∙ (sym (names_counted text) ∙ ap (λ (t : List ℕ). length (names_in t)) same)
