-- Words of a text, one after the other.
use Rattle.std.proofs.Common.{◌≡◌, ℕ, suc, ◌+◌, ◌<◌, ◌≤◌, inl, inr, List, [], ◌∷◌, ◌++◌, length, take, drop, get_or, filter, true, false, refl, sym, ap, ◌∙◌, arith, All, drop-cons}
use Rattle.std.specs.List.{slice_split}
use Rattle.std.specs.Str.{IsUtf8, IsCharBoundary}
use Rattle.std.proofs.lemmas.Bool.{cases_lt}
use Rattle.std.proofs.lemmas.Bool.Decides.{nat_tests}
use Rattle.std.proofs.lemmas.List.{take-append-drop, take_all, drop_all, length-take, length-take-le, get_or-take, get_or_default}
use Rattle.std.proofs.lemmas.List.Splits.{slice_split-cons_yes, slice_split_none, slice_split_at}
use Rattle.std.proofs.lemmas.Str.{IsCharBoundary-after_ascii, IsCharBoundary-before_ascii}
use Rattle.sgm_text.specs.Words.{has_bytes, is_space, words_of}

ascii : (b : ℕ) → is_space b ≡ true → b < 128
ascii b space = grind (arith, nat_tests)

-- a text may be cut before and behind a byte that is no word's
pub cut_before : (text : List ℕ) (k : ℕ) → k < length text → is_space (get_or text k 0) ≡ true → IsCharBoundary text k
cut_before text k inside space = IsCharBoundary-before_ascii text k inside (ascii (get_or text k 0) space)

pub cut_behind : (text : List ℕ) (k : ℕ) → IsUtf8 text → k < length text → is_space (get_or text k 0) ≡ true → IsCharBoundary text (k + 1)
cut_behind text k utf8 inside space = IsCharBoundary-after_ascii text k utf8 inside (ascii (get_or text k 0) space)

after_space : (b : ℕ) (bytes : List ℕ) → is_space b ≡ true → words_of (b ∷ bytes) ≡ words_of bytes
after_space b bytes space = ap (filter has_bytes) (slice_split-cons_yes is_space b bytes space)

-- over one byte more that is no word's
pub space_more : (bytes : List ℕ) (k : ℕ) → k < length bytes → is_space (get_or bytes k 0) ≡ true → words_of (drop (k + 1) bytes) ≡ words_of (drop k bytes)
space_more bytes k inside space =
    let next : k + 1 ≡ suc k = omega arith in
    ap (λ (n : ℕ). words_of (drop n bytes)) next
    ∙ sym (ap words_of (drop-cons bytes k 0 inside) ∙ after_space (get_or bytes k 0) (drop (suc k) bytes) space)

kept_word : (word : List ℕ) (words : List (List ℕ)) → 0 < length word → filter has_bytes (word ∷ words) ≡ word ∷ filter has_bytes words
kept_word [] words some = absurd (omega arith)
kept_word (b ∷ word) words some = refl

-- a run of bytes of a word that ends with the bytes
word_last : (word : List ℕ) → 0 < length word → All (λ b. is_space b ≡ false) word → words_of word ≡ word ∷ []
word_last word some black = ap (filter has_bytes) (slice_split_none is_space word black) ∙ kept_word word [] some

-- and one that ends before another byte
pub word_before : (word : List ℕ) (b : ℕ) (rest : List ℕ) → 0 < length word → All (λ b. is_space b ≡ false) word → is_space b ≡ true
    → words_of (word ++ b ∷ rest) ≡ word ∷ words_of rest
word_before word b rest some black space = ap (filter has_bytes) (slice_split_at is_space word b rest black space) ∙ kept_word word (slice_split is_space rest) some

black_run : (text : List ℕ) (n : ℕ) → n ≤ length text → ((k : ℕ) → k < n → is_space (get_or text k 0) ≡ false) → All (λ b. is_space b ≡ false) (take n text)
black_run text n within black k d inside =
    let before : k < n = omega (arith, length-take n text) in
    let same : get_or (take n text) k d ≡ get_or text k 0 = get_or-take n text k d before ∙ get_or_default text k d 0 (omega arith) in
    ap is_space same ∙ black k before

pub word_ends : (text : List ℕ) (n : ℕ) → 0 < n → n ≤ length text → ((k : ℕ) → k < n → is_space (get_or text k 0) ≡ false)
    → (n < length text → is_space (get_or text n 0) ≡ true) → words_of text ≡ take n text ∷ words_of (drop n text)
word_ends text n some within run ends =
    let black = black_run text n within run in
    let long : length (take n text) ≡ n = length-take-le n text within in
    elim (cases_lt n (length text)) [
      | inl inside ↦
          let next : drop n text ≡ get_or text n 0 ∷ drop (suc n) text = drop-cons text n 0 inside in
          ap words_of (sym (take-append-drop n text) ∙ ap (λ (t : List ℕ). take n text ++ t) next)
          ∙ word_before (take n text) (get_or text n 0) (drop (suc n) text) (omega (arith, long)) black (ends inside)
          ∙ ap (λ (t : List (List ℕ)). take n text ∷ t) (sym (ap words_of next ∙ after_space (get_or text n 0) (drop (suc n) text) (ends inside)))
      | inr past ↦
          let whole : take n text ≡ text = take_all n text past in
          let none : drop n text ≡ [] = drop_all n text past in
          ap words_of (sym whole) ∙ word_last (take n text) (omega (arith, long)) black
          ∙ ap (λ (t : List ℕ). take n text ∷ words_of t) (sym none)
    ]
