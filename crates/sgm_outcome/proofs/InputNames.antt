-- What an input is called, part by part.
use Rattle.std.proofs.Common.{◌≡◌, ℕ, List, ◌++◌, Option, Some, None, codes, decimal, sym, ap, ◌∙◌, append_assoc}
use Rattle.sgm_words.specs.Files.{input_name, input_number, input_word, numbered}
use Rattle.sgm_words.specs.declared.files.Input.{Input}

-- an input that is one of many
pub name_with : (input : Input) (line : List ℕ) (number : ℕ) → Some number ≡ input_number input
    → ((line ++ input_word input) ++ codes " ") ++ decimal number ≡ line ++ input_name input
name_with input line number is =
    append_assoc (line ++ input_word input) (codes " ") (decimal number)
    ∙ append_assoc line (input_word input) (codes " " ++ decimal number)
    ∙ ap (λ (name : List ℕ). line ++ name) (sym (append_assoc (input_word input) (codes " ") (decimal number)))
    ∙ ap (λ (n : Option ℕ). line ++ numbered (input_word input) n) is

-- another input
pub name_alone : (input : Input) (line : List ℕ) → None ≡ input_number input → line ++ input_word input ≡ line ++ input_name input
name_alone input line is = ap (λ (n : Option ℕ). line ++ numbered (input_word input) n) is
