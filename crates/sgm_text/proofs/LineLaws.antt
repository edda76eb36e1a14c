-- The first line of a text.
use Rattle.std.proofs.Common.{◌≡◌, ℕ, ◌<◌, ◌==◌, List, [], ◌∷◌, length, sym, ◌∙◌, arith}
use Rattle.std.specs.List.{position_or_len, before_first, after_first}
use Rattle.std.proofs.lemmas.List.Splits.{slice_split_none, slice_split_first}
use Rattle.std.proofs.lemmas.List.Sums.{fails_before_first}
use Rattle.sgm_text.specs.Words.{lines_of}

-- before the first LF and behind it
pub line_before : (text line rest : List ℕ) → line ≡ before_first (λ b. b == 10) text → rest ≡ after_first (λ b. b == 10) text
    → position_or_len (λ b. b == 10) text < length text → lines_of text ≡ line ∷ lines_of rest
line_before text line rest front back inside =
    slice_split_first (λ b. b == 10) text 0 inside ∙ (λ i. sym front i ∷ lines_of (sym back i))

-- no LF
pub line_last : (text : List ℕ) → position_or_len (λ b. b == 10) text ≡ length text → lines_of text ≡ text ∷ []
line_last text none =
    slice_split_none (λ b. b == 10) text (λ k d inside. fails_before_first (λ b. b == 10) text k d (omega arith))
