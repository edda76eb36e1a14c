-- The line of an entry, part by part.
use Rattle.std.proofs.Common.{◌≡◌, ℕ, List, ◌++◌, codes, decimal, ap, ◌∙◌, append_assoc}
use Rattle.sgm_series.specs.Lines.{entry_line}

-- parts that are added one by one
added : (front what word given line two three end : List ℕ) → line ≡ front ++ what → given ≡ word → two ≡ line ++ given → three ≡ two ++ end → three ≡ front ++ (what ++ word ++ end)
added front what word given line two three end first same second third =
    third
    ∙ ap (λ (x : List ℕ). x ++ end) (second ∙ ap (λ (x : List ℕ). line ++ x) same ∙ ap (λ (x : List ℕ). x ++ word) first ∙ append_assoc front what word)
    ∙ append_assoc front (what ++ word) end

-- what became of the entry, the word of its file, and the line's end
pub told : (entry : ℕ) (what word given line two three end : List ℕ) → line ≡ entry_line entry what → given ≡ word → two ≡ line ++ given → three ≡ two ++ end → three ≡ entry_line entry (what ++ word ++ end)
told entry what word given line two three end = added (codes "sgm_series: entry " ++ decimal entry) what word given line two three end
