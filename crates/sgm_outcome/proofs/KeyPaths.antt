-- The path of a key, part by part.
use Rattle.std.proofs.Common.{◌≡◌, ℕ, List, ◌++◌, Bool, true, false, if◌then◌else◌, decimal, sym, ap, ◌∙◌, append_assoc}
use Rattle.sgm_calib.specs.Paths.{has_index, front_of, back_of, path_of}
use Rattle.sgm_calib.specs.declared.keys.Key.{Key}

-- a key of a region
pub path_with : (key : Key) (line one two three : List ℕ) → has_index key.number ≡ true → one ≡ line ++ front_of key.number → two ≡ one ++ decimal key.index → three ≡ two ++ back_of key.number → three ≡ line ++ path_of key
unfolding path_of
path_with key line one two three is first second third =
    let front = front_of key.number in let digits = decimal key.index in let back = back_of key.number in
    let path : (if has_index key.number then front ++ digits ++ back else front) ≡ front ++ digits ++ back = ap (λ (b : Bool). if b then front ++ digits ++ back else front) is in
    third ∙ ap (λ (x : List ℕ). x ++ back) (second ∙ ap (λ (x : List ℕ). x ++ digits) first ∙ append_assoc line front digits) ∙ append_assoc line (front ++ digits) back
    ∙ sym (ap (λ (x : List ℕ). line ++ x) path)

-- another key
pub path_without : (key : Key) (line one : List ℕ) → has_index key.number ≡ false → one ≡ line ++ front_of key.number → one ≡ line ++ path_of key
unfolding path_of
path_without key line one is first =
    let front = front_of key.number in
    let path : (if has_index key.number then front ++ decimal key.index ++ back_of key.number else front) ≡ front = ap (λ (b : Bool). if b then front ++ decimal key.index ++ back_of key.number else front) is in
    first ∙ sym (ap (λ (x : List ℕ). line ++ x) path)
