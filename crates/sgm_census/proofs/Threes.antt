-- Three bits of a row of a window at once, and rows with all their marks.
use Rattle.std.proofs.Common.{◌≡◌, ℕ, ◌+◌, ◌-◌, ◌*◌, ◌<◌, ◌≤◌, Bool, true, false, ltb, ◌&&◌, List, ◌∷◌, length, take, drop, get_or, refl, sym, ap, ◌∙◌, arith}
use Rattle.std.specs.Int.{from_bool}
use Rattle.std.specs.List.{list_all}
use Rattle.std.proofs.Math.Seq.{take-add}
use Rattle.std.proofs.lemmas.List.{drop_more, drop-take, drop-drop, take-take, take-append-drop, map-append}
use Rattle.std.proofs.lemmas.List.Folds.{list_all-append}
use Rattle.sgm_census.specs.Packed.{pushed, lesser}
use Rattle.sgm_census.proofs.LessThan.{pushed-append}

-- three neighbours
three_at : (values : List ℕ) (k : ℕ) → k + 2 < length values → drop k values ≡ get_or values k 0 ∷ (get_or values (k + 1) 0 ∷ (get_or values (k + 2) 0 ∷ drop (k + 3) values))
three_at values k h =
    let two : k + 1 + 1 ≡ k + 2 = omega arith in
    let three : k + 2 + 1 ≡ k + 3 = omega arith in
    drop_more values k 0 (omega arith)
    ∙ ap (λ us. get_or values k 0 ∷ us) (drop_more values (k + 1) 0 (omega arith)
    ∙ ap (λ us. get_or values (k + 1) 0 ∷ us) (ap (λ n. drop n values) two ∙ drop_more values (k + 2) 0 h
    ∙ ap (λ n. get_or values (k + 2) 0 ∷ drop n values) three))

-- a word with their bits
pub pushed_three : (c word k : ℕ) (values : List ℕ) → k + 2 < length values
    → 2 * (2 * (2 * word + from_bool (ltb (get_or values k 0) c)) + from_bool (ltb (get_or values (k + 1) 0) c)) + from_bool (ltb (get_or values (k + 2) 0) c) ≡ pushed word (lesser c (take 3 (drop k values)))
pushed_three c word k values h = sym (ap (λ us. pushed word (lesser c (take 3 us))) (three_at values k h))

-- a bit
pub bit_small : (n : ℕ) (b : Bool) → n ≡ from_bool b → n ≤ 1
bit_small n true e = omega (arith, e)
bit_small n false e = omega (arith, e)

-- three bits, pushed at once
pub three_bits : (word a b c x y z pushed : ℕ) → a ≡ x → b ≡ y → c ≡ z → 2 * (2 * (2 * word + x) + y) + z ≡ pushed → 8 * word + ((4 * a + 2 * b) + c) ≡ pushed
three_bits word a b c x y z pushed ex ey ez e = omega (arith, ex, ey, ez, e)

-- a row of a window with three values more
pub places_more : (c k n m at bits more : ℕ) (values : List ℕ) → m ≡ n + 3 → at ≡ k + n → bits ≡ pushed 0 (lesser c (take n (drop k values))) → more ≡ pushed bits (lesser c (take 3 (drop at values)))
    → more ≡ pushed 0 (lesser c (take m (drop k values)))
places_more c k n m at bits more values em ea e f =
    f ∙ ap (λ us. pushed bits (lesser c (take 3 us))) (ap (λ w. drop w values) ea ∙ sym (drop-drop n k values))
    ∙ ap (λ w. pushed w (lesser c (take 3 (drop n (drop k values))))) e
    ∙ sym (ap (λ w. pushed 0 (lesser c (take w (drop k values)))) em ∙ ap (λ us. pushed 0 (lesser c us)) (take-add n 3 (drop k values))
    ∙ ap (pushed 0) (map-append (λ v. ltb v c) (take n (drop k values)) (take 3 (drop n (drop k values))))
    ∙ pushed-append 0 (lesser c (take n (drop k values))) (lesser c (take 3 (drop n (drop k values)))))

-- the same, where the three are read from a part of the row
pub threes_more : (c : ℕ) (row : List ℕ) (k at next n bits more : ℕ) → next ≡ at + 3 → k + 3 ≤ n → bits ≡ pushed 0 (lesser c (take at (drop k row)))
    → more ≡ pushed bits (lesser c (take 3 (drop k (take n (drop at row))))) → more ≡ pushed 0 (lesser c (take next (drop k row)))
threes_more c row k at next n bits more en h e f =
    let m = n - k in
    let whole : n ≡ k + m = omega arith in
    let few : 3 ≤ m = omega arith in
    let order : at + k ≡ k + at = omega arith in
    places_more c k at next (k + at) bits more row en refl e
    (f ∙ ap (λ us. pushed bits (lesser c us)) (ap (λ w. take 3 (drop k (take w (drop at row)))) whole ∙ ap (take 3) (drop-take k m (drop at row))
    ∙ take-take 3 m (drop k (drop at row)) few ∙ ap (take 3) (drop-drop k at row ∙ ap (λ w. drop w row) order)))

both : (a b : Bool) → (a && b) ≡ true → (a ≡ true) × (b ≡ true)
both true b e = (refl, e)
both false b e = cc

kept : (a b : Bool) → b ≡ true → a ≡ (a && b)
kept true b e = sym e
kept false b e = refl

-- where all marks of a row are set, those of a part of it are
pub marks_kept : (mark : Bool) (row : List Bool) (from n : ℕ) → list_all (λ t. t) row ≡ true → mark ≡ (mark && list_all (λ t. t) (take n (drop from row)))
marks_kept mark row from n e =
    let rest = both _ _ (sym (list_all-append (λ t. t) (take from row) (drop from row)) ∙ ap (list_all (λ t. t)) (take-append-drop from row) ∙ e) in
    let part = both _ _ (sym (list_all-append (λ t. t) (take n (drop from row)) (drop n (drop from row))) ∙ ap (list_all (λ t. t)) (take-append-drop n (drop from row)) ∙ rest.1) in
    kept mark (list_all (λ t. t) (take n (drop from row))) part.0
