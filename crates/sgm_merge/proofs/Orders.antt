-- That the order of entries is free.
use Rattle.std.proofs.Common.{◌≡◌, ℕ, zero, suc, ◌+◌, List, [], ◌∷◌, length, Option, Some, None, ℤ, pos, ◌+ℤ◌, ◌-ℤ◌, ◌≤ℤ◌, refl, sym, ap, ap₂, ◌∙◌, arith}
use Rattle.std.specs.Prelude.{All, IfSome, filter_map, fold, sum_by}
use Rattle.std.specs.List.{cons_option}
use Rattle.std.specs.List.Sorted.{IsPermutation}
use Rattle.std.specs.Int.{int_max}
use borrow.Author.Differences.{up, down}
use Rattle.std.proofs.lemmas.Int.{clamps, fold-int_max_bounds, ints}
use Rattle.std.proofs.lemmas.List.Elements.{All-cons, All-head, All-nil, All-tail}
use Rattle.std.proofs.lemmas.List.Sums.{sum_by-cons}
use Rattle.std.proofs.lemmas.List.Sorted.{All-permutation, IsPermutation-sym, sum_by-IsPermutation}
use Rattle.sgm_base.specs.Rounding.{rounded}
use Rattle.sgm_grid.specs.declared.grid_spec.GridSpec.{GridSpec}
use Rattle.sgm_grid.specs.declared.keep.Keep.{Keep}
use Rattle.sgm_grid.specs.declared.keep.Keep.TheVariants.{Highest, Mean}
use Rattle.sgm_grid.specs.Cells.{Cells, cells_of}
use Rattle.sgm_grid.specs.Keeping.{kept, mean, total}
use Rattle.sgm_grid.specs.Points.{greatest}
use Rattle.sgm_merge.specs.Merged.{height_over, merged}
use Rattle.sgm_merge.proofs.Cellwise.{same_all}

-- how often there is a height, and how far above and below 0 it is
abbrev pub one : Option ℤ → ℕ
one None = 0
one (Some h) = 1

abbrev pub rise : Option ℤ → ℕ
rise None = 0
rise (Some h) = up h

abbrev pub fall : Option ℤ → ℕ
fall None = 0
fall (Some h) = down h

length-more : (o : Option ℤ) (hs : List ℤ) (n : ℕ) → length hs ≡ n → length (cons_option o hs) ≡ one o + n
length-more None hs n e = let same : n ≡ 0 + n = omega arith in e ∙ same
length-more (Some h) hs n e = let same : suc (length hs) ≡ 1 + n = omega arith in same

counted : {X : Type 0} (f : X → Option ℤ) (xs : List X) → length (filter_map f xs) ≡ sum_by (λ x. one (f x)) xs
counted f [] = refl
counted f (x ∷ xs) =
    length-more (f x) (filter_map f xs) (sum_by (λ x. one (f x)) xs) (counted f xs) ∙ sym (sum_by-cons (λ x. one (f x)) x xs)

abbrev pub less : ℤ → ℕ → ℕ → ℤ
less t rises falls = (t +ℤ pos rises) -ℤ pos falls

total-more : (o : Option ℤ) (hs : List ℤ) (rises falls : ℕ) → ((t : ℤ) → fold ◌+ℤ◌ t hs ≡ less t rises falls)
    → (t : ℤ) → fold ◌+ℤ◌ t (cons_option o hs) ≡ less t (rise o + rises) (fall o + falls)
total-more None hs rises falls rest t = rest t ∙ omega (arith, ints)
total-more (Some h) hs rises falls rest t =
    let more : less (t +ℤ h) rises falls ≡ less t (up h + rises) (down h + falls) = omega (arith, ints) in
    rest (t +ℤ h) ∙ more

totalled : {X : Type 0} (f : X → Option ℤ) (xs : List X) (t : ℤ)
    → fold ◌+ℤ◌ t (filter_map f xs) ≡ less t (sum_by (λ x. rise (f x)) xs) (sum_by (λ x. fall (f x)) xs)
totalled f [] t = omega (arith, ints)
totalled f (x ∷ xs) t =
    total-more (f x) (filter_map f xs) (sum_by (λ x. rise (f x)) xs) (sum_by (λ x. fall (f x)) xs) (totalled f xs) t
    ∙ sym (ap₂ (less t) (sum_by-cons (λ x. rise (f x)) x xs) (sum_by-cons (λ x. fall (f x)) x xs))

-- the mean of some heights, by their sum and their number
abbrev pub mean_by : ℤ → ℕ → Option ℤ
mean_by t zero = None
mean_by t (suc n) = Some (rounded t (pos (suc n)))

mean_is : (hs : List ℤ) → mean hs ≡ mean_by (total hs) (length hs)
mean_is [] = refl
mean_is (h ∷ hs) = refl

same_mean : {X : Type 0} (f : X → Option ℤ) (xs ys : List X) → IsPermutation xs ys → mean (filter_map f ys) ≡ mean (filter_map f xs)
same_mean f xs ys moved =
    let sums = ap₂ (λ (a b : ℕ). less (pos 0) a b) (sum_by-IsPermutation (λ x. rise (f x)) xs ys moved) (sum_by-IsPermutation (λ x. fall (f x)) xs ys moved) in
    let same_total : total (filter_map f ys) ≡ total (filter_map f xs) = totalled f ys (pos 0) ∙ sums ∙ sym (totalled f xs (pos 0)) in
    let same_count : length (filter_map f ys) ≡ length (filter_map f xs) = counted f ys ∙ sum_by-IsPermutation (λ x. one (f x)) xs ys moved ∙ sym (counted f xs) in
    mean_is (filter_map f ys) ∙ ap₂ mean_by same_total same_count ∙ sym (mean_is (filter_map f xs))

-- the heights of some cells are not above m
abbrev pub IsTop : ℤ → Option ℤ → Type 0
IsTop m o = IfSome o (λ h. h ≤ℤ m)

tops-more : (m : ℤ) (o : Option ℤ) (hs : List ℤ) → IsTop m o → All (λ h. h ≤ℤ m) hs → All (λ h. h ≤ℤ m) (cons_option o hs)
tops-more m None hs top rest = rest
tops-more m (Some h) hs top rest = All-cons (λ h. h ≤ℤ m) h hs top rest

tops_of : {X : Type 0} (f : X → Option ℤ) (m : ℤ) (xs : List X) → All (λ x. IsTop m (f x)) xs → All (λ h. h ≤ℤ m) (filter_map f xs)
tops_of f m [] tops = All-nil (λ h. h ≤ℤ m)
tops_of f m (x ∷ xs) tops =
    tops-more m (f x) (filter_map f xs) (All-head (λ x. IsTop m (f x)) x xs tops) (tops_of f m xs (All-tail (λ x. IsTop m (f x)) x xs tops))

top-first : (m : ℤ) (o : Option ℤ) (hs : List ℤ) → All (λ h. h ≤ℤ m) (cons_option o hs) → IsTop m o × All (λ h. h ≤ℤ m) hs
top-first m None hs tops = (tt, tops)
top-first m (Some h) hs tops = (All-head (λ h. h ≤ℤ m) h hs tops, All-tail (λ h. h ≤ℤ m) h hs tops)

tops_in : {X : Type 0} (f : X → Option ℤ) (m : ℤ) (xs : List X) → All (λ h. h ≤ℤ m) (filter_map f xs) → All (λ x. IsTop m (f x)) xs
tops_in f m [] tops = All-nil (λ x. IsTop m (f x))
tops_in f m (x ∷ xs) tops =
    let parts = top-first m (f x) (filter_map f xs) tops in
    All-cons (λ x. IsTop m (f x)) x xs parts.0 (tops_in f m xs parts.1)

least_top : (m h : ℤ) (hs : List ℤ) → h ≤ℤ m → All (λ z. z ≤ℤ m) hs → fold int_max h hs ≤ℤ m
least_top m h [] first rest = first
least_top m h (z ∷ hs) first rest =
    let second : z ≤ℤ m = All-head (λ z. z ≤ℤ m) z hs rest in
    let both : int_max h z ≤ℤ m = omega (arith, ints, clamps) in
    least_top m (int_max h z) hs both (All-tail (λ z. z ≤ℤ m) z hs rest)

-- two lists of heights of which what isn't below the one isn't below the other
same_greatest : (hs ks : List ℤ) → length hs ≡ length ks → ((m : ℤ) → All (λ h. h ≤ℤ m) hs → All (λ h. h ≤ℤ m) ks)
    → ((m : ℤ) → All (λ h. h ≤ℤ m) ks → All (λ h. h ≤ℤ m) hs) → greatest hs ≡ greatest ks
same_greatest [] [] count there back = refl
same_greatest [] (k ∷ ks) count there back = absurd (omega arith)
same_greatest (h ∷ hs) [] count there back = absurd (omega arith)
same_greatest (h ∷ hs) (k ∷ ks) count there back =
    let a = fold int_max h hs in
    let b = fold int_max k ks in
    let P : ℤ → ℤ → Type 0 = λ m z. z ≤ℤ m in
    let of_a = fold-int_max_bounds h hs a refl in
    let of_b = fold-int_max_bounds k ks b refl in
    let below_a = there a (All-cons (P a) h hs of_a.0 of_a.1) in
    let below_b = back b (All-cons (P b) k ks of_b.0 of_b.1) in
    let first : b ≤ℤ a = least_top a k ks (All-head (P a) k ks below_a) (All-tail (P a) k ks below_a) in
    let second : a ≤ℤ b = least_top b h hs (All-head (P b) h hs below_b) (All-tail (P b) h hs below_b) in
    let same : a ≡ b = omega (arith, ints) in
    ap Some same

pub same_kept : {X : Type 0} (keep : Keep) (f : X → Option ℤ) (xs ys : List X) → IsPermutation xs ys → kept keep (filter_map f ys) ≡ kept keep (filter_map f xs)
same_kept Mean f xs ys moved = same_mean f xs ys moved
same_kept Highest f xs ys moved =
    let same_count : length (filter_map f ys) ≡ length (filter_map f xs) = counted f ys ∙ sum_by-IsPermutation (λ x. one (f x)) xs ys moved ∙ sym (counted f xs) in
    same_greatest (filter_map f ys) (filter_map f xs) same_count
    (λ m tops. tops_of f m xs (All-permutation (λ x. IsTop m (f x)) ys xs (IsPermutation-sym xs ys moved) (tops_in f m ys tops)))
    (λ m tops. tops_of f m ys (All-permutation (λ x. IsTop m (f x)) xs ys moved (tops_in f m xs tops)))

pub order_is_free : (keep : Keep) (spec : GridSpec) (entries others : List Cells) → IsPermutation entries others
    → merged keep spec others ≡ merged keep spec entries
unfolding merged
order_is_free keep spec entries others moved =
    ap (cells_of spec) (same_all _ _ spec.cols spec.rows (λ col row. same_kept keep (λ entry. height_over spec entry col row) entries others moved))
