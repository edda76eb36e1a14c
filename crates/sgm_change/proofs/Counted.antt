-- What one cell more makes of the counts of some cells, and one row more of those of the first rows.
use Rattle.std.proofs.Common.{◌≡◌, ℕ, zero, suc, ◌+◌, ◌*◌, ◌<◌, ◌≤◌, ◌++◌, List, [], ◌∷◌, length, ℤ, pos, ◌-ℤ◌, get_or, take, drop, append_assoc, take_all, Option, Some, refl, sym, ap, ◌∙◌, subst, arith, to_z, of_z, w32, w64}
use Rattle.std.specs.Prelude.{count_by, sum_by, unsigned_abs}
use Rattle.std.specs.List.{zip}
use Rattle.std.specs.Int.{int_max}
use Rattle.std.proofs.lemmas.Int.{ints, clamps}
use Rattle.std.proofs.lemmas.List.Sums.{sum_by_push}
use Rattle.std.proofs.lemmas.Slice.Zip.{length-zip}
use Rattle.std.proofs.lemmas.Nat.{mul-le}
use Rattle.std.proofs.Math.Seq.{take-add}
use Rattle.sgm_grid.specs.Cells.{Cells, IsHeight, row_of}
use Rattle.sgm_grid.specs.declared.grid_spec.GridSpec.{GridSpec}
use Rattle.sgm_report.specs.Sums.{most_apart}
use Rattle.sgm_report.specs.Tallies.{above, below, square}
use Rattle.sgm_report.proofs.Counted.{sum_by-times}
use Rattle.sgm_change.specs.Changes.{both_cells, changed_over, fall, has_come, has_gone, in_both, in_neither, rise}
use Rattle.sgm_change.specs.Counts.{HasRoom, counts_of}
use Rattle.sgm_change.specs.declared.compare.Changed.{Changed}
use Rattle.sgm_change.specs.declared.compare.Counts.{Counts}

abbrev pub counts_from : ℕ → ℕ → ℕ → ℕ → ℕ → ℕ → Counts
counts_from both come gone empty up down = record { both = both; come = come; gone = gone; empty = empty; risen = up; fallen = down }

same_counts : (a b c d e f a2 b2 c2 d2 e2 f2 : ℕ) → a ≡ a2 → b ≡ b2 → c ≡ c2 → d ≡ d2 → e ≡ e2 → f ≡ f2
    → counts_from a b c d e f ≡ counts_from a2 b2 c2 d2 e2 f2
same_counts a b c d e f a2 b2 c2 d2 e2 f2 pa pb pc pd pe pf =
    ap (λ (n : ℕ). counts_from n b c d e f) pa
    ∙ ap (λ (n : ℕ). counts_from a2 n c d e f) pb
    ∙ ap (λ (n : ℕ). counts_from a2 b2 n d e f) pc
    ∙ ap (λ (n : ℕ). counts_from a2 b2 c2 n e f) pd
    ∙ ap (λ (n : ℕ). counts_from a2 b2 c2 d2 n f) pe
    ∙ ap (λ (n : ℕ). counts_from a2 b2 c2 d2 e2 n) pf

-- a sum that a cell more raises, and one that it doesn't
sum_more : {X : Type 0} (f : X → ℕ) (xs : List X) (x : X) (n k : ℕ) → n ≡ sum_by f xs → k ≡ f x → n + k ≡ sum_by f (xs ++ x ∷ [])
sum_more f xs x n k e p = ap (λ (m : ℕ). m + k) e ∙ ap (λ (m : ℕ). sum_by f xs + m) p ∙ sym (sum_by_push f xs x)

sum_stays : {X : Type 0} (f : X → ℕ) (xs : List X) (x : X) (n : ℕ) → n ≡ sum_by f xs → f x ≡ 0 → n ≡ sum_by f (xs ++ x ∷ [])
sum_stays f xs x n e p = omega (arith, sum_by_push f xs x)

-- a cell more that has a height in both
pub with_both : (cells : List (Option ℤ × Option ℤ)) (s : Counts) (a b : ℤ) (up down : ℕ) → s ≡ counts_of cells
    → up ≡ above a b → down ≡ below a b
    → counts_from (s.both + 1) s.come s.gone s.empty (s.risen + up) (s.fallen + down) ≡ counts_of (cells ++ (Some a, Some b) ∷ [])
with_both cells s a b up down e pu pd =
    same_counts _ _ _ _ _ _ _ _ _ _ _ _
    (sum_more _ cells (Some a, Some b) s.both 1 (ap (λ (t : Counts). t.both) e) refl)
    (sum_stays _ cells (Some a, Some b) s.come (ap (λ (t : Counts). t.come) e) refl)
    (sum_stays _ cells (Some a, Some b) s.gone (ap (λ (t : Counts). t.gone) e) refl)
    (sum_stays _ cells (Some a, Some b) s.empty (ap (λ (t : Counts). t.empty) e) refl)
    (sum_more (λ cell. rise cell.0 cell.1) cells (Some a, Some b) s.risen up (ap (λ (t : Counts). t.risen) e) pu)
    (sum_more (λ cell. fall cell.0 cell.1) cells (Some a, Some b) s.fallen down (ap (λ (t : Counts). t.fallen) e) pd)

-- what the code computes of two heights
pub code_apart : (a b : ℤ) → IsHeight a → IsHeight b
    → to_z w64 (of_z w64 (to_z w64 (of_z w64 (to_z w32 (of_z w32 b))) -ℤ to_z w64 (of_z w64 (to_z w32 (of_z w32 a))))) ≡ b -ℤ a
code_apart a b pa pb = omega (arith, ints, pa.0, pa.1, pb.0, pb.1)

pub code_rise : (a b over : ℤ) → IsHeight a → IsHeight b
    → over ≡ int_max (to_z w64 (of_z w64 (to_z w64 (of_z w64 (to_z w32 (of_z w32 b))) -ℤ to_z w64 (of_z w64 (to_z w32 (of_z w32 a)))))) (pos 0)
    → unsigned_abs (to_z w64 (of_z w64 over)) ≡ above a b
code_rise a b over pa pb e =
    let same : to_z w64 (of_z w64 over) ≡ int_max (pos 0) (b -ℤ a) = omega (arith, ints, clamps, pa.0, pa.1, pb.0, pb.1) in
    ap unsigned_abs same

pub code_fall : (a b under : ℤ) → IsHeight a → IsHeight b
    → under ≡ int_max (to_z w64 (of_z w64 (pos 0 -ℤ to_z w64 (of_z w64 (to_z w64 (of_z w64 (to_z w32 (of_z w32 b))) -ℤ to_z w64 (of_z w64 (to_z w32 (of_z w32 a)))))))) (pos 0)
    → unsigned_abs (to_z w64 (of_z w64 under)) ≡ below a b
code_fall a b under pa pb e =
    let same : to_z w64 (of_z w64 under) ≡ int_max (pos 0) (a -ℤ b) = omega (arith, ints, clamps, pa.0, pa.1, pb.0, pb.1) in
    ap unsigned_abs same

-- two heights more take the room of one cell
pub room_after : (s : Counts) (up down left : ℕ) → up ≤ most_apart → down ≤ most_apart → HasRoom s (left + 1)
    → HasRoom (counts_from (s.both + 1) s.come s.gone s.empty (s.risen + up) (s.fallen + down)) left
room_after s up down left pu pd room = record {
  cells = omega (arith, room.cells);
  rises = omega (arith, room.rises);
  falls = omega (arith, room.falls);
}

pub room_less : (s : Counts) (many few : ℕ) → few ≤ many → HasRoom s many → HasRoom s few
room_less s many few le room = record {
  cells = omega (arith, room.cells);
  rises = omega (arith, room.rises);
  falls = omega (arith, room.falls);
}

abbrev pub changed_from : ℕ → ℕ → ℕ → ℕ → ℕ → ℕ → Changed
changed_from both come gone empty fill cut = record { both = both; come = come; gone = gone; empty = empty; fill = fill; cut = cut }

-- the volumes are the heights together, by the ground of a cell
pub changed_is : (side : ℤ) (ground : ℕ) (cells : List (Option ℤ × Option ℤ)) (s : Counts) → s ≡ counts_of cells → ground ≡ square side
    → changed_from s.both s.come s.gone s.empty (s.risen * ground) (s.fallen * ground) ≡ changed_over side cells
changed_is side ground cells s e g =
    ap (λ (t : Counts). changed_from t.both t.come t.gone t.empty (t.risen * ground) (t.fallen * ground)) e
    ∙ ap (λ (n : ℕ). changed_from (count_by in_both cells) (count_by has_come cells) (count_by has_gone cells) (count_by in_neither cells)
    (sum_by (λ cell. rise cell.0 cell.1) cells * n) (sum_by (λ cell. fall cell.0 cell.1) cells * n)) g
    ∙ ap (λ (n : ℕ). changed_from (count_by in_both cells) (count_by has_come cells) (count_by has_gone cells) (count_by in_neither cells)
    n (sum_by (λ cell. fall cell.0 cell.1) cells * square side)) (sym (sum_by-times (λ cell. rise cell.0 cell.1) (square side) cells))
    ∙ ap (λ (n : ℕ). changed_from (count_by in_both cells) (count_by has_come cells) (count_by has_gone cells) (count_by in_neither cells)
    (sum_by (λ cell. rise cell.0 cell.1 * square side) cells) n) (sym (sum_by-times (λ cell. fall cell.0 cell.1) (square side) cells))

zip_suc : {A B : Type 0} (xs : List A) (ys : List B) (k : ℕ) (x : A) (y : B) → k < length xs → k < length ys → x ≡ get_or xs k x → y ≡ get_or ys k y
    → zip (take (suc k) xs) (take (suc k) ys) ≡ zip (take k xs) (take k ys) ++ (x, y) ∷ []
zip_suc [] ys k x y hx hy ex ey = absurd (omega arith)
zip_suc (a ∷ xs) [] k x y hx hy ex ey = absurd (omega arith)
zip_suc {A} {B} (a ∷ xs) (b ∷ ys) zero x y hx hy ex ey = ap (λ (t : A). (t, b) ∷ []) (sym ex) ∙ ap (λ (t : B). (x, t) ∷ []) (sym ey)
zip_suc {A} {B} (a ∷ xs) (b ∷ ys) (suc k) x y hx hy ex ey =
    ap (λ (t : List (A × B)). (a, b) ∷ t) (zip_suc xs ys k x y (omega arith) (omega arith) ex ey)

-- the first cells of both rows, and the next
pub zip_more : {A B : Type 0} (xs : List A) (ys : List B) (k : ℕ) (x : A) (y : B) → k < length xs → k < length ys → x ≡ get_or xs k x → y ≡ get_or ys k y
    → zip (take (k + 1) xs) (take (k + 1) ys) ≡ zip (take k xs) (take k ys) ++ (x, y) ∷ []
zip_more xs ys k x y hx hy ex ey =
    let next : k + 1 ≡ suc k = omega arith in
    ap (λ (n : ℕ). zip (take n xs) (take n ys)) next ∙ zip_suc xs ys k x y hx hy ex ey

zip_none : {A B : Type 0} (xs : List A) → zip {K = A} {X = B} xs [] ≡ []
zip_none [] = refl
zip_none (x ∷ xs) = refl

pub take_zip : {A B : Type 0} (n : ℕ) (xs : List A) (ys : List B) → take n (zip xs ys) ≡ zip (take n xs) (take n ys)
take_zip zero xs ys = refl
take_zip (suc n) [] ys = refl
take_zip (suc n) (x ∷ xs) [] = refl
take_zip {A} {B} (suc n) (x ∷ xs) (y ∷ ys) = ap (λ (t : List (A × B)). (x, y) ∷ t) (take_zip n xs ys)

pub drop_zip : {A B : Type 0} (n : ℕ) (xs : List A) (ys : List B) → drop n (zip xs ys) ≡ zip (drop n xs) (drop n ys)
drop_zip zero xs ys = refl
drop_zip (suc n) [] ys = refl
drop_zip {A} {B} (suc n) (x ∷ xs) [] = sym (zip_none (drop n xs))
drop_zip (suc n) (x ∷ xs) (y ∷ ys) = drop_zip n xs ys

-- the counts of one row more
pub counts_more : (earlier later : Cells) (counts after : Counts) (n : ℕ) (before_row after_row : List (Option ℤ))
    → earlier.spec ≡ later.spec → before_row ≡ row_of earlier n → after_row ≡ row_of later n
    → counts ≡ counts_of (take (n * earlier.spec.cols) (both_cells earlier later))
    → ((cells : List (Option ℤ × Option ℤ)) → counts ≡ counts_of cells → after ≡ counts_of (cells ++ zip before_row after_row))
    → after ≡ counts_of (take ((n + 1) * earlier.spec.cols) (both_cells earlier later))
counts_more earlier later counts after n before_row after_row same is1 is2 so_far step =
    let cols = earlier.spec.cols in
    let z = both_cells earlier later in
    let first = take (n * cols) z in
    let wide : (n + 1) * cols ≡ n * cols + cols = omega arith in
    let late : row_of later n ≡ take cols (drop (n * cols) later.heights) =
    ap (λ (s : GridSpec). take s.cols (drop (n * s.cols) later.heights)) (sym same) in
    let part : take cols (drop (n * cols) z) ≡ zip before_row after_row =
    ap (λ (t : List (Option ℤ × Option ℤ)). take cols t) (drop_zip (n * cols) earlier.heights later.heights)
    ∙ take_zip cols (drop (n * cols) earlier.heights) (drop (n * cols) later.heights)
    ∙ ap (λ (t : List (Option ℤ)). zip t (take cols (drop (n * cols) later.heights))) (sym is1)
    ∙ ap (λ (t : List (Option ℤ)). zip before_row t) (sym (is2 ∙ late)) in
    step first so_far
    ∙ ap (λ (t : List (Option ℤ × Option ℤ)). counts_of (first ++ t)) (sym part)
    ∙ ap counts_of (sym (take-add (n * cols) cols z))
    ∙ ap (λ (m : ℕ). counts_of (take m z)) (sym wide)

-- no cells leave the room of a grid
pub room_at_first : (s : Counts) (cols rows : ℕ) → s ≡ counts_of [] → cols ≤ 4096 → rows ≤ 4096 → HasRoom s (rows * cols)
room_at_first s cols rows e hc hr =
    let most : rows * cols ≤ 4096 * 4096 = mul-le rows cols 4096 4096 hr hc in
    subst (λ (t : Counts). HasRoom t (rows * cols)) (sym e) (record {
      cells = omega (arith, most);
      rises = omega (arith, most);
      falls = omega (arith, most);
    })

-- all cells of both grids
pub all_cells : (earlier later : Cells) (n : ℕ) → length earlier.heights ≡ earlier.spec.cols * earlier.spec.rows → n ≡ earlier.spec.rows
    → take (n * earlier.spec.cols) (both_cells earlier later) ≡ both_cells earlier later
all_cells earlier later n full e =
    let whole : n * earlier.spec.cols ≡ length earlier.heights = ap (λ (m : ℕ). m * earlier.spec.cols) e ∙ omega (arith, full) in
    take_all (n * earlier.spec.cols) (both_cells earlier later) (omega (arith, length-zip earlier.heights later.heights))

-- the counts of one cell more of a row
pub row_more : (before sums after : Counts) (xs ys : List (Option ℤ)) (k : ℕ) (x y : Option ℤ)
    → zip (take (k + 1) xs) (take (k + 1) ys) ≡ zip (take k xs) (take k ys) ++ (x, y) ∷ []
    → ((cells : List (Option ℤ × Option ℤ)) → before ≡ counts_of cells → sums ≡ counts_of (cells ++ zip (take k xs) (take k ys)))
    → ((cells : List (Option ℤ × Option ℤ)) → sums ≡ counts_of cells → after ≡ counts_of (cells ++ (x, y) ∷ []))
    → (cells : List (Option ℤ × Option ℤ)) → before ≡ counts_of cells → after ≡ counts_of (cells ++ zip (take (k + 1) xs) (take (k + 1) ys))
row_more before sums after xs ys k x y more so_far step cells e =
    step (cells ++ zip (take k xs) (take k ys)) (so_far cells e)
    ∙ ap counts_of (append_assoc cells (zip (take k xs) (take k ys)) ((x, y) ∷ []))
    ∙ ap (λ (t : List (Option ℤ × Option ℤ)). counts_of (cells ++ t)) (sym more)

-- the first cells of a row and the next of both, as many as there are
pub zip_all : {A B : Type 0} (k : ℕ) (xs : List A) (ys : List B) → length xs ≤ k → length ys ≤ k → zip (take k xs) (take k ys) ≡ zip xs ys
zip_all {A} {B} k xs ys hx hy =
    ap (λ (t : List A). zip t (take k ys)) (take_all k xs hx) ∙ ap (λ (t : List B). zip xs t) (take_all k ys hy)
