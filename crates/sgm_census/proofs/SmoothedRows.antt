-- Rows of smoothed codes and their middles.
use Rattle.std.proofs.Common.{◌≡◌, ◌≢◌, ℕ, ◌+◌, ◌-◌, ◌*◌, ◌/◌, ◌^◌, ◌<◌, ◌≤◌, Bool, true, false, List, map, length, take, drop, get_or, slice_index, Option, Some, None, is_some, unwrap_or, refl, sym, ap, ◌∙◌, subst, arith, inl, inr}
use Rattle.std.specs.List.{flat_map, list_all, range_with_len}
use Rattle.std.proofs.Math.Nat.{mul_comm, mul-le-mul_left, mul-le-mul_right, pow-le-pow_right}
use Rattle.std.proofs.lemmas.Bool.{cases_lt}
use Rattle.std.proofs.lemmas.Grind.{pow_more}
use Rattle.std.proofs.lemmas.List.{get_or_past, get_or-map, length-drop, length-take}
use Rattle.std.proofs.lemmas.List.Folds.{list_all_at}
use Rattle.std.proofs.lemmas.List.FromFn.{length-map-range_with_len}
use Rattle.std.proofs.lemmas.Nat.{mul-add-lt, row_fits}
use Rattle.std.proofs.lemmas.Simd.{map-map}
use Rattle.sgm_base.specs.Values.{Values, IsValues, value_at}
use Rattle.sgm_lanes.specs.Middles.{middle_of}
use Rattle.sgm_census.specs.Windows.{WindowSides, IsWindow, greatest_of}
use Rattle.sgm_census.specs.Codes.{middle_at, three_by_three, value_near, window_values}
use Rattle.sgm_census.specs.Packed.{pushed, unpacked, without, word_place}
use Rattle.sgm_census.specs.Smoothing.{word_by}
use Rattle.sgm_census.proofs.Bits.{pushed_below}
use Rattle.sgm_census.proofs.CodeLists.{part_at}
use Rattle.sgm_census.proofs.CodeRows.{HoldsRows, IsWritten, unpacked-is}
use Rattle.sgm_census.proofs.InWindow.{value_at-inside, value_near-inside}
use Rattle.sgm_census.proofs.PlainCodes.{flat_map-agree, map-flat_map, plain}
use Rattle.sgm_census.proofs.RowBits.{length-rows-le, pushed_small, words_room}
use Rattle.sgm_census.proofs.SmoothedCodes.{is_lower}

-- ---- words of a pixel's window, value by value

-- there is room for one bit more
pub near_room : (first word i wide : ℕ) (bs : List Bool) → word ≡ pushed first bs → length bs ≡ i → i < wide → (first + 1) * 2 ^ wide ≤ 2 ^ 63 → 2 * word + 2 ≤ 2 ^ 63
near_room first word i wide bs e long l room =
    let power : 2 ^ (i + 1) ≤ 2 ^ wide = pow-le-pow_right {n = 2} (omega arith) (omega arith) in
    let more : (first + 1) * 2 ^ (i + 1) ≤ (first + 1) * 2 ^ wide = mul-le-mul_left (first + 1) power in
    let twice : (first + 1) * 2 ^ (i + 1) ≡ (first + 1) * (2 ^ i * 2) = ap (λ z. (first + 1) * z) (pow_more 2 i) in
    let below : word + 1 ≤ (first + 1) * 2 ^ i = subst (λ n. word + 1 ≤ (first + 1) * 2 ^ n) long (subst (λ w. w + 1 ≤ (first + 1) * 2 ^ length bs) (sym e) (pushed_below first bs)) in
    omega (arith, below, twice, more, room)

-- whether each value of a row of a window, or own where it is missing, is less than the middle
abbrev pub near_row : Values → WindowSides → ℕ → ℕ → ℕ → ℕ → ℕ → List Bool
near_row plane window x y own middle j = map (λ i. is_lower own middle (value_near plane window x y i j)) (range_with_len 0 window.width)

pub rows_room : (plane : Values) (window : WindowSides) (x y own middle j word : ℕ) → IsWindow window.width window.height → j < window.height → word ≡ pushed 0 (flat_map (near_row plane window x y own middle) (range_with_len 0 j)) → (word + 1) * 2 ^ window.width ≤ 2 ^ 63
rows_room plane window x y own middle j word w h e =
    let rows = near_row plane window x y own middle in
    let bs = flat_map rows (range_with_len 0 j) in
    let long : length bs ≤ j * window.width =
    length-rows-le rows window.width 0 j (λ k. omega (arith, length-map-range_with_len (λ i. is_lower own middle (value_near plane window x y i k)) 0 window.width)) in
    words_room window.width window.height j word (omega (arith, w.wide)) (omega (arith, w.high)) h (subst (λ n. n < 2 ^ (j * window.width)) (sym e) (pushed_small (j * window.width) bs long))

pub word_by-rows : (plane : Values) (window : WindowSides) (x y own middle half word : ℕ) → half ≡ window.width * window.height / 2 → word ≡ pushed 0 (flat_map (near_row plane window x y own middle) (range_with_len 0 window.height))
    → without half word ≡ word_by plane window x y own middle
unfolding window_values
word_by-rows plane window x y own middle half word eh ew =
    ap (λ n. without n word) eh
    ∙ ap (without (window.width * window.height / 2)) (ew
    ∙ sym (ap (pushed 0) (map-flat_map (is_lower own middle) (λ j. map (λ i. value_near plane window x y i j) (range_with_len 0 window.width)) (range_with_len 0 window.height)
    ∙ flat_map-agree (λ j. map (is_lower own middle) (map (λ i. value_near plane window x y i j) (range_with_len 0 window.width))) (near_row plane window x y own middle) 0 window.height
    (λ j _ _. map-map (is_lower own middle) (λ i. value_near plane window x y i j) (range_with_len 0 window.width)))))

-- ---- a row that is completed from left to right; its codes stand from right to left

pub record CompletedTo (n width : ℕ) (code : ℕ → Option (List Bool)) (old_words : List ℕ) (old_present : List Bool) (words : List ℕ) (present : List Bool) (x : ℕ) : Type 0 where
  pub done : (z : ℕ) → z < width → z < x → unpacked n words present (width - 1 - z) ≡ code z
  pub words_left : (k : ℕ) → k + x < width → get_or words k 0 ≡ get_or old_words k 0
  pub present_left : (k : ℕ) → k + x < width → get_or present k false ≡ get_or old_present k false
  pub within : (k : ℕ) → slice_index words k < 2 ^ n

pub completed_kept : (n width : ℕ) (code : ℕ → Option (List Bool)) (old_words : List ℕ) (old_present : List Bool) (words : List ℕ) (present : List Bool) (x : ℕ)
    → CompletedTo n width code old_words old_present words present x → x < width → get_or present (width - 1 - x) false ≡ true
    → ((z : ℕ) → z < width → get_or old_present (width - 1 - z) false ≡ true → unpacked n old_words old_present (width - 1 - z) ≡ code z)
    → CompletedTo n width code old_words old_present words present (x + 1)
completed_kept n width code old_words old_present words present x k h e marked =
    record {
      done = λ z hz l. elim (cases_lt z x) [
        | inl b ↦ k.done z hz b
        | inr b ↦
            (let here : x ≡ z = omega arith in
            let place = width - 1 - x in
            subst (λ i. unpacked n words present (width - 1 - i) ≡ code i) here
            (unpacked-is n place place old_words words old_present present (k.words_left place (omega arith)) (k.present_left place (omega arith))
            ∙ marked x h (sym (k.present_left place (omega arith)) ∙ e)))
      ];
      words_left = λ i l. k.words_left i (omega arith);
      present_left = λ i l. k.present_left i (omega arith);
      within = k.within;
    }

pub completed_put : (n width : ℕ) (code : ℕ → Option (List Bool)) (old_words : List ℕ) (old_present : List Bool) (words : List ℕ) (present : List Bool) (new_words : List ℕ) (new_present : List Bool) (x : ℕ)
    → CompletedTo n width code old_words old_present words present x → x < width → unpacked n new_words new_present (width - 1 - x) ≡ code x
    → ((k : ℕ) → k ≢ (width - 1 - x) → get_or new_words k 0 ≡ get_or words k 0) → ((k : ℕ) → k ≢ (width - 1 - x) → get_or new_present k false ≡ get_or present k false)
    → slice_index new_words (width - 1 - x) < 2 ^ n
    → CompletedTo n width code old_words old_present new_words new_present (x + 1)
completed_put n width code old_words old_present words present new_words new_present x k h put ws ps small =
    record {
      done = λ z hz l. elim (cases_lt z x) [
        | inl b ↦
            (let place = width - 1 - z in
            unpacked-is n place place words new_words present new_present (ws place (omega arith)) (ps place (omega arith)) ∙ k.done z hz b)
        | inr b ↦
            (let here : x ≡ z = omega arith in
            subst (λ i. unpacked n new_words new_present (width - 1 - i) ≡ code i) here put)
      ];
      words_left = λ i l. ws i (omega arith) ∙ k.words_left i (omega arith);
      present_left = λ i l. ps i (omega arith) ∙ k.present_left i (omega arith);
      within = λ i. elim (cases_lt i (width - 1 - x)) [
        | inl l ↦ subst (λ v. v < 2 ^ n) (sym (ws i (omega arith))) (k.within i)
        | inr l ↦ elim (cases_lt (width - 1 - x) i) [
          | inl m ↦ subst (λ v. v < 2 ^ n) (sym (ws i (omega arith))) (k.within i)
          | inr m ↦ (let at : width - 1 - x ≡ i = omega arith in subst (λ j. slice_index new_words j < 2 ^ n) at small)
        ]
      ];
    }

-- ---- rows in the plane

-- a part that is written keeps all entries small
pub written_small : (limit n : ℕ) (old part new : List ℕ) → IsWritten n old part new 0 → ((k : ℕ) → get_or old k 0 < limit) → ((k : ℕ) → k < length part → get_or part k 0 < limit) → (k : ℕ) → get_or new k 0 < limit
written_small limit n old part new w small parts k = elim (cases_lt k n) [
  | inl l ↦ subst (λ v. v < limit) (sym (w.before k l)) (small k)
  | inr l ↦ elim (cases_lt k (n + length part)) [
    | inr j ↦ subst (λ v. v < limit) (sym (w.after k j)) (small k)
    | inl j ↦ (let at : n + (k - n) ≡ k = omega arith in subst (λ i. get_or new i 0 < limit) at (subst (λ v. v < limit) (sym (w.inside (k - n) (omega arith))) (parts (k - n) (omega arith))))
  ]
]

-- one whole row more
pub whole_row_more : (plane : Values) (window : WindowSides) (code : ℕ → ℕ → Option (List Bool)) (y : ℕ) (words part_words new_words : List ℕ) (present part_present new_present : List Bool)
    → length part_words ≡ plane.width → length part_present ≡ plane.width
    → IsWritten (y * plane.width) words part_words new_words 0 → IsWritten (y * plane.width) present part_present new_present false
    → ((k : ℕ) → slice_index part_words k < 2 ^ greatest_of window)
    → ((x : ℕ) → x < plane.width → unpacked (greatest_of window) part_words part_present (plane.width - 1 - x) ≡ code x y)
    → HoldsRows plane window code words present y → HoldsRows plane window code new_words new_present (y + 1)
whole_row_more plane window code y words part_words new_words present part_present new_present lw lp ww wp small codes h =
    let n = greatest_of window in
    let width = plane.width in
    let from = y * width in
    record {
      within = written_small (2 ^ n) from words part_words new_words ww h.within (λ k _. small k);
      done = λ x r hx hr l. elim (cases_lt r y) [
        | inl b ↦
            (let place : word_place width x r < from = omega (arith, row_fits r width y width b (omega arith)) in
            unpacked-is n (word_place width x r) (word_place width x r) words new_words present new_present (ww.before _ place) (wp.before _ place) ∙ h.done x r hx hr b)
        | inr b ↦
            (let here : r ≡ y = omega arith in
            let i = width - 1 - x in
            subst (λ q. unpacked n new_words new_present (word_place width x q) ≡ code x q) (sym here)
            (unpacked-is n (from + i) i part_words new_words part_present new_present (ww.inside i (omega arith)) (wp.inside i (omega arith)) ∙ codes x hx))
      ];
      left = λ k l. wp.after k (omega arith) ∙ h.left k (omega arith);
    }

-- a part of a list without marks has none
pub part_unset : (marks : List Bool) (from n : ℕ) → ((k : ℕ) → from ≤ k → get_or marks k false ≡ false) → (k : ℕ) → get_or (take n (drop from marks)) k false ≡ false
part_unset marks from n none k = elim (cases_lt k n) [
  | inl l ↦ part_at marks from n k false l ∙ none (from + k) (omega arith)
  | inr l ↦ get_or_past (take n (drop from marks)) k false (omega (arith, length-take n (drop from marks)))
]

-- ---- middles of a row between two rows that are all there

marked_at : (marks : List Bool) (b : Bool) (k : ℕ) → get_or marks k false ≡ b → k < length marks → list_all (λ t. t) marks ≡ true → get_or marks k false ≡ true
marked_at marks true k e h all = e
marked_at marks false k e h all =
    let none = list_all_at (λ t. t) marks k false h e in
    absurd (cc)

-- where a part of the marks is all set
pub set_in_part : (marks : List Bool) (from n k : ℕ) → list_all (λ t. t) (take n (drop from marks)) ≡ true → k < n → from + n ≤ length marks → get_or marks (from + k) false ≡ true
set_in_part marks from n k all h room =
    sym (part_at marks from n k false h)
    ∙ marked_at (take n (drop from marks)) (get_or (take n (drop from marks)) k false) k refl (omega (arith, length-take n (drop from marks), length-drop from marks)) all

filled : (own : ℕ) (o : Option ℕ) → is_some o ≡ true → unwrap_or o own ≡ plain o
filled own None e = absurd (cc)
filled own (Some v) e = refl

-- a value beside a pixel that is there
beside_there : (plane : Values) (values : List ℕ) (there : List Bool) (x y own i j z r : ℕ) → IsValues plane → values ≡ map plain plane.entries → there ≡ map is_some plane.entries
    → 1 ≤ x + i → 1 ≤ y + j → x + i - 1 ≡ z → y + j - 1 ≡ r → z < plane.width → r < plane.height → get_or there (r * plane.width + z) false ≡ true
    → unwrap_or (value_near plane three_by_three x y i j) own ≡ slice_index values (r * plane.width + z)
beside_there plane values there x y own i j z r v ev et hx hy ez er hz hr e =
    let at = r * plane.width + z in
    let inside : at < length plane.entries = omega (arith, mul-add-lt r plane.width z plane.height hr hz, v.full) in
    let value : value_near plane three_by_three x y i j ≡ get_or plane.entries at None =
    value_near-inside plane three_by_three x y i j z r (omega arith) (omega arith) (omega arith) (omega arith) ∙ value_at-inside plane z r hz hr in
    let some : is_some (get_or plane.entries at None) ≡ true = sym (get_or-map is_some plane.entries at None false inside) ∙ ap (λ us. get_or us at false) (sym et) ∙ e in
    ap (λ o. unwrap_or o own) value ∙ filled own (get_or plane.entries at None) some
    ∙ sym (get_or-map plain plane.entries at None 0 inside) ∙ ap (λ us. slice_index us at) (sym ev)

own_there : (plane : Values) (values : List ℕ) (x y own : ℕ) → IsValues plane → values ≡ map plain plane.entries → x < plane.width → y < plane.height → value_at plane x y ≡ Some own → own ≡ slice_index values (y * plane.width + x)
own_there plane values x y own v ev hx hy e =
    let at = y * plane.width + x in
    let inside : at < length plane.entries = omega (arith, mul-add-lt y plane.width x plane.height hy hx, v.full) in
    sym (ap (λ us. slice_index us at) ev ∙ get_or-map plain plane.entries at None 0 inside ∙ ap plain (sym (value_at-inside plane x y hx hy) ∙ e))

pub middle_of-same : (a b c d e a' b' c' d' e' : ℕ) → a ≡ a' → b ≡ b' → c ≡ c' → d ≡ d' → e ≡ e' → middle_of a b c d e ≡ middle_of a' b' c' d' e'
middle_of-same a b c d e a' b' c' d' e' p q r s t =
    ap (λ v. middle_of v b c d e) p ∙ ap (λ v. middle_of a' v c d e) q ∙ ap (λ v. middle_of a' b' v d e) r ∙ ap (λ v. middle_of a' b' c' v e) s ∙ ap (λ v. middle_of a' b' c' d' v) t

-- the middle of a pixel, of which the row and those above and below it are all there
pub middle_between : (plane : Values) (values : List ℕ) (there : List Bool) (x y own : ℕ) → IsValues plane → values ≡ map plain plane.entries → there ≡ map is_some plane.entries
    → 1 ≤ x → x + 1 < plane.width → 1 ≤ y → y + 1 < plane.height → ((r z : ℕ) → y ≤ r + 1 → r ≤ y + 1 → z < plane.width → get_or there (r * plane.width + z) false ≡ true)
    → value_at plane x y ≡ Some own
    → middle_of (slice_index values (y * plane.width + x)) (slice_index values (y * plane.width + (x + 1))) (slice_index values (y * plane.width + (x - 1)))
    (slice_index values ((y + 1) * plane.width + x)) (slice_index values ((y - 1) * plane.width + x))
    ≡ middle_at plane x y own
unfolding middle_at
middle_between plane values there x y own v ev et x1 x2 y1 y2 all e =
    let own_is = own_there plane values x y own v ev (omega arith) (omega arith) e in
    sym (middle_of-same own _ _ _ _ (slice_index values (y * plane.width + x)) (slice_index values (y * plane.width + (x + 1))) (slice_index values (y * plane.width + (x - 1)))
    (slice_index values ((y + 1) * plane.width + x)) (slice_index values ((y - 1) * plane.width + x))
    own_is
    (beside_there plane values there x y own 2 1 (x + 1) y v ev et (omega arith) (omega arith) (omega arith) (omega arith) (omega arith) (omega arith) (all y (x + 1) (omega arith) (omega arith) (omega arith)))
    (beside_there plane values there x y own 0 1 (x - 1) y v ev et (omega arith) (omega arith) (omega arith) (omega arith) (omega arith) (omega arith) (all y (x - 1) (omega arith) (omega arith) (omega arith)))
    (beside_there plane values there x y own 1 2 x (y + 1) v ev et (omega arith) (omega arith) (omega arith) (omega arith) (omega arith) (omega arith) (all (y + 1) x (omega arith) (omega arith) (omega arith)))
    (beside_there plane values there x y own 1 0 x (y - 1) v ev et (omega arith) (omega arith) (omega arith) (omega arith) (omega arith) (omega arith) (all (y - 1) x (omega arith) (omega arith) (omega arith))))

at_place : (r a b width wide : ℕ) → width ≡ wide → a ≡ b → r * width + a ≡ r * wide + b
at_place r a b width wide ew e = ap (λ w. r * w + a) ew ∙ ap (λ k. r * wide + k) e

-- the same as the code reads it
pub inner_middle : (plane : Values) (values : List ℕ) (there : List Bool) (width x y own m : ℕ) → IsValues plane → values ≡ map plain plane.entries → there ≡ map is_some plane.entries → width ≡ plane.width
    → 1 ≤ x → x + 1 < width → 1 ≤ y → y + 1 < plane.height → ((r z : ℕ) → y ≤ r + 1 → r ≤ y + 1 → z < width → get_or there (r * width + z) false ≡ true)
    → value_at plane x y ≡ Some own
    → m ≡ middle_of (slice_index values (y * width + (x - 1 + 1))) (slice_index values (y * width + (x - 1 + 2))) (slice_index values (y * width + (x - 1)))
    (slice_index values ((y + 1) * width + (x - 1 + 1))) (slice_index values ((y - 1) * width + (x - 1 + 1)))
    → m ≡ middle_at plane x y own
inner_middle plane values there width x y own m v ev et ew x1 x2 y1 y2 all e em =
    let wide = plane.width in
    let set : (r z : ℕ) → y ≤ r + 1 → r ≤ y + 1 → z < wide → get_or there (r * wide + z) false ≡ true =
    subst (λ w. (r z : ℕ) → y ≤ r + 1 → r ≤ y + 1 → z < w → get_or there (r * w + z) false ≡ true) ew all in
    em
    ∙ middle_of-same _ _ _ _ _ (slice_index values (y * wide + x)) (slice_index values (y * wide + (x + 1))) (slice_index values (y * wide + (x - 1))) (slice_index values ((y + 1) * wide + x)) (slice_index values ((y - 1) * wide + x))
    (ap (slice_index values) (at_place y (x - 1 + 1) x width wide ew (omega arith)))
    (ap (slice_index values) (at_place y (x - 1 + 2) (x + 1) width wide ew (omega arith)))
    (ap (slice_index values) (at_place y (x - 1) (x - 1) width wide ew refl))
    (ap (slice_index values) (at_place (y + 1) (x - 1 + 1) x width wide ew (omega arith)))
    (ap (slice_index values) (at_place (y - 1) (x - 1 + 1) x width wide ew (omega arith)))
    ∙ middle_between plane values there x y own v ev et x1 (omega arith) y1 y2 set e

row_sums : (q row width z : ℕ) → q * width + (row * width + z) ≡ (q + row) * width + z
row_sums q row width z = omega arith

three_rows : (q width : ℕ) → (q + 3) * width - q * width ≡ 3 * width
three_rows q width = omega arith

-- all marks of three rows
pub rows_set : (there : List Bool) (width height y n : ℕ) → 1 ≤ y → y + 1 < height → length there ≡ width * height → n ≡ (y + 2) * width - (y - 1) * width → list_all (λ t. t) (take n (drop ((y - 1) * width) there)) ≡ true
    → (r z : ℕ) → y ≤ r + 1 → r ≤ y + 1 → z < width → get_or there (r * width + z) false ≡ true
rows_set there width height y n y1 y2 long en all r z hr kr hz =
    let q = y - 1 in
    let row = r - q in
    let here : q + row ≡ r = omega arith in
    let last : y + 2 ≡ q + 3 = omega arith in
    let size : n ≡ 3 * width = en ∙ ap (λ m. m * width - q * width) last ∙ three_rows q width in
    let split : q * width + (row * width + z) ≡ r * width + z = row_sums q row width z ∙ ap (λ m. m * width + z) here in
    let few : q + 3 ≤ height = omega arith in
    let whole : q * width + n ≤ length there = omega (arith, mul-le-mul_right width few, size, long, mul_comm width height) in
    let below : row * width + z < n = omega (arith, mul-add-lt row width z 3 (omega arith) hz, size) in
    ap (λ k. get_or there k false) (sym split) ∙ set_in_part there (q * width) n (row * width + z) all below whole
