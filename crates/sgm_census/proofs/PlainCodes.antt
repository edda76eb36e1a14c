-- The codes of a plane from its plain values and the marks of those that are there.
use Rattle.std.proofs.Common.{◌≡◌, ℕ, zero, suc, ◌+◌, ◌-◌, ◌*◌, ◌/◌, ◌^◌, ◌<◌, ◌≤◌, Bool, true, false, cond, ltb, List, [], ◌∷◌, ◌++◌, map, length, take, drop, get_or, slice_index, Option, Some, None, is_some, unwrap_or, option_map, refl, sym, ap, ◌∙◌, arith}
use Rattle.std.specs.List.{flat_map, list_all, range_with_len, remove}
use Rattle.std.proofs.lemmas.List.{get_or-map, length-map, map-append, take-map, drop-map}
use Rattle.std.proofs.lemmas.Nat.{mul-add-lt}
use Rattle.sgm_base.specs.Values.{Values, IsValues, row_of, value_at}
use Rattle.sgm_census.specs.Windows.{WindowSides, IsWindow, greatest_of}
use Rattle.sgm_census.specs.Codes.{all_there, less_than, window_values, code_at}
use Rattle.sgm_census.specs.Packed.{all_in, bits_of, centre_in, in_rows, lesser, pushed, unpacked, without, word_in, word_to}
use Rattle.sgm_census.proofs.Bits.{bits_of-none, bits_of-pushed, bits_of-without, without_small}
use Rattle.sgm_census.proofs.Centres.{middle, is_middle, get_or-middle, code_at-there, code_at-void}
use Rattle.sgm_census.proofs.InWindow.{Fits, window_row, window_row-slice, length-window_values, value_at-inside}
use Rattle.sgm_census.proofs.RowBits.{length-lesser, pushed_small, length-in_rows}

-- the value of a pixel, 0 where it is void
abbrev pub plain : Option ℕ → ℕ
plain o = unwrap_or o 0

-- ---- windows of a list that was made entry by entry

pub map-flat_map : {X Y Z : Type 0} (f : Y → Z) (g : X → List Y) (xs : List X) → map f (flat_map g xs) ≡ flat_map (λ x. map f (g x)) xs
map-flat_map f g [] = refl
map-flat_map f g (x ∷ xs) = map-append f (g x) (flat_map g xs) ∙ ap (λ us. map f (g x) ++ us) (map-flat_map f g xs)

pub flat_map-agree : {X : Type 0} (f g : ℕ → List X) (a n : ℕ) → ((j : ℕ) → a ≤ j → j < a + n → f j ≡ g j) → flat_map f (range_with_len a n) ≡ flat_map g (range_with_len a n)
flat_map-agree f g a zero h = refl
flat_map-agree f g a (suc n) h =
    ap (λ us. us ++ flat_map f (range_with_len (a + 1) n)) (h a (omega arith) (omega arith))
    ∙ ap (λ us. g a ++ us) (flat_map-agree f g (a + 1) n (λ j l m. h j (omega arith) (omega arith)))

pub in_rows-is : {X : Type 0} (f : Option ℕ → X) (plane : Values) (window : WindowSides) (x y from top : ℕ) → IsValues plane → IsWindow window.width window.height → Fits plane window x y → from ≡ x - window.width / 2 → top ≡ y - window.height / 2
    → in_rows plane.width (map f plane.entries) window from top ≡ map f (window_values plane window x y)
unfolding window_values
in_rows-is f plane window x y from top v w fits ef et =
    flat_map-agree (λ j. take window.width (drop from (take plane.width (drop ((top + j) * plane.width) (map f plane.entries))))) (λ j. map f (window_row plane window x y j)) 0 window.height
    (λ j _ l.
    let r = top + j in
    ap (λ us. take window.width (drop from (take plane.width us))) (drop-map f (r * plane.width) plane.entries)
    ∙ ap (λ us. take window.width (drop from us)) (take-map f plane.width (drop (r * plane.width) plane.entries))
    ∙ ap (take window.width) (drop-map f from (row_of plane r))
    ∙ take-map f window.width (drop from (row_of plane r))
    ∙ ap (map f) (window_row-slice plane window x y j r from window.width v w fits (omega arith) (omega arith) ef refl))
    ∙ sym (map-flat_map f (window_row plane window x y) (range_with_len 0 window.height))

-- ---- values that are all there

cond_map : {X Y : Type 0} (f : X → Y) (b : Bool) (x : X) → option_map f (cond b (Some x) None) ≡ cond b (Some (f x)) None
cond_map f true x = refl
cond_map f false x = refl

all_there-plain : (xs : List (Option ℕ)) → all_there xs ≡ cond (list_all (λ t. t) (map is_some xs)) (Some (map plain xs)) None
all_there-plain [] = refl
all_there-plain (None ∷ xs) = refl
all_there-plain (Some x ∷ xs) =
    ap (option_map (λ ys. x ∷ ys)) (all_there-plain xs) ∙ cond_map (λ ys. x ∷ ys) (list_all (λ t. t) (map is_some xs)) (map plain xs)

less_than-plain : (c : ℕ) (xs : List (Option ℕ)) → less_than c xs ≡ cond (list_all (λ t. t) (map is_some xs)) (Some (lesser c (map plain xs))) None
unfolding less_than
less_than-plain c xs =
    ap (option_map (map (λ v. ltb v c))) (all_there-plain xs) ∙ cond_map (map (λ v. ltb v c)) (list_all (λ t. t) (map is_some xs)) (map plain xs)

not_all : (xs : List (Option ℕ)) (k : ℕ) → k < length xs → get_or xs k None ≡ None → list_all (λ t. t) (map is_some xs) ≡ false
not_all [] k h e = absurd (omega arith)
not_all (None ∷ xs) k h e = refl
not_all (Some x ∷ xs) zero h e = absurd (cc)
not_all (Some x ∷ xs) (suc k) h e = not_all xs k (omega arith) e

-- ---- the code of a pixel

-- the word of a window without its centre
abbrev window_code : WindowSides → ℕ → List (Option ℕ) → ℕ
window_code window c values = without (middle window) (pushed 0 (lesser c (map plain values)))

code_of_all : (window : WindowSides) (c : ℕ) (values : List (Option ℕ)) (all : Bool) → IsWindow window.width window.height → length values ≡ window.height * window.width → less_than c values ≡ cond all (Some (lesser c (map plain values))) None
    → cond all (Some (bits_of (greatest_of window) (window_code window c values))) None ≡ option_map (λ bs. remove bs (middle window)) (less_than c values)
code_of_all window c values false w long e = sym (ap (option_map (λ bs. remove bs (middle window))) e)
code_of_all window c values true w long e =
    let m = middle window in
    let size = window.width * window.height in
    let twice : size ≡ 2 * m + 1 = (is_middle window.width window.height w).twice in
    let bs = lesser c (map plain values) in
    let count : size ≡ 0 + length bs = omega (arith, length-lesser c (map plain values), length-map values plain) in
    let bits : bits_of size (pushed 0 bs) ≡ bs = bits_of-pushed 0 0 size bs count ∙ ap (λ us. us ++ bs) (bits_of-none 0) in
    ap (λ us. Some us) (bits_of-without m (greatest_of window) size (pushed 0 bs) (omega arith) (omega arith) ∙ ap (λ us. remove us m) bits)
    ∙ sym (ap (option_map (λ bs. remove bs m)) e)

code_by_value : (plane : Values) (window : WindowSides) (x y : ℕ) (o : Option ℕ) → IsWindow window.width window.height → value_at plane x y ≡ o
    → cond (list_all (λ t. t) (map is_some (window_values plane window x y))) (Some (bits_of (greatest_of window) (window_code window (plain o) (window_values plane window x y)))) None ≡ code_at plane window x y
code_by_value plane window x y None w e =
    let values = window_values plane window x y in
    let twice = (is_middle window.width window.height w).twice in
    let none : list_all (λ t. t) (map is_some values) ≡ false = not_all values (middle window) (omega (arith, length-window_values plane window x y, twice)) (get_or-middle plane window x y w ∙ e) in
    ap (λ b. cond b (Some (bits_of (greatest_of window) (window_code window 0 values))) None) none ∙ sym (code_at-void plane window x y e)
code_by_value plane window x y (Some c) w e =
    code_of_all window c (window_values plane window x y) (list_all (λ t. t) (map is_some (window_values plane window x y))) w (length-window_values plane window x y) (less_than-plain c (window_values plane window x y))
    ∙ sym (code_at-there plane window x y c w e)

centre_is : (plane : Values) (window : WindowSides) (x y from top : ℕ) → IsValues plane → Fits plane window x y → from ≡ x - window.width / 2 → top ≡ y - window.height / 2 → x < plane.width → y < plane.height
    → centre_in plane.width (map plain plane.entries) window from top ≡ plain (value_at plane x y)
centre_is plane window x y from top v fits ef et hx hy =
    let row : top + window.height / 2 ≡ y = omega (arith, fits.top) in
    let place : (top + window.height / 2) * plane.width + window.width / 2 + from ≡ y * plane.width + x = ap (λ r. r * plane.width + window.width / 2 + from) row ∙ omega (arith, fits.left) in
    let inside : y * plane.width + x < length plane.entries = omega (arith, mul-add-lt y plane.width x plane.height hy hx, v.full) in
    ap (λ k. get_or (map plain plane.entries) k 0) place
    ∙ get_or-map plain plane.entries (y * plane.width + x) None 0 inside
    ∙ ap plain (sym (value_at-inside plane x y hx hy))

-- the code of a pixel whose window lies in the plane
pub code_at-plain : (plane : Values) (window : WindowSides) (x y from top : ℕ) → IsValues plane → IsWindow window.width window.height → Fits plane window x y → from ≡ x - window.width / 2 → top ≡ y - window.height / 2 → x < plane.width → y < plane.height
    → cond (all_in plane.width (map is_some plane.entries) window from top) (Some (bits_of (greatest_of window) (word_in plane.width (map plain plane.entries) window from top))) None ≡ code_at plane window x y
code_at-plain plane window x y from top v w fits ef et hx hy =
    ap (λ b. cond b (Some (bits_of (greatest_of window) (word_in plane.width (map plain plane.entries) window from top))) None) (ap (list_all (λ t. t)) (in_rows-is is_some plane window x y from top v w fits ef et))
    ∙ ap (λ c. cond (list_all (λ t. t) (map is_some (window_values plane window x y))) (Some (bits_of (greatest_of window) (without (middle window) (pushed 0 (lesser c (in_rows plane.width (map plain plane.entries) window from top)))))) None)
    (centre_is plane window x y from top v fits ef et hx hy)
    ∙ ap (λ us. cond (list_all (λ t. t) (map is_some (window_values plane window x y))) (Some (bits_of (greatest_of window) (without (middle window) (pushed 0 (lesser (plain (value_at plane x y)) us))))) None)
    (in_rows-is plain plane window x y from top v w fits ef et)
    ∙ code_by_value plane window x y (value_at plane x y) w refl

-- the word of a window has no bits but those of its code
pub word_to-small : (width : ℕ) (values : List ℕ) (window : WindowSides) (centre from top : ℕ) → IsWindow window.width window.height → word_to width values window centre from top < 2 ^ greatest_of window
word_to-small width values window centre from top w =
    let m = middle window in
    let bs = lesser centre (in_rows width values window from top) in
    let twice = (is_middle window.width window.height w).twice in
    without_small m (greatest_of window) (pushed 0 bs) (omega arith)
    (pushed_small (greatest_of window + 1) bs (omega (arith, length-lesser centre (in_rows width values window from top), length-in_rows width values window from top, twice)))

pub word_in-small : (width : ℕ) (values : List ℕ) (window : WindowSides) (from top : ℕ) → IsWindow window.width window.height → word_in width values window from top < 2 ^ greatest_of window
word_in-small width values window from top w = word_to-small width values window (centre_in width values window from top) from top w

-- the same, as a row of codes holds it
pub unpacked-plain : (plane : Values) (window : WindowSides) (x y from top width i : ℕ) (values words : List ℕ) (there present : List Bool) → IsValues plane → IsWindow window.width window.height → Fits plane window x y
    → width ≡ plane.width → values ≡ map plain plane.entries → there ≡ map is_some plane.entries → from ≡ x - window.width / 2 → top ≡ y - window.height / 2 → x < plane.width → y < plane.height
    → slice_index words i ≡ word_in width values window from top → get_or present i false ≡ all_in width there window from top
    → unpacked (greatest_of window) words present i ≡ code_at plane window x y
unpacked-plain plane window x y from top width i values words there present v w fits ew ev et ef etop hx hy eword emark =
    let n = greatest_of window in
    ap (λ b. cond b (Some (bits_of n (slice_index words i))) None) (emark ∙ ap (λ k. all_in k there window from top) ew ∙ ap (λ us. all_in plane.width us window from top) et)
    ∙ ap (λ k. cond (all_in plane.width (map is_some plane.entries) window from top) (Some (bits_of n k)) None) (eword ∙ ap (λ k. word_in k values window from top) ew ∙ ap (λ us. word_in plane.width us window from top) ev)
    ∙ code_at-plain plane window x y from top v w fits ef etop hx hy
