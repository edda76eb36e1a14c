-- The values in a window, and where they stand in the rows of the plane.
use Rattle.std.proofs.Common.{◌≡◌, ℕ, ◌+◌, ◌-◌, ◌*◌, ◌/◌, ◌%◌, ◌<◌, ◌≤◌, zero, suc, Bool, true, false, cond, leb, ltb, ◌&&◌, List, ◌++◌, map, length, take, drop, get_or, Option, None, refl, sym, ap, ◌∙◌, arith, length-append, ◌⊎◌, inl, inr, zero-add, append-nil, append_assoc}
use Rattle.std.proofs.lemmas.Bool.{le-leb, lt-ltb, le-ltb, lt-leb, cases_lt}
use Rattle.std.proofs.lemmas.List.{get_or-take, get_or-drop, length-take, length-drop, get_or_append_left, get_or-append_right}
use Rattle.std.proofs.lemmas.List.FromFn.{fill_by_all, length-map-range_with_len, get_or-map-range_with_len}
use Rattle.std.proofs.lemmas.Nat.{row_fits}
use Rattle.std.specs.List.{flat_map, range_with_len}
use Rattle.sgm_base.specs.Values.{Values, IsValues, row_of, value_at}
use Rattle.sgm_census.specs.Windows.{WindowSides, IsWindow}
use Rattle.sgm_census.specs.Codes.{value_near, window_values}

-- the row j of a window
abbrev pub window_row : Values → WindowSides → ℕ → ℕ → ℕ → List (Option ℕ)
window_row plane window x y j = map (λ i. value_near plane window x y i j) (range_with_len 0 window.width)

-- the window round the pixel (x, y) lies in the plane
pub record Fits (plane : Values) (window : WindowSides) (x y : ℕ) : Type 0 where
  pub left : window.width / 2 ≤ x
  pub right : x + window.width / 2 < plane.width
  pub top : window.height / 2 ≤ y
  pub bottom : y + window.height / 2 < plane.height

pub allowed : {X : Type 0} (a b : Bool) (u d : X) → a ≡ true → b ≡ true → cond (a && b) u d ≡ u
allowed true true u d e f = refl
allowed true false u d e f = cc
allowed false b u d e f = cc

pub refused : {X : Type 0} (a b : Bool) (u d : X) → (a ≡ false) ⊎ (b ≡ false) → cond (a && b) u d ≡ d
refused true true u d (inl e) = cc
refused true true u d (inr e) = cc
refused true false u d e = refl
refused false b u d e = refl

pub value_at-inside : (plane : Values) (x y : ℕ) → x < plane.width → y < plane.height → value_at plane x y ≡ get_or plane.entries (y * plane.width + x) None
value_at-inside plane x y h k = allowed (ltb x plane.width) (ltb y plane.height) (get_or plane.entries (y * plane.width + x) None) None (lt-ltb _ _ h) (lt-ltb _ _ k)

-- the value in the row is that of the pixel
pub get_or-row_of : (plane : Values) (x y : ℕ) → x < plane.width → y < plane.height → get_or (row_of plane y) x None ≡ value_at plane x y
get_or-row_of plane x y h k =
    get_or-take plane.width (drop (y * plane.width) plane.entries) x None h ∙ get_or-drop (y * plane.width) plane.entries x None ∙ sym (value_at-inside plane x y h k)

pub value_at-outside : (plane : Values) (x y : ℕ) → (plane.width ≤ x) ⊎ (plane.height ≤ y) → value_at plane x y ≡ None
value_at-outside plane x y (inl h) = refused (ltb x plane.width) (ltb y plane.height) (get_or plane.entries (y * plane.width + x) None) None (inl (le-ltb _ _ h))
value_at-outside plane x y (inr h) = refused (ltb x plane.width) (ltb y plane.height) (get_or plane.entries (y * plane.width + x) None) None (inr (le-ltb _ _ h))

pub value_near-inside : (plane : Values) (window : WindowSides) (x y i j z r : ℕ) → window.width / 2 ≤ x + i → window.height / 2 ≤ y + j → x + i - window.width / 2 ≡ z → y + j - window.height / 2 ≡ r
    → value_near plane window x y i j ≡ value_at plane z r
value_near-inside plane window x y i j z r h k ez er =
    allowed (leb (window.width / 2) (x + i)) (leb (window.height / 2) (y + j)) (value_at plane (x + i - window.width / 2) (y + j - window.height / 2)) None (le-leb _ _ h) (le-leb _ _ k)
    ∙ ap (λ n. value_at plane n (y + j - window.height / 2)) ez ∙ ap (λ n. value_at plane z n) er

value_near-fits : (plane : Values) (window : WindowSides) (x y i j r : ℕ) → Fits plane window x y → i < window.width → j < window.height → window.width % 2 ≡ 1 → window.height % 2 ≡ 1 → r ≡ y - window.height / 2 + j
    → value_near plane window x y i j ≡ get_or plane.entries (r * plane.width + (x - window.width / 2 + i)) None
value_near-fits plane window x y i j r f h k ow oh e =
    value_near-inside plane window x y i j (x - window.width / 2 + i) r (omega (arith, f.left)) (omega (arith, f.top)) (omega (arith, f.left)) (omega (arith, f.top))
    ∙ value_at-inside plane (x - window.width / 2 + i) r (omega (arith, f.left, f.right)) (omega (arith, f.top, f.bottom))

-- as the code reads it
pub window_row-slice : (plane : Values) (window : WindowSides) (x y j r from n : ℕ) → IsValues plane → IsWindow window.width window.height → Fits plane window x y → j < window.height → r ≡ y - window.height / 2 + j → from ≡ x - window.width / 2 → n ≡ window.width
    → take n (drop from (row_of plane r)) ≡ window_row plane window x y j
window_row-slice plane window x y j r from n v w f h er ef en =
    let row = take plane.width (drop (r * plane.width) plane.entries) in
    let inside : r < plane.height = omega (arith, f.top, f.bottom, w.odd_height) in
    let room : r * plane.width + plane.width ≤ length plane.entries = omega (arith, row_fits r plane.width plane.height plane.width inside (omega arith), v.full) in
    let whole : length row ≡ plane.width = omega (arith, length-take plane.width (drop (r * plane.width) plane.entries), length-drop (r * plane.width) plane.entries, room) in
    fill_by_all (λ i. value_near plane window x y i j) (take n (drop from row)) window.width None
    (omega (arith, length-take n (drop from row), length-drop from row, whole, f.left, f.right, w.odd_width))
    (λ i k. get_or-take n (drop from row) i None (omega arith) ∙ get_or-drop from row i None
    ∙ get_or-take plane.width (drop (r * plane.width) plane.entries) (from + i) None (omega (arith, f.left, f.right, w.odd_width))
    ∙ get_or-drop (r * plane.width) plane.entries (from + i) None
    ∙ ap (λ z. get_or plane.entries (r * plane.width + (z + i)) None) ef
    ∙ sym (value_near-fits plane window x y i j r f k h w.odd_width w.odd_height er))

length-rows : {X : Type 0} (f : ℕ → List X) (width a n : ℕ) → ((j : ℕ) → length (f j) ≡ width) → length (flat_map f (range_with_len a n)) ≡ n * width
length-rows f width a zero h = omega arith
length-rows f width a (suc n) h = omega (arith, length-append (f a) (flat_map f (range_with_len (a + 1) n)), h a, length-rows f width (a + 1) n h)

get_or-rows : {X : Type 0} (f : ℕ → List X) (width a n j i : ℕ) (d : X) → ((j : ℕ) → length (f j) ≡ width) → j < n → i < width → get_or (flat_map f (range_with_len a n)) (j * width + i) d ≡ get_or (f (a + j)) i d
get_or-rows f width a zero j i d h jn iw = absurd (omega arith)
get_or-rows f width a (suc n) zero i d h jn iw =
    let at : zero * width + i ≡ i = omega arith in
    let here : a + zero ≡ a = omega arith in
    rw (at, here) (get_or_append_left (f a) (flat_map f (range_with_len (a + 1) n)) d i (omega (arith, h a)))
get_or-rows f width a (suc n) (suc j) i d h jn iw =
    let at : suc j * width + i - width ≡ j * width + i = omega arith in
    let there : (a + 1) + j ≡ a + suc j = omega arith in
    get_or-append_right (f a) (flat_map f (range_with_len (a + 1) n)) width (suc j * width + i) d (h a) (omega arith)
    ∙ ap (λ k. get_or (flat_map f (range_with_len (a + 1) n)) k d) at ∙ get_or-rows f width (a + 1) n j i d h (omega arith) iw
    ∙ ap (λ k. get_or (f k) i d) there

pub length-window_values : (plane : Values) (window : WindowSides) (x y : ℕ) → length (window_values plane window x y) ≡ window.height * window.width
unfolding window_values
length-window_values plane window x y =
    length-rows (window_row plane window x y) window.width 0 window.height (λ j. length-map-range_with_len (λ i. value_near plane window x y i j) 0 window.width)

pub get_or-window_values : (plane : Values) (window : WindowSides) (x y i j : ℕ) → i < window.width → j < window.height → get_or (window_values plane window x y) (j * window.width + i) None ≡ value_near plane window x y i j
unfolding window_values
get_or-window_values plane window x y i j h k =
    get_or-rows (window_row plane window x y) window.width 0 window.height j i None (λ j. length-map-range_with_len (λ i. value_near plane window x y i j) 0 window.width) k h
    ∙ get_or-map-range_with_len (λ i. value_near plane window x y i (0 + j)) 0 window.width i i None h (omega arith)
    ∙ ap (λ n. value_near plane window x y i n) (zero-add j)

-- beyond each side of the plane there is no value
near_none : (plane : Values) (window : WindowSides) (x y i j : ℕ) → ((window.width / 2 ≤ x + i) → (window.height / 2 ≤ y + j) → value_at plane (x + i - window.width / 2) (y + j - window.height / 2) ≡ None)
    → value_near plane window x y i j ≡ None
near_none plane window x y i j h = elim (cases_lt (x + i) (window.width / 2)) [
  | inl l ↦ refused (leb (window.width / 2) (x + i)) (leb (window.height / 2) (y + j)) _ None (inl (lt-leb (window.width / 2) (x + i) l))
  | inr l ↦ elim (cases_lt (y + j) (window.height / 2)) [
    | inl k ↦ refused (leb (window.width / 2) (x + i)) (leb (window.height / 2) (y + j)) _ None (inr (lt-leb (window.height / 2) (y + j) k))
    | inr k ↦ allowed (leb (window.width / 2) (x + i)) (leb (window.height / 2) (y + j)) _ None (le-leb _ _ l) (le-leb _ _ k) ∙ h l k
  ]
]

pub value_near-left : (plane : Values) (window : WindowSides) (x y i j : ℕ) → x + i < window.width / 2 → value_near plane window x y i j ≡ None
value_near-left plane window x y i j h = near_none plane window x y i j (λ l k. absurd (omega arith))

pub value_near-top : (plane : Values) (window : WindowSides) (x y i j : ℕ) → y + j < window.height / 2 → value_near plane window x y i j ≡ None
value_near-top plane window x y i j h = near_none plane window x y i j (λ l k. absurd (omega arith))

pub value_near-right : (plane : Values) (window : WindowSides) (x y i j : ℕ) → plane.width ≤ x + i - window.width / 2 → value_near plane window x y i j ≡ None
value_near-right plane window x y i j h = near_none plane window x y i j (λ l k. value_at-outside plane _ _ (inl h))

pub value_near-bottom : (plane : Values) (window : WindowSides) (x y i j : ℕ) → plane.height ≤ y + j - window.height / 2 → value_near plane window x y i j ≡ None
value_near-bottom plane window x y i j h = near_none plane window x y i j (λ l k. value_at-outside plane _ _ (inr h))

rows-push : {X : Type 0} (f : ℕ → List X) (a n j : ℕ) → a + n ≡ j → flat_map f (range_with_len a (suc n)) ≡ flat_map f (range_with_len a n) ++ f j
rows-push f a zero j e =
    let same : a ≡ j = omega arith in
    append-nil (f a) ∙ ap f same
rows-push f a (suc n) j e =
    ap (λ us. f a ++ us) (rows-push f (a + 1) n j (omega arith)) ∙ sym (append_assoc (f a) (flat_map f (range_with_len (a + 1) n)) (f j))

-- one row more
pub rows_more : {X : Type 0} (f : ℕ → List X) (n : ℕ) → flat_map f (range_with_len 0 (n + 1)) ≡ flat_map f (range_with_len 0 n) ++ f n
rows_more f n =
    let next : n + 1 ≡ suc n = omega arith in
    ap (λ k. flat_map f (range_with_len 0 k)) next ∙ rows-push f 0 n n (omega arith)
