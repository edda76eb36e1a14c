-- Codes of the smoothed rule, and of either rule.
use Rattle.std.proofs.Common.{◌≡◌, ℕ, zero, suc, ◌+◌, ◌-◌, ◌*◌, ◌/◌, ◌^◌, ◌<◌, Bool, true, false, cond, ltb, List, [], ◌∷◌, ◌++◌, map, length, take, drop, get_or, slice_index, Option, Some, None, is_some, unwrap_or, option_map, refl, sym, ap, ◌∙◌, arith, length-append}
use Rattle.std.specs.List.{list_all, remove}
use Rattle.std.proofs.lemmas.List.{length-map, length-take, length-drop, map-append, take-map, drop-map}
use Rattle.sgm_base.specs.Values.{Values, IsValues, value_at}
use Rattle.sgm_census.specs.Windows.{WindowSides, IsWindow, greatest_of}
use Rattle.sgm_census.specs.Codes.{code_by, middle_at, neighbours, smoothed_code_at, window_values}
use Rattle.sgm_census.specs.declared.rule.CostRule.{CostRule}
use Rattle.sgm_census.specs.declared.rule.CostRule.TheVariants.{Plain, Smoothed}
use Rattle.sgm_census.specs.Packed.{all_in, bits_of, in_rows, lesser, pushed, unpacked, without, word_to}
use Rattle.sgm_census.specs.Smoothing.{word_by}
use Rattle.sgm_census.proofs.Bits.{bits_of-none, bits_of-pushed, bits_of-without, without_small}
use Rattle.sgm_census.proofs.Centres.{middle, is_middle, get_or-middle, code_at-void, length-code_at}
use Rattle.sgm_census.proofs.InWindow.{Fits, length-window_values}
use Rattle.sgm_census.proofs.PlainCodes.{in_rows-is, plain}
use Rattle.sgm_census.proofs.RowBits.{pushed_small}

-- whether a value, or own where it is missing, is less than the middle
abbrev pub is_lower : ℕ → ℕ → Option ℕ → Bool
is_lower own middle o = ltb (unwrap_or o own) middle

pub smoothed_code_at-void : (plane : Values) (window : WindowSides) (x y : ℕ) → value_at plane x y ≡ None → smoothed_code_at plane window x y ≡ None
unfolding smoothed_code_at
smoothed_code_at-void plane window x y e =
    ap (λ o. option_map (λ own. map (λ p. ltb (unwrap_or p own) (middle_at plane x y own)) (neighbours plane window x y)) o) e

pub smoothed_code_at-there : (plane : Values) (window : WindowSides) (x y own : ℕ) → value_at plane x y ≡ Some own
    → smoothed_code_at plane window x y ≡ Some (map (is_lower own (middle_at plane x y own)) (remove (window_values plane window x y) (middle window)))
unfolding smoothed_code_at
smoothed_code_at-there plane window x y own e =
    ap (λ o. option_map (λ own. map (λ p. ltb (unwrap_or p own) (middle_at plane x y own)) (neighbours plane window x y)) o) e

length-neighbours : (plane : Values) (window : WindowSides) (x y : ℕ) → IsWindow window.width window.height → length (remove (window_values plane window x y) (middle window)) ≡ greatest_of window
length-neighbours plane window x y w =
    let values = window_values plane window x y in
    let m = middle window in
    omega (
      arith,
      length-append (take m values) (drop (suc m) values),
      length-take m values,
      length-drop (suc m) values,
      length-window_values plane window x y,
      (is_middle window.width window.height w).twice,
    )

length-smoothed : (plane : Values) (window : WindowSides) (x y : ℕ) (o : Option ℕ) (code : List Bool) → IsWindow window.width window.height → value_at plane x y ≡ o → smoothed_code_at plane window x y ≡ Some code
    → length code ≡ greatest_of window
length-smoothed plane window x y None code w e f =
    let none = smoothed_code_at-void plane window x y e in
    absurd (cc)
length-smoothed plane window x y (Some own) code w e f =
    let lower = is_lower own (middle_at plane x y own) in
    let values = remove (window_values plane window x y) (middle window) in
    let there = smoothed_code_at-there plane window x y own e in
    let same : map lower values ≡ code = cc in
    omega (arith, ap length same, length-map values lower, length-neighbours plane window x y w)

-- ---- either rule

pub code_by-void : (rule : CostRule) (plane : Values) (window : WindowSides) (x y : ℕ) → value_at plane x y ≡ None → code_by rule plane window x y ≡ None
code_by-void Plain plane window x y e = code_at-void plane window x y e
code_by-void Smoothed plane window x y e = smoothed_code_at-void plane window x y e

pub length-code_by : (rule : CostRule) (plane : Values) (window : WindowSides) (x y : ℕ) (code : List Bool) → IsWindow window.width window.height → code_by rule plane window x y ≡ Some code → length code ≡ greatest_of window
length-code_by Plain plane window x y code w e = length-code_at plane window x y code w e
length-code_by Smoothed plane window x y code w e = length-smoothed plane window x y _ code w refl e

-- ---- codes as words

map-remove : {X Y : Type 0} (f : X → Y) (xs : List X) (m : ℕ) → map f (remove xs m) ≡ remove (map f xs) m
map-remove f xs m =
    map-append f (take m xs) (drop (suc m) xs) ∙ ap (λ us. us ++ map f (drop (suc m) xs)) (sym (take-map f m xs)) ∙ ap (λ us. take m (map f xs) ++ us) (sym (drop-map f (suc m) xs))

-- the bits of a word of a window without its centre
bits-lower : (window : WindowSides) (f : Option ℕ → Bool) (values : List (Option ℕ)) → IsWindow window.width window.height → length values ≡ window.height * window.width
    → bits_of (greatest_of window) (without (middle window) (pushed 0 (map f values))) ≡ map f (remove values (middle window))
bits-lower window f values w long =
    let m = middle window in
    let size = window.width * window.height in
    let bs = map f values in
    let twice : size ≡ 2 * m + 1 = (is_middle window.width window.height w).twice in
    let count : size ≡ 0 + length bs = omega (arith, length-map values f) in
    let bits : bits_of size (pushed 0 bs) ≡ bs = bits_of-pushed 0 0 size bs count ∙ ap (λ us. us ++ bs) (bits_of-none 0) in
    bits_of-without m (greatest_of window) size (pushed 0 bs) (omega arith) (omega arith) ∙ ap (λ us. remove us m) bits ∙ sym (map-remove f values m)

-- the word of a pixel's window has the bits of its code
pub word_by-code : (plane : Values) (window : WindowSides) (x y own : ℕ) → IsWindow window.width window.height → value_at plane x y ≡ Some own
    → Some (bits_of (greatest_of window) (word_by plane window x y own (middle_at plane x y own))) ≡ smoothed_code_at plane window x y
word_by-code plane window x y own w e =
    ap (λ bs. Some bs) (bits-lower window (is_lower own (middle_at plane x y own)) (window_values plane window x y) w (length-window_values plane window x y))
    ∙ sym (smoothed_code_at-there plane window x y own e)

pub word_by-small : (plane : Values) (window : WindowSides) (x y own middle : ℕ) → IsWindow window.width window.height → word_by plane window x y own middle < 2 ^ greatest_of window
word_by-small plane window x y own mid w =
    let m = middle window in
    let values = window_values plane window x y in
    let bs = map (is_lower own mid) values in
    let twice = (is_middle window.width window.height w).twice in
    without_small m (greatest_of window) (pushed 0 bs) (omega arith)
    (pushed_small (greatest_of window + 1) bs (omega (arith, length-map values (is_lower own mid), length-window_values plane window x y, twice)))

-- ---- windows of which all is there

lower-plain : (own mid : ℕ) (values : List (Option ℕ)) → list_all (λ t. t) (map is_some values) ≡ true → lesser mid (map plain values) ≡ map (is_lower own mid) values
lower-plain own mid [] e = refl
lower-plain own mid (None ∷ values) e = absurd (cc)
lower-plain own mid (Some v ∷ values) e = ap (λ us. ltb v mid ∷ us) (lower-plain own mid values e)

some_at : (values : List (Option ℕ)) (k : ℕ) → k < length values → list_all (λ t. t) (map is_some values) ≡ true → (v : ℕ) × (get_or values k None ≡ Some v)
some_at [] k h e = absurd (omega arith)
some_at (None ∷ values) k h e = absurd (cc)
some_at (Some v ∷ values) zero h e = (v, refl)
some_at (Some v ∷ values) (suc k) h e = some_at values k (omega arith) e

-- the code of such a pixel from the rows of the plane
pub unpacked-whole : (plane : Values) (window : WindowSides) (x y from top i mid : ℕ) (values words : List ℕ) (there present : List Bool) → IsValues plane → IsWindow window.width window.height → Fits plane window x y
    → values ≡ map plain plane.entries → there ≡ map is_some plane.entries → from ≡ x - window.width / 2 → top ≡ y - window.height / 2 → ((own : ℕ) → value_at plane x y ≡ Some own → mid ≡ middle_at plane x y own)
    → slice_index words i ≡ word_to plane.width values window mid from top → get_or present i false ≡ true → all_in plane.width there window from top ≡ true
    → unpacked (greatest_of window) words present i ≡ smoothed_code_at plane window x y
unpacked-whole plane window x y from top i mid values words there present v w fits ev et ef etop middles eword emark all =
    let n = greatest_of window in
    let near = window_values plane window x y in
    let twice = (is_middle window.width window.height w).twice in
    let whole : list_all (λ t. t) (map is_some near) ≡ true =
    ap (list_all (λ t. t)) (sym (in_rows-is is_some plane window x y from top v w fits ef etop)) ∙ ap (λ us. all_in plane.width us window from top) (sym et) ∙ all in
    let centre = some_at near (middle window) (omega (arith, length-window_values plane window x y, twice)) whole in
    let own = centre.0 in
    let value : value_at plane x y ≡ Some own = sym (get_or-middle plane window x y w) ∙ centre.1 in
    let mid_is : mid ≡ middle_at plane x y own = middles own value in
    let rows : in_rows plane.width values window from top ≡ map plain near = ap (λ us. in_rows plane.width us window from top) ev ∙ in_rows-is plain plane window x y from top v w fits ef etop in
    ap (λ b. cond b (Some (bits_of n (slice_index words i))) None) emark
    ∙ ap (λ k. Some (bits_of n k)) (eword ∙ ap (λ us. without (middle window) (pushed 0 (lesser mid us))) rows ∙ ap (λ us. without (middle window) (pushed 0 us)) (lower-plain own mid near whole)
    ∙ ap (λ k. word_by plane window x y own k) mid_is)
    ∙ word_by-code plane window x y own w value
