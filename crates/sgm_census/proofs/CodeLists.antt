-- Lists of codes, row by row.
use Rattle.std.proofs.Common.{◌≡◌, ℕ, ◌+◌, ◌-◌, ◌*◌, ◌/◌, ◌%◌, ◌^◌, ◌<◌, ◌≤◌, Bool, true, false, cond, ltb, List, map, length, take, drop, get_or, Some, None, sym, ap, ◌∙◌, subst, arith, ◌⊎◌, inl, inr}
use Rattle.std.proofs.lemmas.Bool.{lt-ltb, le-ltb, cases_lt}
use Rattle.std.proofs.lemmas.List.{get_or-take, get_or-drop, length-take, length-drop, get_or_past}
use Rattle.std.proofs.lemmas.List.FromFn.{fill_by_all, length-map-range_with_len, get_or-map-range_with_len}
use Rattle.std.proofs.lemmas.Nat.{mul-add-lt, div-mul-add, mod-mul-add, mod_below, div_below, row_fits, pow_pos}
use Rattle.std.specs.List.{range_with_len}
use Rattle.sgm_base.specs.Values.{Values, IsValues, row_by_row}
use Rattle.sgm_census.specs.Windows.{WindowSides, IsWindow, greatest_of}
use Rattle.sgm_census.specs.Codes.{Codes, IsCodes, code_by, codes_of, code_in}
use Rattle.sgm_census.specs.declared.rule.CostRule.{CostRule}
use Rattle.sgm_census.specs.Packed.{bits_of, word_place, unpacked, codes_in, IsPacked, HoldsCodes}
use Rattle.sgm_census.proofs.Bits.{length-bits_of}
use Rattle.sgm_census.proofs.SmoothedCodes.{code_by-void, length-code_by}
use Rattle.sgm_census.proofs.InWindow.{allowed, refused, value_at-outside}

pub length-row_by_row : {X : Type 0} (width height : ℕ) (f : ℕ → ℕ → X) → length (row_by_row width height f) ≡ width * height
unfolding row_by_row
length-row_by_row width height f = length-map-range_with_len (λ k. f (k % width) (k / width)) 0 (width * height)

pub get_or-row_by_row : {X : Type 0} (width height : ℕ) (f : ℕ → ℕ → X) (x y : ℕ) (d : X) → x < width → y < height → get_or (row_by_row width height f) (y * width + x) d ≡ f x y
unfolding row_by_row
get_or-row_by_row width height f x y d h k =
    get_or-map-range_with_len (λ j. f (j % width) (j / width)) 0 (width * height) (y * width + x) (y * width + x) d (mul-add-lt y width x height k h) (omega arith)
    ∙ ap (λ j. f j ((y * width + x) / width)) (mod-mul-add y width x h) ∙ ap (λ j. f x j) (div-mul-add y width x h)

row_by_row-same : {X : Type 0} (width height : ℕ) (f g : ℕ → ℕ → X) (d : X) → 0 < width → ((x y : ℕ) → x < width → y < height → f x y ≡ g x y) → row_by_row width height f ≡ row_by_row width height g
unfolding row_by_row
row_by_row-same width height f g d p h =
    fill_by_all (λ k. g (k % width) (k / width)) (map (λ k. f (k % width) (k / width)) (range_with_len 0 (width * height))) (width * height) d
    (length-map-range_with_len (λ k. f (k % width) (k / width)) 0 (width * height))
    (λ k l. get_or-map-range_with_len (λ j. f (j % width) (j / width)) 0 (width * height) k k d l (omega arith)
    ∙ h (k % width) (k / width) (mod_below k width p) (div_below k width height p (omega arith)))

-- the plane in these words is that of the codes
pub codes_in-is : (plane : Values) (window : WindowSides) (rule : CostRule) (width height : ℕ) (words : List ℕ) (present : List Bool) → width ≡ plane.width → height ≡ plane.height → 0 < plane.width
    → ((x y : ℕ) → x < plane.width → y < plane.height → unpacked (greatest_of window) words present (word_place plane.width x y) ≡ code_by rule plane window x y)
    → codes_in width height window rule words present ≡ codes_of plane window rule
codes_in-is plane window rule width height words present ew eh p h =
    ap (λ w. codes_in w height window rule words present) ew ∙ ap (λ k. codes_in plane.width k window rule words present) eh
    ∙ ap (λ cs. let c : Codes = record { width = plane.width; height = plane.height; window = window; rule = rule; codes = cs } in c)
    (row_by_row-same plane.width plane.height (λ x y. unpacked (greatest_of window) words present (word_place plane.width x y)) (code_by rule plane window) None p h)

pub code_in-inside : (plane : Codes) (x y : ℕ) → x < plane.width → y < plane.height → code_in plane x y ≡ get_or plane.codes (y * plane.width + x) None
unfolding code_in
code_in-inside plane x y h k = allowed (ltb x plane.width) (ltb y plane.height) (get_or plane.codes (y * plane.width + x) None) None (lt-ltb _ _ h) (lt-ltb _ _ k)

pub code_in-outside : (plane : Codes) (x y : ℕ) → (plane.width ≤ x) ⊎ (plane.height ≤ y) → code_in plane x y ≡ None
unfolding code_in
code_in-outside plane x y (inl h) = refused (ltb x plane.width) (ltb y plane.height) (get_or plane.codes (y * plane.width + x) None) None (inl (le-ltb _ _ h))
code_in-outside plane x y (inr h) = refused (ltb x plane.width) (ltb y plane.height) (get_or plane.codes (y * plane.width + x) None) None (inr (le-ltb _ _ h))

code_in-codes_in : (width height : ℕ) (window : WindowSides) (rule : CostRule) (words : List ℕ) (present : List Bool) (x y : ℕ) → x < width → y < height
    → code_in (codes_in width height window rule words present) x y ≡ unpacked (greatest_of window) words present (word_place width x y)
code_in-codes_in width height window rule words present x y h k =
    code_in-inside (codes_in width height window rule words present) x y h k
    ∙ get_or-row_by_row width height (λ z r. unpacked (greatest_of window) words present (word_place width z r)) x y None h k

pub unpacked-length : (n word : ℕ) (there : Bool) (code : List Bool) → cond there (Some (bits_of n word)) None ≡ Some code → length code ≡ n
unpacked-length n word true code e =
    let same : bits_of n word ≡ code = cc in
    ap length (sym same) ∙ length-bits_of n word
unpacked-length n word false code e = cc

lengths_in : (width height : ℕ) (window : WindowSides) (rule : CostRule) (words : List ℕ) (present : List Bool) (x y : ℕ) (code : List Bool) → code_in (codes_in width height window rule words present) x y ≡ Some code
    → length code ≡ greatest_of window
lengths_in width height window rule words present x y code e = elim (cases_lt x width) [
  | inr h ↦ absurd (let none : code_in (codes_in width height window rule words present) x y ≡ None = code_in-outside (codes_in width height window rule words present) x y (inl h) in cc)
  | inl h ↦ elim (cases_lt y height) [
    | inr k ↦ absurd (let none : code_in (codes_in width height window rule words present) x y ≡ None = code_in-outside (codes_in width height window rule words present) x y (inr k) in cc)
    | inl k ↦ unpacked-length (greatest_of window) (get_or words (word_place width x y) 0) (get_or present (word_place width x y) false) code (sym (code_in-codes_in width height window rule words present x y h k) ∙ e)
  ]
]

-- what a plane keeps
pub codes_in-kept : (width height : ℕ) (window : WindowSides) (rule : CostRule) (words : List ℕ) (present : List Bool) → IsPacked width height window words present → IsCodes (codes_in width height window rule words present)
codes_in-kept width height window rule words present k =
    record {
      width_in_range = k.width_in_range;
      height_in_range = k.height_in_range;
      window_in_range = k.window_in_range;
      full = length-row_by_row width height (λ x y. unpacked (greatest_of window) words present (word_place width x y));
      lengths = lengths_in width height window rule words present;
    }

pub part_at : {X : Type 0} (xs : List X) (from n k : ℕ) (d : X) → k < n → get_or (take n (drop from xs)) k d ≡ get_or xs (from + k) d
part_at xs from n k d h = get_or-take n (drop from xs) k d h ∙ get_or-drop from xs k d

pub part_small : (limit : ℕ) (xs : List ℕ) (from n k : ℕ) → 0 < limit → ((j : ℕ) → get_or xs j 0 < limit) → get_or (take n (drop from xs)) k 0 < limit
part_small limit xs from n k p h = elim (cases_lt k n) [
  | inl l ↦ subst (λ v. v < limit) (sym (part_at xs from n k 0 l)) (h (from + k))
  | inr l ↦ subst (λ v. v < limit) (sym (get_or_past (take n (drop from xs)) k 0 (omega (arith, length-take n (drop from xs))))) p
]

-- a row of it
pub codes_in-row : (width height : ℕ) (window : WindowSides) (rule : CostRule) (words : List ℕ) (present : List Bool) (y n : ℕ) → IsPacked width height window words present → y < height → n ≡ width
    → HoldsCodes (codes_in width height window rule words present) y (take n (drop (y * width) words)) (take n (drop (y * width) present))
codes_in-row width height window rule words present y n k h e =
    let g = greatest_of window in
    let from = y * width in
    let room : from + width ≤ height * width = row_fits y width height width h (omega arith) in
    record {
      words_full = omega (arith, length-take n (drop from words), length-drop from words, k.words_full, room);
      present_full = omega (arith, length-take n (drop from present), length-drop from present, k.present_full, room);
      within = λ j. part_small (2 ^ g) words from n j (pow_pos g) k.within;
      each = λ x l.
          let place = width - 1 - x in
          let inside : place < n = omega arith in
          code_in-codes_in width height window rule words present x y l h
          ∙ ap (λ b. cond b (Some (bits_of g (get_or words (from + place) 0))) None) (sym (part_at present from n place false inside))
          ∙ ap (λ w. cond (get_or (take n (drop from present)) place false) (Some (bits_of g w)) None) (sym (part_at words from n place 0 inside));
    }

-- the same as the code reads it
pub codes_in-row_read : (self : Codes) (width height : ℕ) (window : WindowSides) (rule : CostRule) (words : List ℕ) (present : List Bool) (y wide n : ℕ) (read_words : List ℕ) (read_present : List Bool)
    → codes_in width height window rule words present ≡ self → IsPacked width height window words present → y < height → wide ≡ width → n ≡ width → read_words ≡ words → read_present ≡ present
    → HoldsCodes self y (take n (drop (y * wide) read_words)) (take n (drop (y * wide) read_present))
codes_in-row_read self width height window rule words present y wide n read_words read_present es k h ew en er ep =
    subst (λ s. HoldsCodes s y (take n (drop (y * wide) read_words)) (take n (drop (y * wide) read_present))) es
    (subst (λ us. HoldsCodes (codes_in width height window rule words present) y (take n (drop (y * wide) us)) (take n (drop (y * wide) read_present))) (sym er)
    (subst (λ us. HoldsCodes (codes_in width height window rule words present) y (take n (drop (y * wide) words)) (take n (drop (y * wide) us))) (sym ep)
    (subst (λ w. HoldsCodes (codes_in width height window rule words present) y (take n (drop (y * w) words)) (take n (drop (y * w) present))) (sym ew)
    (codes_in-row width height window rule words present y n k h en))))

-- ---- the codes of a plane

pub code_in-codes_of : (plane : Values) (window : WindowSides) (rule : CostRule) (x y : ℕ) → code_in (codes_of plane window rule) x y ≡ code_by rule plane window x y
code_in-codes_of plane window rule x y = elim (cases_lt x plane.width) [
  | inr h ↦ code_in-outside (codes_of plane window rule) x y (inl h) ∙ sym (code_by-void rule plane window x y (value_at-outside plane x y (inl h)))
  | inl h ↦ elim (cases_lt y plane.height) [
    | inr k ↦ code_in-outside (codes_of plane window rule) x y (inr k) ∙ sym (code_by-void rule plane window x y (value_at-outside plane x y (inr k)))
    | inl k ↦ code_in-inside (codes_of plane window rule) x y h k ∙ get_or-row_by_row plane.width plane.height (code_by rule plane window) x y None h k
  ]
]

pub codes_of-kept : (plane : Values) (window : WindowSides) (rule : CostRule) → IsValues plane → IsWindow window.width window.height → IsCodes (codes_of plane window rule)
codes_of-kept plane window rule v w =
    record {
      width_in_range = v.width_in_range;
      height_in_range = v.height_in_range;
      window_in_range = w;
      full = length-row_by_row plane.width plane.height (code_by rule plane window);
      lengths = λ x y code e. length-code_by rule plane window x y code w (sym (code_in-codes_of plane window rule x y) ∙ e);
    }
