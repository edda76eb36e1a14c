-- The base of a region: how large its parts become, and that it lies between those of the corner cells.
use Rattle.std.proofs.Common.{◌≡◌, ℕ, ◌+◌, ◌-◌, ◌*◌, ◌/◌, ◌^◌, ◌<◌, ◌≤◌, ℤ, pos, negsuc, neg_ℤ, ◌+ℤ◌, ◌*ℤ◌, ◌≤ℤ◌, int_le, Bool, true, false, ◌&&◌, IsTrue, unsigned_abs, FitsSigned, w64, to_z, of_z, mul-le-mul, refl, sym, ap, ap₂, subst, ◌∙◌, arith}
use mir.Syntax.{w128}
use borrow.Author.Differences.{down, up}
use Rattle.std.specs.Int.{int_div_euclid}
use Rattle.std.proofs.lemmas.Int.{fits_signed_from_abs, ints, unsigned_abs-mul}
use Rattle.std.proofs.lemmas.Nat.{div_below, le-div}
use Rattle.std.proofs.Math.Nat.{div-mul-le_self}
use Rattle.sgm_base.specs.Ranges.{IsFromTo, Within}
use Rattle.sgm_base.specs.Rounding.{rounded}
use Rattle.sgm_grid.specs.Cells.{IsGridSpec, IsHeight}
use Rattle.sgm_grid.specs.declared.grid_spec.GridSpec.{GridSpec}
use Rattle.sgm_report.specs.Areas.{Area, LiesIn, has_base}
use Rattle.sgm_report.specs.Bases.{IsBasePlane, base_at, from_south, is_height, twice_way}
use Rattle.sgm_report.specs.declared.base.BasePlane.{BasePlane}

-- ---- how large the parts of a base become

abs_within : (m : ℕ) (z : ℤ) → Within m z → unsigned_abs z ≤ m
abs_within m (pos n) h = omega (arith, ints)
abs_within m (negsuc n) h = omega (arith, ints)

within_abs : (m : ℕ) (z : ℤ) → unsigned_abs z ≤ m → Within m z
within_abs m (pos n) h = (omega (arith, ints), omega (arith, ints))
within_abs m (negsuc n) h = (omega (arith, ints), omega (arith, ints))

product_within : (m n : ℕ) (a b : ℤ) → Within m a → Within n b → Within (m * n) (a *ℤ b)
product_within m n a b ha hb =
    let most = mul-le-mul (abs_within m a ha) (abs_within n b hb) in
    within_abs (m * n) (a *ℤ b) (omega (arith, unsigned_abs-mul a b, most))

-- what a base rises along one of its ways, doubled and in millionths
abbrev pub part : ℤ → ℕ → ℤ → ℤ
part rise line cell = rise *ℤ (pos (2 * line + 1) *ℤ cell)

way_within : (line : ℕ) (cell : ℤ) → line < 4096 → IsFromTo (pos 1) (pos 1000000000) cell
    → Within 8191000000000 (pos (2 * line + 1) *ℤ cell)
way_within line cell few side =
    let lines : Within 8191 (pos (2 * line + 1)) = (omega (arith, ints), omega (arith, ints)) in
    let near : Within 1000000000 cell = (omega (arith, ints, side.0), side.1) in
    product_within 8191 1000000000 (pos (2 * line + 1)) cell lines near

part_within : (rise : ℤ) (line : ℕ) (cell : ℤ) → Within 1000000 rise → line < 4096
    → IsFromTo (pos 1) (pos 1000000000) cell
    → Within 8191000000000000000 (part rise line cell)
part_within rise line cell steep few side =
    product_within 1000000 8191000000000 rise (pos (2 * line + 1) *ℤ cell) steep
    (way_within line cell few side)

rise_abs : (a b : ℤ) → Within 8191000000000000000 a → Within 8191000000000000000 b
    → unsigned_abs (a +ℤ b) ≤ 16382000000000000000
rise_abs a b ha hb =
    abs_within 16382000000000000000 (a +ℤ b)
    (omega (arith, ints, ha.0, hb.0), omega (arith, ints, ha.1, hb.1))

quotient_within : (m k : ℕ) (t : ℤ) → 0 < k → neg_ℤ (pos (m * k)) ≤ℤ t → t ≤ℤ pos (m * k)
    → Within m (int_div_euclid t (pos k))
quotient_within m k (pos p) some low high =
    let few = div_below p k (m + 1) some (omega (arith, ints)) in
    (omega (arith, ints), omega (arith, ints))
quotient_within m k (negsuc p) some low high =
    let few = div_below p k m some (omega (arith, ints)) in
    (omega (arith, ints), omega (arith, ints))

-- how far a base lies from its height
risen_within : (a b : ℤ) → Within 8191000000000000000 a → Within 8191000000000000000 b
    → Within 8191000000001 (rounded (a +ℤ b) (pos 2000000))
risen_within a b ha hb =
    let near = within_abs 16382000000000000000 (a +ℤ b) (rise_abs a b ha hb) in
    quotient_within 8191000000001 4000000 ((pos 2 *ℤ (a +ℤ b)) +ℤ pos 2000000) (omega arith)
    (omega (arith, ints, near.0)) (omega (arith, ints, near.1))

-- ---- as the code works them out

-- a part in 64 bits
abbrev pub read_part : ℤ → ℤ → ℤ
read_part rise way = to_z w64 (of_z w64 rise) *ℤ to_z w64 (of_z w64 way)

part_is : (rise : ℤ) (line : ℕ) (cell way : ℤ) → Within 1000000 rise → line < 4096
    → IsFromTo (pos 1) (pos 1000000000) cell
    → way ≡ pos (2 * line + 1) *ℤ to_z w64 (of_z w64 cell) → read_part rise way ≡ part rise line cell
part_is rise line cell way steep few side is =
    let same_rise : to_z w64 (of_z w64 rise) ≡ rise = omega (arith, ints, steep.0, steep.1) in
    let same_cell : to_z w64 (of_z w64 cell) ≡ cell = omega (arith, ints, side.0, side.1) in
    let exact : way ≡ pos (2 * line + 1) *ℤ cell =
    is ∙ ap (λ (z : ℤ). pos (2 * line + 1) *ℤ z) same_cell in
    let near = way_within line cell few side in
    let kept : to_z w64 (of_z w64 (pos (2 * line + 1) *ℤ cell)) ≡ pos (2 * line + 1) *ℤ cell =
    omega (arith, ints, near.0, near.1) in
    ap₂ (λ (y z : ℤ). y *ℤ z) same_rise (ap (λ (z : ℤ). to_z w64 (of_z w64 z)) exact ∙ kept)

pub part_fits : (rise : ℤ) (line : ℕ) (cell way : ℤ) → Within 1000000 rise → line < 4096
    → IsFromTo (pos 1) (pos 1000000000) cell
    → way ≡ pos (2 * line + 1) *ℤ to_z w64 (of_z w64 cell) → FitsSigned w64 (read_part rise way)
part_fits rise line cell way steep few side is =
    let most = abs_within 8191000000000000000 (part rise line cell)
    (part_within rise line cell steep few side) in
    subst (FitsSigned w64) (sym (part_is rise line cell way steep few side is))
    (fits_signed_from_abs w64 (part rise line cell) (omega arith))

part_read : (rise : ℤ) (line : ℕ) (cell way read : ℤ) → Within 1000000 rise → line < 4096
    → IsFromTo (pos 1) (pos 1000000000) cell
    → way ≡ pos (2 * line + 1) *ℤ to_z w64 (of_z w64 cell)
    → read ≡ to_z w64 (of_z w64 (read_part rise way)) → read ≡ part rise line cell
part_read rise line cell way read steep few side is at =
    let near = part_within rise line cell steep few side in
    at ∙ ap (λ (z : ℤ). to_z w64 (of_z w64 z)) (part_is rise line cell way steep few side is)
    ∙ omega (arith, ints, near.0, near.1)

-- the two parts, as the code reads them
pub record AreParts (spec : GridSpec) (base : BasePlane) (col row : ℕ) (east north : ℤ) : Type 0 where
  pub east_is : east ≡ base.rise_east *ℤ twice_way spec col
  pub north_is : north ≡ base.rise_north *ℤ twice_way spec (from_south spec row)
  pub east_near : Within 8191000000000000000 east
  pub north_near : Within 8191000000000000000 north

pub are_parts : (spec : GridSpec) (base : BasePlane) (col row : ℕ)
    (east_way north_way east north : ℤ)
    → IsGridSpec spec → IsBasePlane base → col < spec.cols → row < spec.rows
    → east_way ≡ pos (2 * col + 1) *ℤ to_z w64 (of_z w64 spec.cell)
    → north_way ≡ pos (2 * from_south spec row + 1) *ℤ to_z w64 (of_z w64 spec.cell)
    → east ≡ to_z w64 (of_z w64 (read_part base.rise_east east_way))
    → north ≡ to_z w64 (of_z w64 (read_part base.rise_north north_way))
    → AreParts spec base col row east north
are_parts spec base col row east_way north_way east north ranges in_range in_cols in_rows of_east
    of_north is_east is_north =
    let line = from_south spec row in
    let few_cols : col < 4096 = omega (arith, in_cols, ranges.cols_in_range.1) in
    let few_rows : line < 4096 = omega (arith, in_rows, ranges.rows_in_range.1) in
    let steep_east = in_range.rise_east_in_range in
    let steep_north = in_range.rise_north_in_range in
    let side = ranges.cell_in_range in
    let first = part_read base.rise_east col spec.cell east_way east steep_east few_cols side
    of_east is_east in
    let second = part_read base.rise_north line spec.cell north_way north steep_north few_rows side
    of_north is_north in
    record {
      east_is = first;
      north_is = second;
      east_near = subst (Within 8191000000000000000) (sym first)
          (part_within base.rise_east col spec.cell steep_east few_cols side);
      north_near = subst (Within 8191000000000000000) (sym second)
          (part_within base.rise_north line spec.cell steep_north few_rows side);
    }

-- two parts in 128 bits
abbrev pub read_rise : ℤ → ℤ → ℤ
read_rise a b = to_z w128 (of_z w128 a) +ℤ to_z w128 (of_z w128 b)

pub rise_fits : (a b : ℤ) → Within 8191000000000000000 a → Within 8191000000000000000 b
    → FitsSigned w128 (read_rise a b)
rise_fits a b ha hb =
    let same : read_rise a b ≡ a +ℤ b = omega (arith, ints, ha.0, ha.1, hb.0, hb.1) in
    let most = rise_abs a b ha hb in
    subst (FitsSigned w128) (sym same) (fits_signed_from_abs w128 (a +ℤ b) (omega arith))

rise_is : (a b : ℤ) → Within 8191000000000000000 a → Within 8191000000000000000 b
    → to_z w128 (of_z w128 (read_rise a b)) ≡ a +ℤ b
rise_is a b ha hb = omega (arith, ints, ha.0, ha.1, hb.0, hb.1)

pub rise_near : (a b : ℤ) → Within 8191000000000000000 a → Within 8191000000000000000 b
    → Within (2 ^ 120) (to_z w128 (of_z w128 (read_rise a b)))
rise_near a b ha hb =
    let most = rise_abs a b ha hb in
    subst (Within (2 ^ 120)) (sym (rise_is a b ha hb)) (within_abs (2 ^ 120) (a +ℤ b) (omega arith))

-- the rounded quotient, and the base with it
pub risen_is : (a b r : ℤ) → Within 8191000000000000000 a → Within 8191000000000000000 b
    → r ≡ rounded (to_z w128 (of_z w128 (read_rise a b))) (pos 2000000)
    → r ≡ rounded (a +ℤ b) (pos 2000000)
risen_is a b r ha hb is = is ∙ ap (λ (z : ℤ). rounded z (pos 2000000)) (rise_is a b ha hb)

pub risen_near : (a b r : ℤ) → Within 8191000000000000000 a → Within 8191000000000000000 b
    → r ≡ rounded (a +ℤ b) (pos 2000000)
    → Within 8191000000001 r
risen_near a b r ha hb is = subst (Within 8191000000001) (sym is) (risen_within a b ha hb)

pub cast_fits : (r : ℤ) → Within 8191000000001 r → FitsSigned w64 (to_z w128 (of_z w128 r))
cast_fits r near =
    let same : to_z w128 (of_z w128 r) ≡ r = omega (arith, ints, near.0, near.1) in
    let most = abs_within 8191000000001 r near in
    subst (FitsSigned w64) (sym same) (fits_signed_from_abs w64 r (omega arith))

abbrev pub read_base : ℤ → ℤ → ℤ
read_base height r = to_z w64 (of_z w64 height) +ℤ to_z w64 (of_z w64 (to_z w128 (of_z w128 r)))

base_is : (height r : ℤ) → Within 2000000000 height → Within 8191000000001 r
    → read_base height r ≡ height +ℤ r
base_is height r low near =
    let cast : to_z w128 (of_z w128 r) ≡ r = omega (arith, ints, near.0, near.1) in
    let kept : to_z w64 (of_z w64 r) ≡ r = omega (arith, ints, near.0, near.1) in
    let same : to_z w64 (of_z w64 height) ≡ height = omega (arith, ints, low.0, low.1) in
    ap₂ (λ (y z : ℤ). y +ℤ z) same (ap (λ (z : ℤ). to_z w64 (of_z w64 z)) cast ∙ kept)

pub base_fits : (height r : ℤ) → Within 2000000000 height → Within 8191000000001 r
    → FitsSigned w64 (read_base height r)
base_fits height r low near =
    let sum : Within 8193000000001 (height +ℤ r) =
    (omega (arith, ints, low.0, near.0), omega (arith, ints, low.1, near.1)) in
    let most = abs_within 8193000000001 (height +ℤ r) sum in
    subst (FitsSigned w64) (sym (base_is height r low near))
    (fits_signed_from_abs w64 (height +ℤ r) (omega arith))

pub base_read : (height r : ℤ) → Within 2000000000 height → Within 8191000000001 r
    → to_z w64 (of_z w64 (read_base height r)) ≡ height +ℤ r
base_read height r low near =
    ap (λ (z : ℤ). to_z w64 (of_z w64 z)) (base_is height r low near)
    ∙ omega (arith, ints, low.0, low.1, near.0, near.1)

-- ---- the base lies between those of the corner cells

divided_rises : (s t : ℤ) (k : ℕ) → 0 < k → s ≤ℤ t
    → int_div_euclid s (pos k) ≤ℤ int_div_euclid t (pos k)
divided_rises (pos a) (pos b) k some h =
    let more = le-div (a / k) b k some (omega (arith, ints, div-mul-le_self a k)) in
    omega (arith, ints)
divided_rises (pos a) (negsuc b) k some h = absurd (omega (arith, ints))
divided_rises (negsuc a) (pos b) k some h = omega (arith, ints)
divided_rises (negsuc a) (negsuc b) k some h =
    let more = le-div (b / k) a k some (omega (arith, ints, div-mul-le_self b k)) in
    omega (arith, ints)

rounded_rises : (a b : ℤ) → a ≤ℤ b → rounded a (pos 2000000) ≤ℤ rounded b (pos 2000000)
rounded_rises a b h =
    divided_rises ((pos 2 *ℤ a) +ℤ pos 2000000) ((pos 2 *ℤ b) +ℤ pos 2000000) 4000000
    (omega arith) (omega (arith, ints, h))

product_rises : (c a b : ℤ) → pos 0 ≤ℤ c → a ≤ℤ b → (c *ℤ a) ≤ℤ (c *ℤ b)
product_rises (pos n) a b hc h =
    let wide : up a + down b ≤ up b + down a = omega (arith, ints, h) in
    let same : n ≤ n = omega arith in
    let times : n * (up a + down b) ≤ n * (up b + down a) = mul-le-mul same wide in
    omega (arith, ints, times)
product_rises (negsuc n) a b hc h = absurd (omega (arith, ints))

product_falls : (n : ℕ) (a b : ℤ) → a ≤ℤ b → (negsuc n *ℤ b) ≤ℤ (negsuc n *ℤ a)
product_falls n a b h =
    let rises = product_rises (pos (n + 1)) a b (omega (arith, ints)) h in
    omega (arith, ints, rises)

way_rises : (cell : ℤ) (k l : ℕ) → pos 1 ≤ℤ cell → k ≤ l
    → (pos (2 * k + 1) *ℤ cell) ≤ℤ (pos (2 * l + 1) *ℤ cell)
way_rises cell k l some h =
    let rises = product_rises cell (pos (2 * k + 1)) (pos (2 * l + 1))
    (omega (arith, ints, some)) (omega (arith, ints)) in
    omega (arith, ints, rises)

-- the base so far to the east and to the north is a height
abbrev Based : ℤ → ℤ → ℤ → ℤ → ℤ → Type 0
Based height rise_east rise_north east north =
    IsHeight (height +ℤ rounded ((rise_east *ℤ east) +ℤ (rise_north *ℤ north)) (pos 2000000))

height_between : (height a b c : ℤ) → a ≤ℤ b → b ≤ℤ c → IsHeight (height +ℤ a)
    → IsHeight (height +ℤ c) → IsHeight (height +ℤ b)
height_between height a b c lower upper low high =
    (omega (arith, ints, lower, low.0), omega (arith, ints, upper, high.1))

risen_between : (height a b c d e f : ℤ) → a ≤ℤ b → b ≤ℤ c → d ≤ℤ e → e ≤ℤ f
    → IsHeight (height +ℤ rounded (a +ℤ d) (pos 2000000))
    → IsHeight (height +ℤ rounded (c +ℤ f) (pos 2000000))
    → IsHeight (height +ℤ rounded (b +ℤ e) (pos 2000000))
risen_between height a b c d e f ab bc de ef low high =
    height_between height (rounded (a +ℤ d) (pos 2000000)) (rounded (b +ℤ e) (pos 2000000))
    (rounded (c +ℤ f) (pos 2000000))
    (rounded_rises (a +ℤ d) (b +ℤ e) (omega (arith, ints, ab, de)))
    (rounded_rises (b +ℤ e) (c +ℤ f) (omega (arith, ints, bc, ef))) low high

-- from a south-western corner to a north-eastern one
based_between : (height rise_east rise_north west at east south here north : ℤ)
    → west ≤ℤ at → at ≤ℤ east → south ≤ℤ here → here ≤ℤ north
    → Based height rise_east rise_north west north → Based height rise_east rise_north east north
    → Based height rise_east rise_north west south → Based height rise_east rise_north east south
    → Based height rise_east rise_north at here
based_between height (pos p) (pos q) west at east south here north wa ae sh hn wn en ws es =
    let some : pos 0 ≤ℤ pos p = omega (arith, ints) in
    let more : pos 0 ≤ℤ pos q = omega (arith, ints) in
    risen_between height _ _ _ _ _ _ (product_rises (pos p) west at some wa)
    (product_rises (pos p) at east some ae)
    (product_rises (pos q) south here more sh) (product_rises (pos q) here north more hn) ws en
based_between height (pos p) (negsuc q) west at east south here north wa ae sh hn wn en ws es =
    let some : pos 0 ≤ℤ pos p = omega (arith, ints) in
    risen_between height _ _ _ _ _ _ (product_rises (pos p) west at some wa)
    (product_rises (pos p) at east some ae)
    (product_falls q here north hn) (product_falls q south here sh) wn es
based_between height (negsuc p) (pos q) west at east south here north wa ae sh hn wn en ws es =
    let more : pos 0 ≤ℤ pos q = omega (arith, ints) in
    risen_between height _ _ _ _ _ _ (product_falls p at east ae) (product_falls p west at wa)
    (product_rises (pos q) south here more sh) (product_rises (pos q) here north more hn) es wn
based_between height (negsuc p) (negsuc q) west at east south here north wa ae sh hn wn en ws es =
    risen_between height _ _ _ _ _ _ (product_falls p at east ae) (product_falls p west at wa)
    (product_falls q here north hn) (product_falls q south here sh) en ws

at_least : (a b : ℤ) → int_le a b ≡ true → a ≤ℤ b
at_least a b e = grind (arith, ints)

both_hold : (a b : Bool) → (a && b) ≡ true → (a ≡ true) × (b ≡ true)
both_hold true b e = (refl, e)
both_hold false b e = absurd (cc)

tested : (z : ℤ) → is_height z ≡ true → IsHeight z
tested z e =
    let both = both_hold (int_le (neg_ℤ (pos 2000000000)) z) (int_le z (pos 2000000000)) e in
    (at_least (neg_ℤ (pos 2000000000)) z both.0, at_least z (pos 2000000000) both.1)

all_tested : (a b c d : ℤ)
    → (is_height a && (is_height b && (is_height c && (is_height d && true)))) ≡ true
    → IsHeight a × (IsHeight b × (IsHeight c × IsHeight d))
all_tested a b c d e =
    let first = both_hold (is_height a) (is_height b && (is_height c && (is_height d && true))) e in
    let second = both_hold (is_height b) (is_height c && (is_height d && true)) first.1 in
    let third = both_hold (is_height c) (is_height d && true) second.1 in
    let fourth = both_hold (is_height d) true third.1 in
    (tested a first.0, (tested b second.0, (tested c third.0, tested d fourth.0)))

-- where the corner cells' bases are heights, so is that of each cell
pub based_everywhere : (spec : GridSpec) (area : Area) (col row : ℕ) → IsGridSpec spec
    → LiesIn spec area → IsTrue (has_base spec area)
    → area.col ≤ col → col < area.col + area.cols → area.row ≤ row → row < area.row + area.rows
    → IsHeight (base_at spec area.base col row)
unfolding has_base base_at
based_everywhere spec area col row ranges inside based from_west to_east from_north to_south =
    let base = area.base in
    let east = area.col + area.cols - 1 in
    let south = area.row + area.rows - 1 in
    let some = ranges.cell_in_range.0 in
    let corners = all_tested
    (base_at spec base area.col area.row) (base_at spec base east area.row)
    (base_at spec base area.col south) (base_at spec base east south) based in
    based_between base.height base.rise_east base.rise_north
    (twice_way spec area.col) (twice_way spec col) (twice_way spec east)
    (twice_way spec (from_south spec south)) (twice_way spec (from_south spec row))
    (twice_way spec (from_south spec area.row))
    (way_rises spec.cell area.col col some from_west)
    (way_rises spec.cell col east some (omega arith))
    (way_rises spec.cell (from_south spec south) (from_south spec row) some (omega arith))
    (way_rises spec.cell (from_south spec row) (from_south spec area.row) some (omega arith))
    corners.0 corners.1.0 corners.1.1.0 corners.1.1.1
