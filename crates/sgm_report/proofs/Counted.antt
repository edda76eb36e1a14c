-- What one cell more makes of the sums of some cells.
use Rattle.std.proofs.Common.{◌≡◌, ℕ, ◌+◌, ◌*◌, ◌≤◌, ◌++◌, Bool, true, false, not, List, [], ◌∷◌, ℤ, pos, negsuc, Fits, ◌-ℤ◌, ◌≤ℤ◌, to_z, of_z, w32, w64, Option, Some, None, refl, sym, ap, ◌∙◌, arith, append-nil, cond}
use Rattle.std.specs.Prelude.{count_by, sum_by, unsigned_abs}
use Rattle.std.specs.Int.{int_max, int_min}
use Rattle.std.proofs.lemmas.List.Sums.{fold_push, sum_by-cons, sum_by_push}
use Rattle.std.proofs.lemmas.List.Elements.{filter_map-append}
use Rattle.std.proofs.lemmas.Nat.{mul-le}
use Rattle.std.proofs.Math.Facts.{Fits-of_lt}
use mir.Syntax.{w128}
use mir.Val.{bool_byte}
use Rattle.std.proofs.lemmas.Int.{ints, clamps}
use Rattle.sgm_grid.specs.Cells.{IsHeight}
use Rattle.sgm_grid.specs.Points.{greatest, higher}
use Rattle.sgm_report.specs.Sums.{HasRoom, lower, most_apart, most_cells, sums_over}
use Rattle.sgm_report.specs.Tallies.{above, above_base, below, below_base, has_height, heights_in, is_bridged, is_empty, least, square, tally_over}
use Rattle.sgm_report.specs.declared.volumes.RegionCell.{RegionCell}
use Rattle.sgm_report.specs.declared.volumes.RegionTally.{RegionTally}
use Rattle.sgm_report.specs.declared.volumes.Sums.{Sums}

abbrev pub sums_from : ℕ → ℕ → ℕ → ℕ → ℕ → Option ℤ → Option ℤ → Sums
sums_from some more none over under low high =
    record { cells = some; bridged = more; empty = none; above = over; below = under; lowest = low; highest = high }

same_sums : (a b c d e a2 b2 c2 d2 e2 : ℕ) (f g f2 g2 : Option ℤ)
    → a ≡ a2 → b ≡ b2 → c ≡ c2 → d ≡ d2 → e ≡ e2 → f ≡ f2 → g ≡ g2
    → sums_from a b c d e f g ≡ sums_from a2 b2 c2 d2 e2 f2 g2
same_sums a b c d e a2 b2 c2 d2 e2 f g f2 g2 pa pb pc pd pe pf pg =
    ap (λ (n : ℕ). sums_from n b c d e f g) pa
    ∙ ap (λ (n : ℕ). sums_from a2 n c d e f g) pb
    ∙ ap (λ (n : ℕ). sums_from a2 b2 n d e f g) pc
    ∙ ap (λ (n : ℕ). sums_from a2 b2 c2 n e f g) pd
    ∙ ap (λ (n : ℕ). sums_from a2 b2 c2 d2 n f g) pe
    ∙ ap (λ (o : Option ℤ). sums_from a2 b2 c2 d2 e2 o g) pf
    ∙ ap (λ (o : Option ℤ). sums_from a2 b2 c2 d2 e2 f2 o) pg

pub least_push : (hs : List ℤ) (h : ℤ) → least (hs ++ h ∷ []) ≡ Some (lower (least hs) h)
least_push [] h = refl
least_push (x ∷ xs) h = ap Some (fold_push int_min x xs h)

pub greatest_push : (hs : List ℤ) (h : ℤ) → greatest (hs ++ h ∷ []) ≡ Some (higher (greatest hs) h)
greatest_push [] h = refl
greatest_push (x ∷ xs) h = ap Some (fold_push int_max x xs h)

-- a cell without a height, and one with
abbrev pub empty_cell : Bool → ℤ → RegionCell
empty_cell known base = record { height = None; measured = known; base = base }

abbrev pub full_cell : ℤ → Bool → ℤ → RegionCell
full_cell h known base = record { height = Some h; measured = known; base = base }

-- a cell whose height is known to be that
pub of_height : (cell : RegionCell) (height : Option ℤ) → cell.height ≡ height
    → cell ≡ record { height = height; measured = cell.measured; base = cell.base }
of_height cell height e = ap (λ (o : Option ℤ). record { height = o; measured = cell.measured; base = cell.base }) e

heights_none : (cells : List RegionCell) (known : Bool) (base : ℤ)
    → heights_in (cells ++ empty_cell known base ∷ []) ≡ heights_in cells
heights_none cells known base =
    filter_map-append (λ (cell : RegionCell). cell.height) cells (empty_cell known base ∷ []) ∙ append-nil (heights_in cells)

heights_some : (cells : List RegionCell) (h : ℤ) (known : Bool) (base : ℤ)
    → heights_in (cells ++ full_cell h known base ∷ []) ≡ heights_in cells ++ h ∷ []
heights_some cells h known base = filter_map-append (λ (cell : RegionCell). cell.height) cells (full_cell h known base ∷ [])

-- a sum and what a cell more adds, where it adds nothing
unmoved : (f : RegionCell → ℕ) (cells : List RegionCell) (cell : RegionCell) → f cell ≡ 0
    → sum_by f cells ≡ sum_by f (cells ++ cell ∷ [])
unmoved f cells cell none = omega (arith, sum_by_push f cells cell, none)

-- and where it adds so much
moved : (f : RegionCell → ℕ) (cells : List RegionCell) (cell : RegionCell) (held n : ℕ) → held ≡ sum_by f cells → n ≡ f cell
    → held + n ≡ sum_by f (cells ++ cell ∷ [])
moved f cells cell held n e more = omega (arith, sum_by_push f cells cell, e, more)

-- an empty cell more
pub with_none : (cells : List RegionCell) (s : Sums) (known : Bool) (base : ℤ) → s ≡ sums_over cells
    → sums_from s.cells s.bridged (s.empty + 1) s.above s.below s.lowest s.highest
    ≡ sums_over (cells ++ empty_cell known base ∷ [])
with_none cells s known base e =
    let cell = empty_cell known base in
    let hs : heights_in (cells ++ cell ∷ []) ≡ heights_in cells = heights_none cells known base in
    same_sums _ _ _ _ _ _ _ _ _ _ _ _ _ _
    (ap (λ (t : Sums). t.cells) e ∙ unmoved (λ (c : RegionCell). cond (has_height c) 1 0) cells cell refl)
    (ap (λ (t : Sums). t.bridged) e ∙ unmoved (λ (c : RegionCell). cond (is_bridged c) 1 0) cells cell refl)
    (moved (λ (c : RegionCell). cond (is_empty c) 1 0) cells cell s.empty 1 (ap (λ (t : Sums). t.empty) e) refl)
    (ap (λ (t : Sums). t.above) e ∙ unmoved (λ (c : RegionCell). above_base c.base c.height) cells cell refl)
    (ap (λ (t : Sums). t.below) e ∙ unmoved (λ (c : RegionCell). below_base c.base c.height) cells cell refl)
    (ap (λ (t : Sums). t.lowest) e ∙ ap least (sym hs))
    (ap (λ (t : Sums). t.highest) e ∙ ap greatest (sym hs))

-- a height more
pub with_some : (cells : List RegionCell) (s : Sums) (h : ℤ) (known : Bool) (base : ℤ) (more over under : ℕ) (low high : ℤ)
    → s ≡ sums_over cells → more ≡ cond (not known) 1 0 → over ≡ above base h → under ≡ below base h
    → low ≡ lower s.lowest h → high ≡ higher s.highest h
    → sums_from (s.cells + 1) (s.bridged + more) s.empty (s.above + over) (s.below + under) (Some low) (Some high)
    ≡ sums_over (cells ++ full_cell h known base ∷ [])
with_some cells s h known base more over under low high e pm po pu pl ph =
    let cell = full_cell h known base in
    let hs : heights_in (cells ++ cell ∷ []) ≡ heights_in cells ++ h ∷ [] = heights_some cells h known base in
    same_sums _ _ _ _ _ _ _ _ _ _ _ _ _ _
    (moved (λ (c : RegionCell). cond (has_height c) 1 0) cells cell s.cells 1 (ap (λ (t : Sums). t.cells) e) refl)
    (moved (λ (c : RegionCell). cond (is_bridged c) 1 0) cells cell s.bridged more (ap (λ (t : Sums). t.bridged) e) pm)
    (ap (λ (t : Sums). t.empty) e ∙ unmoved (λ (c : RegionCell). cond (is_empty c) 1 0) cells cell refl)
    (moved (λ (c : RegionCell). above_base c.base c.height) cells cell s.above over (ap (λ (t : Sums). t.above) e) po)
    (moved (λ (c : RegionCell). below_base c.base c.height) cells cell s.below under (ap (λ (t : Sums). t.below) e) pu)
    (ap Some (pl ∙ ap (λ (t : Sums). lower t.lowest h) e) ∙ sym (least_push (heights_in cells) h) ∙ ap least (sym hs))
    (ap Some (ph ∙ ap (λ (t : Sums). higher t.highest h) e) ∙ sym (greatest_push (heights_in cells) h) ∙ ap greatest (sym hs))

-- what the code computes of a height and a base
pub code_above : (h base over : ℤ) → IsHeight h → IsHeight base
    → over ≡ int_max (to_z w64 (of_z w64 (to_z w64 (of_z w64 (to_z w32 (of_z w32 h))) -ℤ to_z w64 (of_z w64 base)))) (pos 0)
    → unsigned_abs (to_z w64 (of_z w64 over)) ≡ above base h
code_above h base over ph pb e =
    let same : to_z w64 (of_z w64 over) ≡ int_max (pos 0) (h -ℤ base) = omega (arith, ints, clamps, ph.0, ph.1, pb.0, pb.1) in
    ap unsigned_abs same

pub code_below : (h base under : ℤ) → IsHeight h → IsHeight base
    → under ≡ int_max (to_z w64 (of_z w64 (pos 0 -ℤ to_z w64 (of_z w64 (to_z w64 (of_z w64 (to_z w32 (of_z w32 h))) -ℤ to_z w64 (of_z w64 base)))))) (pos 0)
    → unsigned_abs (to_z w64 (of_z w64 under)) ≡ below base h
code_below h base under ph pb e =
    let same : to_z w64 (of_z w64 under) ≡ int_max (pos 0) (base -ℤ h) = omega (arith, ints, clamps, ph.0, ph.1, pb.0, pb.1) in
    ap unsigned_abs same

-- a base that the code passes on
pub base_kept : (passed base : ℤ) → passed ≡ base → IsHeight base → to_z w64 (of_z w64 passed) ≡ base
base_kept passed base e range = omega (arith, ints, e, range.0, range.1)

pub abs_at_most : (z : ℤ) (n : ℕ) → pos 0 ≤ℤ z → z ≤ℤ pos n → unsigned_abs z ≤ n
abs_at_most (pos m) n low high = omega (arith, ints)
abs_at_most (negsuc m) n low high = absurd (omega (arith, ints))

-- a height and a base aren't farther apart than that
pub above-le : (base h : ℤ) → IsHeight h → IsHeight base → above base h ≤ most_apart
above-le base h ph pb =
    abs_at_most (int_max (pos 0) (h -ℤ base)) most_apart (omega (arith, ints, clamps)) (omega (arith, ints, clamps, ph.0, ph.1, pb.0, pb.1))

pub below-le : (base h : ℤ) → IsHeight h → IsHeight base → below base h ≤ most_apart
below-le base h ph pb =
    abs_at_most (int_max (pos 0) (base -ℤ h)) most_apart (omega (arith, ints, clamps)) (omega (arith, ints, clamps, ph.0, ph.1, pb.0, pb.1))

-- a bool as a number
pub byte_is : (b : Bool) → bool_byte b ≡ cond b 1 0
byte_is true = refl
byte_is false = refl

pub byte-le : (b : Bool) → bool_byte b ≤ 1
byte-le true = omega arith
byte-le false = omega arith

-- a height more takes the room of one cell
pub room_after : (s : Sums) (more over under left : ℕ) (low high : Option ℤ) → more ≤ 1 → over ≤ most_apart → under ≤ most_apart
    → HasRoom s (left + 1)
    → HasRoom (sums_from (s.cells + 1) (s.bridged + more) s.empty (s.above + over) (s.below + under) low high) left
room_after s more over under left low high pm po pu room = record {
  counts = omega (arith, room.counts);
  bridges = omega (arith, room.bridges);
  heights_above = omega (arith, room.heights_above);
  heights_below = omega (arith, room.heights_below);
}

-- room for some cells is room for fewer
pub room_for_fewer : (s : Sums) (n m : ℕ) → m ≤ n → HasRoom s n → HasRoom s m
room_for_fewer s n m fewer room = record {
  counts = omega (arith, fewer, room.counts);
  bridges = room.bridges;
  heights_above = omega (arith, fewer, room.heights_above);
  heights_below = omega (arith, fewer, room.heights_below);
}

-- a factor of each is one of the sum
pub sum_by-times : {X : Type 0} (f : X → ℕ) (k : ℕ) (xs : List X) → sum_by (λ x. f x * k) xs ≡ sum_by f xs * k
sum_by-times f k [] = omega arith
sum_by-times {X} f k (x ∷ xs) =
    let apart : f x * k + sum_by f xs * k ≡ (f x + sum_by f xs) * k = omega arith in
    sum_by-cons (λ (y : X). f y * k) x xs
    ∙ ap (λ (n : ℕ). f x * k + n) (sum_by-times f k xs)
    ∙ apart
    ∙ ap (λ (n : ℕ). n * k) (sym (sum_by-cons f x xs))

abbrev tally_from : ℕ → ℕ → ℕ → ℕ → ℕ → Option ℤ → Option ℤ → RegionTally
tally_from some more none over under low high =
    record { cells = some; bridged = more; empty = none; fill = over; cut = under; lowest = low; highest = high }

-- the tally where a cell covers that ground
pub tally_is : (side : ℤ) (cells : List RegionCell) (s : Sums) (ground : ℕ) → s ≡ sums_over cells → ground ≡ square side
    → tally_from s.cells s.bridged s.empty (s.above * ground) (s.below * ground) s.lowest s.highest ≡ tally_over side cells
tally_is side cells s ground e g =
    let some = count_by has_height cells in
    let more = count_by is_bridged cells in
    let none = count_by is_empty cells in
    let low = least (heights_in cells) in
    let high = greatest (heights_in cells) in
    let over : RegionCell → ℕ = λ (cell : RegionCell). above_base cell.base cell.height in
    let under : RegionCell → ℕ = λ (cell : RegionCell). below_base cell.base cell.height in
    ap (λ (t : Sums). tally_from t.cells t.bridged t.empty (t.above * ground) (t.below * ground) t.lowest t.highest) e
    ∙ ap (λ (n : ℕ). tally_from some more none (sum_by over cells * n) (sum_by under cells * n) low high) g
    ∙ ap (λ (n : ℕ). tally_from some more none n (sum_by under cells * square side) low high)
    (sym (sum_by-times over (square side) cells))
    ∙ ap (λ (n : ℕ). tally_from some more none (sum_by (λ cell. over cell * square side) cells) n low high)
    (sym (sum_by-times under (square side) cells))

-- the volume of the most and largest cells fits 128 bits
pub volume_fits : (side sum : ℕ) → side ≤ 1000000000 → sum ≤ most_cells * most_apart → Fits w128 (sum * (side * side))
volume_fits side sum ps pm =
    let ground : side * side ≤ 1000000000 * 1000000000 = mul-le side side 1000000000 1000000000 ps ps in
    let volume : sum * (side * side) ≤ (most_cells * most_apart) * (1000000000 * 1000000000) = mul-le sum (side * side) _ _ pm ground in
    Fits-of_lt (omega (arith, volume))
