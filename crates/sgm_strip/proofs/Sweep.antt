-- From one row of a strip to the next.
use Rattle.std.proofs.Common.{◌≡◌, ℕ, ◌+◌, ◌-◌, ◌*◌, ◌/◌, ◌<◌, ◌≤◌, ◌⊎◌, ◌||◌, Bool, true, false, cond, ltb, List, ◌++◌, length, take, drop, slice_index, slice_range, Option, Some, refl, sym, ap, ◌∙◌, subst, inl, inr, arith, ◌≢◌}
use Rattle.std.proofs.lemmas.Bool.{cases_eq, cases_lt, lt-ltb, le-ltb, true≢false}
use Rattle.std.proofs.lemmas.Nat.{div-add-mod', div-mul-add, mul-add-lt, mul-le}
use Rattle.sgm_base.specs.Values.{Values, row_of}
use Rattle.sgm_energy.specs.declared.dir.Dir.{Dir}
use Rattle.sgm_energy.specs.declared.dir.Dir.TheVariants.{Right, Left, Down, DownRight, DownLeft, Up, UpRight, UpLeft}
use Rattle.sgm_energy.specs.Dirs.{goes_down, is_level}
use Rattle.sgm_energy.specs.Rays.{Pixel, pixel_at, Problem, row_before}
use Rattle.sgm_energy.specs.Energies.{path_value}
use Rattle.sgm_energy.specs.Pens.{Penalties}
use Rattle.sgm_energy.specs.Rows.{HoldsRow}
use Rattle.sgm_energy.proofs.RayLemmas.{minus_one, minus_up}
use Rattle.sgm_path.specs.Paths.{far_between, HasFar}
use Rattle.sgm_path.proofs.Follow.{mid_at, mid_others, mid_was}
use Rattle.sgm_strip.specs.Volumes.{HoldsRows}
use Rattle.sgm_strip.specs.Passing.{AddsAt, ComesBefore, HoldsBefore, SuitsRow, SuitsRows, visited}
use Rattle.sgm_strip.proofs.Guides.{rows_far}
use Rattle.sgm_strip.proofs.Rows.{row_holds}

-- ---- the order of the rows
turned : (b : Bool) (rows i : ℕ) → i < rows → (cond b i (rows - (i + 1)) < rows) × (cond b (cond b i (rows - (i + 1))) (rows - (cond b i (rows - (i + 1)) + 1)) ≡ i)
turned true rows i h = (h, refl)
turned false rows i h = (omega arith, omega arith)

pub visited_inside : (dir : Dir) (rows i : ℕ) → i < rows → visited dir rows i < rows
visited_inside dir rows i h = (turned (goes_down dir) rows i h).0

pub visited_back : (dir : Dir) (rows i : ℕ) → i < rows → visited dir rows (visited dir rows i) ≡ i
visited_back dir rows i h = (turned (goes_down dir) rows i h).1

-- the row visited last is the one that comes before the next
above : (height top i : ℕ) → top + i < height → row_before Down height (top + (i + 1)) ≡ Some (top + i)
above height top i h =
    let e : top + (i + 1) - 1 ≡ top + i = omega arith in
    minus_one height (top + (i + 1)) (omega arith) (omega arith) ∙ ap (λ m. Some m) e

under : (height top rows i : ℕ) → i + 1 < rows → top + rows ≤ height → row_before Up height (top + (rows - (i + 1 + 1))) ≡ Some (top + (rows - (i + 1)))
under height top rows i h k =
    let e : top + (rows - (i + 1 + 1)) + 1 ≡ top + (rows - (i + 1)) = omega arith in
    minus_up height (top + (rows - (i + 1 + 1))) (omega arith) ∙ ap (λ m. Some m) e

comes_next : (dir : Dir) (height top rows i : ℕ) → is_level dir ≡ false → i + 1 < rows → top + rows ≤ height → row_before dir height (top + visited dir rows (i + 1)) ≡ Some (top + visited dir rows i)
comes_next Right height top rows i e h k = absurd (true≢false e)
comes_next Left height top rows i e h k = absurd (true≢false e)
comes_next Down height top rows i e h k = above height top i (omega arith)
comes_next DownRight height top rows i e h k = above height top i (omega arith)
comes_next DownLeft height top rows i e h k = above height top i (omega arith)
comes_next Up height top rows i e h k = under height top rows i h k
comes_next UpRight height top rows i e h k = under height top rows i h k
comes_next UpLeft height top rows i e h k = under height top rows i h k

-- ---- a row of a strip
-- sums that are split in three, once the values of a row are added to the part in the middle
pub adds_at : (at n : ℕ) (row old front here rest after now : List ℕ) → length row ≡ n
    → front ≡ take at old → length front ≡ at → rest ≡ drop at old → here ≡ take n rest
    → after ≡ drop n rest → length now ≡ n
    → ((k : ℕ) → k < length now → slice_index now k ≡ slice_index here k + slice_index row k)
    → AddsAt at row old (front ++ (now ++ after))
adds_at at n row old front here rest after now lr ef lf er eh ea ln added = record {
  each = λ k h.
      let inside : k < length now = omega (arith, h, lr, ln) in
      mid_at front now after at k lf inside
      ∙ added k inside
      ∙ ap (λ v. v + slice_index row k) (mid_was old here rest at n k eh er (omega (arith, h, lr)));
  others = λ k h.
      mid_others old front now after at n k ef (ea ∙ ap (drop n) er) lf ln
      (subst (λ m. (k < at) ⊎ (at + m ≤ k)) lr h);
}

pub rows_are : (g : Problem) (top rows : ℕ) (penalties : Penalties) (guide : Values) (count row : ℕ) (costs : List ℕ) → SuitsRows g top rows penalties guide count row costs → 0 < row → length costs / row ≡ rows
rows_are g top rows penalties guide count row costs s h =
    let e : length costs ≡ rows * row + 0 = omega (arith, s.holds.whole, ap (λ n. rows * n) s.same_row) in
    ap (λ n. n / row) e ∙ div-mul-add rows row 0 h

-- one of its rows, with its guide and that of the row from which the direction comes
pub row_suits : (g : Problem) (dir : Dir) (top rows : ℕ) (penalties : Penalties) (guide : Values) (count n r from : ℕ) (costs : List ℕ) (here before : List (Option ℕ))
    → SuitsRows g top rows penalties guide count n costs → r < rows → from < guide.height → ((b : ℕ) → row_before dir guide.height (top + r) ≡ Some b → from ≡ b)
    → here ≡ row_of guide (top + r) → before ≡ row_of guide from
    → SuitsRow g dir (top + r) penalties.p1 count (far_between penalties here before) (slice_range costs (r * n) (r * n + n))
row_suits g dir top rows penalties guide count n r from costs here before s l inside comes eh eb = record {
  suits = record {
    same_count = s.same_count;
    same_p1 = s.same_p1;
    inside = omega (arith, s.inside);
    holds = row_holds g top rows g.cost costs n r s.same_row s.holds l;
  };
  has_far = λ b e.
      let is : from ≡ b = comes b (subst (λ h. row_before dir h (top + r) ≡ Some b) s.same_height e) in
      subst (λ k. HasFar g k (top + r) (far_between penalties here before)) is
      (subst (λ us. HasFar g from (top + r) (far_between penalties us before)) (sym eh)
      (subst (λ us. HasFar g from (top + r) (far_between penalties (row_of guide (top + r)) us)) (sym eb)
      (rows_far g penalties guide from (top + r) s.same_far s.same_width inside (omega (arith, s.inside, s.same_height)))));
}

-- ---- after i visits: which row stands in last, and what was added
pub record Done (g : Problem) (dir : Dir) (top rows i n : ℕ) (start last old new : List ℕ) : Type 0 where
  pub started : i ≡ 0 → last ≡ start
  pub handed : 0 < i → HoldsRow g (top + visited dir rows (i - 1)) (path_value g dir) last
  pub added : (r x d : ℕ) → r < rows → x < g.width → d < g.count → visited dir rows r < i
      → slice_index new (r * n + (x * g.count + d)) ≡ slice_index old (r * n + (x * g.count + d)) + path_value g dir (pixel_at x (top + r)) d

or_true : (a b : Bool) → b ≡ true → (a || b) ≡ true
or_true true b e = refl
or_true false b e = e

or_false : (a b : Bool) → b ≡ false → (a || b) ≡ a
or_false true b e = refl
or_false false b e = e

-- before the visit i the row in last comes before it
before_visit : (g : Problem) (dir : Dir) (top rows i n : ℕ) (begun : Bool) (start last old new : List ℕ) → top + rows ≤ g.height → is_level dir ≡ false → i < rows
    → ComesBefore g dir (top + visited dir rows 0) begun start → Done g dir top rows i n start last old new → ComesBefore g dir (top + visited dir rows i) (begun || ltb 0 i) last
before_visit g dir top rows i n begun start last old new inside level h c w = elim (cases_lt 0 i) [
  | inl l ↦ (let e : i - 1 + 1 ≡ i = omega arith in
      let b : (begun || ltb 0 i) ≡ true = or_true begun (ltb 0 i) (lt-ltb 0 i l) in
      subst (λ t. ComesBefore g dir (top + visited dir rows i) t last) (sym b)
      (record {
        row = top + visited dir rows (i - 1);
        comes_from = subst (λ j. row_before dir g.height (top + visited dir rows j) ≡ Some (top + visited dir rows (i - 1))) e (comes_next dir g.height top rows (i - 1) level (omega arith) inside);
        holds = w.handed l;
      }))
  | inr z ↦ (let e : i ≡ 0 = omega arith in
      let b : (begun || ltb 0 i) ≡ begun = or_false begun (ltb 0 i) (le-ltb 0 i z) in
      subst (λ t. ComesBefore g dir (top + visited dir rows i) t last) (sym b)
      (subst (λ xs. ComesBefore g dir (top + visited dir rows i) begun xs) (sym (w.started e))
      (subst (λ j. ComesBefore g dir (top + visited dir rows j) begun start) (sym e) c)))
]

-- the entries of another row lie before or after those of a row
apart : (n r z k : ℕ) → (z ≡ r → ⊥) → k < n → (z * n + k < r * n) ⊎ (r * n + n ≤ z * n + k)
apart n r z k ne h = elim (cases_lt z r) [
  | inl l ↦ inl (omega (arith, mul-add-lt z n k r l h))
  | inr l ↦ (let up : r + 1 ≤ z = omega arith in inr (omega (arith, mul-le (r + 1) n z n up (omega arith))))
]

not_visited : (dir : Dir) (rows i r z : ℕ) → r ≡ visited dir rows i → i < rows → visited dir rows z ≢ i → z ≡ r → ⊥
not_visited dir rows i r z e h ne ez = ne (ap (visited dir rows) (ez ∙ e) ∙ visited_back dir rows i h)

earlier : (dir : Dir) (rows i r z : ℕ) → r ≡ visited dir rows i → z < rows → i < rows → (z ≡ r → ⊥) → visited dir rows z < i + 1 → visited dir rows z < i
earlier dir rows i r z e hz hi ne l = elim (cases_eq (visited dir rows z) i) [
  | inl v ↦ absurd (ne (sym (visited_back dir rows z hz) ∙ ap (visited dir rows) v ∙ sym e))
  | inr v ↦ omega arith
]

-- the rows that are still to come stay as they were
pub left_more : (dir : Dir) (rows i n r : ℕ) (first old new : List ℕ) → r ≡ visited dir rows i → i < rows
    → ((k : ℕ) → (k < r * n) ⊎ (r * n + n ≤ k) → slice_index new k ≡ slice_index old k)
    → ((z k : ℕ) → z < rows → i ≤ visited dir rows z → k < n → slice_index old (z * n + k) ≡ slice_index first (z * n + k))
    → (z k : ℕ) → z < rows → i + 1 ≤ visited dir rows z → k < n → slice_index new (z * n + k) ≡ slice_index first (z * n + k)
left_more dir rows i n r first old new e h others left z k hz hv hk =
    others (z * n + k) (apart n r z k (not_visited dir rows i r z e h (omega arith)) hk) ∙ left z k hz (omega arith) hk

-- the visit i, and what is done after it
pub done_more : (g : Problem) (dir : Dir) (top rows i n r : ℕ) (begun : Bool) (start last last' first old new : List ℕ)
    → g.width * g.count ≡ n → top + rows ≤ g.height → is_level dir ≡ false → r ≡ visited dir rows i → i < rows
    → ComesBefore g dir (top + visited dir rows 0) begun start → Done g dir top rows i n start last first old
    → (ComesBefore g dir (top + r) (begun || ltb 0 i) last → HoldsRow g (top + r) (path_value g dir) last')
    → ((k : ℕ) → (k < r * n) ⊎ (r * n + n ≤ k) → slice_index new k ≡ slice_index old k)
    → ((k : ℕ) → k < n → slice_index new (r * n + k) ≡ slice_index old (r * n + k) + slice_index last' k)
    → ((z k : ℕ) → z < rows → i ≤ visited dir rows z → k < n → slice_index old (z * n + k) ≡ slice_index first (z * n + k))
    → Done g dir top rows (i + 1) n start last' first new
done_more g dir top rows i n r begun start last last' first old new same_row inside level er hi c w paths others here left =
    let hr : r < rows = omega (arith, er, visited_inside dir rows i hi) in
    let back : visited dir rows r ≡ i = ap (visited dir rows) er ∙ visited_back dir rows i hi in
    let before = before_visit g dir top rows i n begun start last first old inside level hi c w in
    let row : HoldsRow g (top + r) (path_value g dir) last' = paths (subst (λ z. ComesBefore g dir (top + z) (begun || ltb 0 i) last) (sym er) before) in
    record {
      started = λ e. absurd (omega arith);
      handed = λ _. subst (λ z. HoldsRow g (top + z) (path_value g dir) last') (er ∙ ap (visited dir rows) (omega arith)) row;
      added = λ z x d hz hx hd hv.
          let lt : x * g.count + d < n = omega (arith, mul-add-lt x g.count d g.width hx hd, same_row) in
          elim (cases_eq z r) [
            | inl e ↦ subst (λ m. slice_index new (m * n + (x * g.count + d)) ≡ slice_index first (m * n + (x * g.count + d)) + path_value g dir (pixel_at x (top + m)) d) (sym e)
                (omega (arith, here (x * g.count + d) lt, left r (x * g.count + d) hr (omega (arith, back)) lt, row.each x d hx hd))
            | inr ne ↦ others (z * n + (x * g.count + d)) (apart n r z (x * g.count + d) ne lt) ∙ w.added z x d hz hx hd (earlier dir rows i r z er hz hi ne hv)
          ];
    }

-- once all rows are visited, the sums hold their path values too
pub all_done : (g : Problem) (dir : Dir) (top rows n : ℕ) (f : Pixel → ℕ → ℕ) (start last old new : List ℕ) → g.width * g.count ≡ n → length new ≡ length old
    → Done g dir top rows rows n start last old new → HoldsRows g top rows f old → HoldsRows g top rows (λ p d. f p d + path_value g dir p d) new
all_done g dir top rows n f start last old new same_row e w h = record {
  whole = e ∙ h.whole;
  each = λ r x d hr hx hd.
      ap (λ k. slice_index new (r * k + (x * g.count + d))) same_row
      ∙ w.added r x d hr hx hd (visited_inside dir rows r hr)
      ∙ ap (λ k. slice_index old (r * k + (x * g.count + d)) + path_value g dir (pixel_at x (top + r)) d) (sym same_row)
      ∙ ap (λ k. k + path_value g dir (pixel_at x (top + r)) d) (h.each r x d hr hx hd);
}

-- after the last visit
pub finished : (g : Problem) (dir : Dir) (top rows : ℕ) (penalties : Penalties) (guide : Values) (count row n i : ℕ) (begun : Bool) (costs start last old new : List ℕ) → SuitsRows g top rows penalties guide count row costs → n ≡ row → 0 < n → i ≡ length costs / n
    → ComesBefore g dir (top + visited dir rows 0) begun start
    → (SuitsRows g top (length costs / n) penalties guide count n costs → ComesBefore g dir (top + visited dir (length costs / n) 0) begun start → Done g dir top (length costs / n) i n start last old new)
    → SuitsRows g top rows penalties guide count n costs × Done g dir top rows rows n start last old new
finished g dir top rows penalties guide count row n i begun costs start last old new s en some ei c h =
    let s' : SuitsRows g top rows penalties guide count n costs = subst (λ m. SuitsRows g top rows penalties guide count m costs) (sym en) s in
    let e : length costs / n ≡ rows = rows_are g top rows penalties guide count n costs s' some in
    let w = h (subst (λ r. SuitsRows g top r penalties guide count n costs) (sym e) s') (subst (λ r. ComesBefore g dir (top + visited dir r 0) begun start) (sym e) c) in
    (s', subst (λ r. Done g dir top r rows n start last old new) e (subst (λ j. Done g dir top (length costs / n) j n start last old new) (ei ∙ e) w))

-- a row of some pixels and some indices has entries
pub some_entries : (width count n : ℕ) → 0 < width → 0 < count → n ≡ width * count → 0 < n
some_entries width count n hw hc e = omega (arith, e, mul-le 1 1 width count (omega (arith, hw)) (omega (arith, hc)))

-- ---- what is known after i visits
pub record Visited (dir : Dir) (top rows : ℕ) (penalties : Penalties) (guide : Values) (count n : ℕ) (costs : List ℕ) (begun : Bool) (i : ℕ) (start last first sums : List ℕ) : Type 0 where
  pub left : (z k : ℕ) → z < rows → i ≤ visited dir rows z → k < n → slice_index sums (z * n + k) ≡ slice_index first (z * n + k)
  pub done : (g : Problem) → SuitsRows g top rows penalties guide count n costs → ComesBefore g dir (top + visited dir rows 0) begun start
      → Done g dir top rows i n start last first sums

pub visited_none : (dir : Dir) (top rows : ℕ) (penalties : Penalties) (guide : Values) (count n : ℕ) (costs : List ℕ) (begun : Bool) (start first : List ℕ)
    → Visited dir top rows penalties guide count n costs begun 0 start start first first
visited_none dir top rows penalties guide count n costs begun start first = record {
  left = λ z k hz hv hk. refl;
  done = λ g s b. record {
    started = λ e. refl;
    handed = λ h. absurd (omega (arith, h));
    added = λ z x d hz hx hd hv. absurd (omega (arith, hv));
  };
}

-- one visit more
pub visited_more : (dir : Dir) (top rows : ℕ) (penalties : Penalties) (guide : Values) (count n : ℕ) (costs : List ℕ) (begun : Bool) (i r : ℕ) (start last last' first old new : List ℕ)
    → is_level dir ≡ false → r ≡ visited dir rows i → i < rows → length last' ≡ n → AddsAt (r * n) last' old new
    → ((g : Problem) → SuitsRows g top rows penalties guide count n costs → ComesBefore g dir (top + r) (begun || ltb 0 i) last → HoldsRow g (top + r) (path_value g dir) last')
    → Visited dir top rows penalties guide count n costs begun i start last first old
    → Visited dir top rows penalties guide count n costs begun (i + 1) start last' first new
visited_more dir top rows penalties guide count n costs begun i r start last last' first old new level er hi len adds paths v =
    let others : (k : ℕ) → (k < r * n) ⊎ (r * n + n ≤ k) → slice_index new k ≡ slice_index old k =
    λ k h. adds.others k (subst (λ m. (k < r * n) ⊎ (r * n + m ≤ k)) (sym len) h) in
    let here : (k : ℕ) → k < n → slice_index new (r * n + k) ≡ slice_index old (r * n + k) + slice_index last' k =
    λ k h. adds.each k (omega (arith, h, len)) in
    record {
      left = left_more dir rows i n r first old new er hi others v.left;
      done = λ g s b. done_more g dir top rows i n r begun start last last' first old new s.same_row s.inside level er hi b (v.done g s b) (paths g s) others here v.left;
    }

-- the row visited before is there
pub begun_before : (g : Problem) (dir : Dir) (y i : ℕ) (begun : Bool) (before : List ℕ) → 0 < i → ComesBefore g dir y (begun || ltb 0 i) before → HoldsBefore g dir y before
begun_before g dir y i begun before h b = subst (λ t. ComesBefore g dir y t before) (or_true begun (ltb 0 i) (lt-ltb 0 i h)) b

-- a row that is still to come can be added to
pub room_left : (dir : Dir) (top rows : ℕ) (penalties : Penalties) (guide : Values) (count n : ℕ) (costs : List ℕ) (begun : Bool) (i j r size : ℕ) (start last first sums : List ℕ)
    → r ≡ visited dir rows j → i ≤ j → j < rows → rows ≡ size / n → length first ≡ size
    → ((k : ℕ) → k < length first → slice_index first k + 4062 < 65536)
    → Visited dir top rows penalties guide count n costs begun i start last first sums
    → (k : ℕ) → k < n → slice_index sums (r * n + k) + 4062 < 65536
room_left dir top rows penalties guide count n costs begun i j r size start last first sums er le hj el long room v k hk =
    let hr : r < rows = omega (arith, er, visited_inside dir rows j hj) in
    let back : visited dir rows r ≡ j = ap (visited dir rows) er ∙ visited_back dir rows j hj in
    let inside : r * n + k < length first =
    omega (arith, long, mul-add-lt r n k rows hr hk, ap (λ m. m * n) el, div-add-mod' size n) in
    omega (arith, v.left r k hr (omega (arith, back, le)) hk, room (r * n + k) inside)
