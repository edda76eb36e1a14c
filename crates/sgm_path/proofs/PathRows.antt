-- From what is given for each pixel of a row to the whole row and its path values.
use Rattle.std.proofs.Common.{◌≡◌, ℕ, ◌+◌, ◌*◌, ◌/◌, ◌<◌, ◌≤◌, zero, suc, true, List, length, slice_index, slice_index_or, Option, Some, None, MatchOption, refl, sym, ap, ◌∙◌, subst, arith}
use Rattle.std.proofs.lemmas.Nat.{mul-add-lt, div-mul-add}
use Rattle.sgm_energy.specs.declared.dir.Dir.{Dir}
use Rattle.sgm_energy.specs.declared.dir.Dir.TheVariants.{Right, Left, Down, DownRight, DownLeft, Up, UpRight, UpLeft}
use Rattle.sgm_energy.specs.Dirs.{offset, is_level}
use Rattle.sgm_energy.specs.Pens.{Penalties}
use Rattle.sgm_energy.specs.Rays.{Pixel, pixel_at, Problem, column_before, row_before, predecessor}
use Rattle.sgm_energy.specs.Energies.{path_value}
use Rattle.sgm_energy.specs.Rows.{HoldsRow}
use Rattle.sgm_energy.proofs.RayLemmas.{room, room_falls, predecessor_is, no_column, no_row, minus_zero, minus_small}
use Rattle.sgm_energy.proofs.Penalties.{far-ordered}
use Rattle.sgm_energy.proofs.PathLaws.{first, next}
use Rattle.sgm_path.specs.Paths.{far_between, Follows, HasFar, HoldsRowBefore, RowFollows, StepsAt, Suits}
use Rattle.sgm_path.proofs.Follow.{follows_same}

-- no penalty between two rows is below p1
pub between-ordered : (penalties : Penalties) (guide guide_before : List (Option ℕ)) → penalties.p1 ≤ penalties.p2 → (z x : ℕ) → penalties.p1 ≤ far_between penalties guide guide_before z x
between-ordered penalties guide guide_before le z x = far-ordered penalties (slice_index_or guide x None) (slice_index_or guide_before z None) le

-- how many pixels a row has
pub width_is : (g : Problem) (y p1 count : ℕ) (costs : List ℕ) → Suits g y p1 count costs → 0 < count → length costs / count ≡ g.width
width_is g y p1 count costs s h =
    let e : length costs ≡ g.width * count + 0 = omega (arith, s.holds.whole, ap (λ n. g.width * n) s.same_count) in
    ap (λ n. n / count) e ∙ div-mul-add g.width count 0 h

pub cost_at : (g : Problem) (y p1 count : ℕ) (costs : List ℕ) (x d : ℕ) → Suits g y p1 count costs → x < g.width → d < count → slice_index costs (x * count + d) ≡ g.cost (pixel_at x y) d
cost_at g y p1 count costs x d s hx hd =
    ap (λ n. slice_index costs (x * n + d)) (sym s.same_count) ∙ s.holds.each x d hx (omega (arith, s.same_count))

-- the value that follows from the path values of the pixel before is the path value
value_next : (g : Problem) (dir : Dir) (p q : Pixel) (prev : ℕ → ℕ) (count p1 far cost d value : ℕ) → g.count ≡ count → g.p1 ≡ p1 → g.far q p ≡ far → p1 ≤ far → d < count
    → predecessor g dir p ≡ Some q → ((a : ℕ) → a < count → prev a ≡ path_value g dir q a) → cost ≡ g.cost p d → Follows prev count p1 far cost d value → value ≡ path_value g dir p d
value_next g dir p q prev count p1 far cost d value ec en ef le h e same cost_is f =
    let a = follows_same prev (path_value g dir q) count p1 far cost (g.cost p d) d value value h same cost_is refl f in
    let b = subst (λ n. Follows (path_value g dir q) n p1 far (g.cost p d) d value) (sym ec) a in
    let c = subst (λ n. Follows (path_value g dir q) g.count n far (g.cost p d) d value) (sym en) b in
    let f' = subst (λ n. Follows (path_value g dir q) g.count g.p1 n (g.cost p d) d value) (sym ef) c in
    omega (arith, f', next g dir p q d (omega arith) (omega (arith, en, ef)) e)

-- the same for an entry of a row, where the path values of the pixel before stand in the row before
entry_at : (g : Problem) (dir : Dir) (x y row p1 count : ℕ) (far : ℕ → ℕ → ℕ) (costs before : List ℕ) (d value : ℕ) → Suits g y p1 count costs → HasFar g row y far → ((z x : ℕ) → p1 ≤ far z x)
    → row_before dir g.height y ≡ Some row → x < g.width → d < count
    → ((z a : ℕ) → column_before dir g.width x ≡ Some z → a < count → slice_index before (z * count + a) ≡ path_value g dir (pixel_at z row) a)
    → (o : Option ℕ) → column_before dir g.width x ≡ o
    → MatchOption o (value ≡ slice_index costs (x * count + d)) (λ z. Follows (λ a. slice_index before (z * count + a)) count p1 (far z x) (slice_index costs (x * count + d)) d value)
    → value ≡ path_value g dir (pixel_at x y) d
entry_at g dir x y row p1 count far costs before d value s hf le er hx hd same None e step =
    step ∙ cost_at g y p1 count costs x d s hx hd ∙ sym (first g dir (pixel_at x y) d (omega (arith, s.same_count)) (no_column g dir (pixel_at x y) e))
entry_at g dir x y row p1 count far costs before d value s hf le er hx hd same (Some z) e step =
    value_next g dir (pixel_at x y) (pixel_at z row) (λ a. slice_index before (z * count + a)) count p1 (far z x) (slice_index costs (x * count + d)) d value
    s.same_count s.same_p1 (hf.each z x (minus_small g.width x z (offset dir).0 e) hx) (le z x) hd
    (predecessor_is g dir (pixel_at x y) (pixel_at z row) (record { across = e; down = er }))
    (λ a ha. same z a e ha)
    (cost_at g y p1 count costs x d s hx hd)
    step

-- the row's entry by the problem's own width and count
step_of : (g : Problem) (dir : Dir) (y p1 count : ℕ) (far : ℕ → ℕ → ℕ) (costs before into : List ℕ) → Suits g y p1 count costs → 0 < count → length into ≡ length costs
    → RowFollows dir count p1 far before costs into → (x d : ℕ) → x < g.width → d < count → StepsAt dir g.width count p1 far before costs x d (slice_index into (x * count + d))
step_of g dir y p1 count far costs before into s pos_count el steps x d hx hd =
    let wd : length into / count ≡ g.width = ap (λ n. n / count) el ∙ width_is g y p1 count costs s pos_count in
    subst (λ w. StepsAt dir w count p1 far before costs x d (slice_index into (x * count + d))) wd (steps x d (omega arith) hd)

holds : (g : Problem) (dir : Dir) (y p1 count : ℕ) (costs into : List ℕ) → Suits g y p1 count costs → length into ≡ length costs
    → ((x d : ℕ) → x < g.width → d < count → slice_index into (x * count + d) ≡ path_value g dir (pixel_at x y) d) → HoldsRow g y (path_value g dir) into
holds g dir y p1 count costs into s el same =
    record {
      whole = omega (arith, s.holds.whole);
      each = λ x d hx hd. ap (λ n. slice_index into (x * n + d)) s.same_count ∙ same x d hx (omega (arith, s.same_count));
    }

-- a row that follows from the path values of the row before has path values
pub paths_from : (g : Problem) (dir : Dir) (y p1 count : ℕ) (far : ℕ → ℕ → ℕ) (costs before into : List ℕ) → Suits g y p1 count costs → ((z x : ℕ) → p1 ≤ far z x) → 0 < count → length into ≡ length costs
    → HoldsRowBefore g dir y far before → RowFollows dir count p1 far before costs into → HoldsRow g y (path_value g dir) into
paths_from g dir y p1 count far costs before into s le pos_count el b steps =
    holds g dir y p1 count costs into s el
    (λ x d hx hd. entry_at g dir x y b.row p1 count far costs before d (slice_index into (x * count + d)) s b.has_far le b.comes_from hx hd
    (λ z a e ha. ap (λ n. slice_index before (z * n + a)) (sym s.same_count) ∙ b.holds.each z a (minus_small g.width x z (offset dir).0 e) (omega (arith, s.same_count)))
    (column_before dir g.width x) refl
    (step_of g dir y p1 count far costs before into s pos_count el steps x d hx hd))

-- a row that nothing comes before has its costs
pub paths_alone : (g : Problem) (dir : Dir) (y p1 count : ℕ) (costs into : List ℕ) → Suits g y p1 count costs → length into ≡ length costs → row_before dir g.height y ≡ None
    → ((k : ℕ) → k < length into → slice_index into k ≡ slice_index costs k) → HoldsRow g y (path_value g dir) into
paths_alone g dir y p1 count costs into s el e same =
    record {
      whole = omega (arith, s.holds.whole);
      each = λ x d hx hd.
          let inside : x * g.count + d < length into = omega (arith, mul-add-lt x g.count d g.width hx hd, s.holds.whole) in
          same (x * g.count + d) inside ∙ s.holds.each x d hx hd ∙ sym (first g dir (pixel_at x y) d hd (no_row g dir (pixel_at x y) e));
    }

-- ---- in a level direction the row before is the row itself
level_row : (dir : Dir) (height y : ℕ) → is_level dir ≡ true → y < height → row_before dir height y ≡ Some y
level_row Right height y l h = minus_zero height y h
level_row Left height y l h = minus_zero height y h
level_row Down height y l h = absurd (cc)
level_row DownRight height y l h = absurd (cc)
level_row DownLeft height y l h = absurd (cc)
level_row Up height y l h = absurd (cc)
level_row UpRight height y l h = absurd (cc)
level_row UpLeft height y l h = absurd (cc)

-- what a ray has left before a pixel, n at most, falls from one pixel to the one before
level_within : (g : Problem) (dir : Dir) (y p1 count : ℕ) (far : ℕ → ℕ → ℕ) (costs into : List ℕ) → Suits g y p1 count costs → HasFar g y y far → ((z x : ℕ) → p1 ≤ far z x) → is_level dir ≡ true
    → ((x d : ℕ) → x < g.width → d < count → StepsAt dir g.width count p1 far into costs x d (slice_index into (x * count + d)))
    → (n x d : ℕ) → room g dir (pixel_at x y) < n → x < g.width → d < count → slice_index into (x * count + d) ≡ path_value g dir (pixel_at x y) d
level_within g dir y p1 count far costs into s hf le l steps zero x d r hx hd = absurd (omega (arith, r))
level_within g dir y p1 count far costs into s hf le l steps (suc n) x d r hx hd =
    let er = level_row dir g.height y l s.inside in
    entry_at g dir x y y p1 count far costs into d (slice_index into (x * count + d)) s hf le er hx hd
    (λ z a e ha. let falls = room_falls g dir (pixel_at x y) (pixel_at z y) (record { across = e; down = er }) in
    level_within g dir y p1 count far costs into s hf le l steps n z a (omega (arith, r, falls)) (minus_small g.width x z (offset dir).0 e) ha)
    (column_before dir g.width x) refl
    (steps x d hx hd)

pub paths_level : (g : Problem) (dir : Dir) (y p1 count : ℕ) (far : ℕ → ℕ → ℕ) (costs into : List ℕ) → Suits g y p1 count costs → HasFar g y y far → ((z x : ℕ) → p1 ≤ far z x) → 0 < count
    → length into ≡ length costs → is_level dir ≡ true → RowFollows dir count p1 far into costs into → HoldsRow g y (path_value g dir) into
paths_level g dir y p1 count far costs into s hf le pos_count el l steps =
    holds g dir y p1 count costs into s el
    (λ x d hx hd. level_within g dir y p1 count far costs into s hf le l (step_of g dir y p1 count far costs into into s pos_count el steps)
    (suc (room g dir (pixel_at x y))) x d (omega arith) hx hd)

-- ---- what an entry follows from
-- an entry that follows from a row follows from each row that has the same values where it comes from
steps_in : (count p1 : ℕ) (far : ℕ → ℕ → ℕ) (old new costs : List ℕ) (x d value : ℕ) → d < count → (o : Option ℕ)
    → ((z a : ℕ) → o ≡ Some z → a < count → slice_index old (z * count + a) ≡ slice_index new (z * count + a))
    → MatchOption o (value ≡ slice_index costs (x * count + d)) (λ z. Follows (λ a. slice_index old (z * count + a)) count p1 (far z x) (slice_index costs (x * count + d)) d value)
    → MatchOption o (value ≡ slice_index costs (x * count + d)) (λ z. Follows (λ a. slice_index new (z * count + a)) count p1 (far z x) (slice_index costs (x * count + d)) d value)
steps_in count p1 far old new costs x d value hd None same step = step
steps_in count p1 far old new costs x d value hd (Some z) same step =
    follows_same (λ a. slice_index old (z * count + a)) (λ a. slice_index new (z * count + a)) count p1 (far z x) (slice_index costs (x * count + d)) (slice_index costs (x * count + d)) d value value hd
    (λ a ha. same z a refl ha) refl refl step

pub steps_same : (dir : Dir) (width count p1 : ℕ) (far : ℕ → ℕ → ℕ) (old new costs : List ℕ) (x d value : ℕ) → d < count
    → ((z a : ℕ) → column_before dir width x ≡ Some z → a < count → slice_index old (z * count + a) ≡ slice_index new (z * count + a))
    → StepsAt dir width count p1 far old costs x d value → StepsAt dir width count p1 far new costs x d value
steps_same dir width count p1 far old new costs x d value hd same step =
    steps_in count p1 far old new costs x d value hd (column_before dir width x) same step
