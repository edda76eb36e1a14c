-- Two rows that are gone through at once.
use Rattle.std.proofs.Common.{◌≡◌, ℕ, ◌+◌, ◌-◌, ◌*◌, ◌/◌, ◌<◌, ◌≤◌, inl, inr, false, if◌then◌else◌, List, ◌++◌, length, take, drop, slice_index, Option, Some, None, MatchOption, refl, sym, ap, ◌∙◌, subst, arith}
use Rattle.std.specs.List.{All}
use Rattle.std.proofs.lemmas.Bool.{cases_eq}
use Rattle.std.proofs.lemmas.List.{length-append, length-drop, length-take}
use Rattle.std.proofs.lemmas.List.Elements.{All-from_get_or}
use Rattle.std.proofs.lemmas.Nat.{div-mul-add, mul-add-lt, mul-le}
use Rattle.sgm_energy.specs.declared.dir.Dir.{Dir}
use Rattle.sgm_energy.specs.declared.dir.Dir.TheVariants.{Right, Left, Down, DownRight, DownLeft, Up, UpRight, UpLeft}
use Rattle.sgm_energy.specs.Dirs.{is_level}
use Rattle.sgm_energy.specs.Rays.{column_before}
use Rattle.sgm_energy.proofs.RayLemmas.{minus_pos, minus_negsuc}
use Rattle.sgm_path.specs.Paths.{AddsPixel, AreAlike, column_at, EntryFollows, far_in, Follows, FollowsTwo, lag_of, OthersStay, PassesTwo, RowFollows, RowTerms, StepsAt}
use Rattle.sgm_path.proofs.Follow.{follows_same, mid_at, mid_others}
use Rattle.sgm_path.proofs.PathRows.{between-ordered, paths_from, steps_same}
use Rattle.sgm_path.proofs.Sweeps.{Added, Swept, added_more, apart_of, column_small, column_turns, each_entry, other_column, swept_more, swept_row}

-- the column before comes so much later in the order
pub before_lag : (dir : Dir) (width x z : ℕ) → is_level dir ≡ false → x < width → column_before dir width x ≡ Some z
    → (z < width) × (column_at dir width z ≡ column_at dir width x + lag_of dir)
before_lag Right width x z l h e = absurd (cc)
before_lag Left width x z l h e = absurd (cc)
before_lag Down width x z l h e =
    let m = minus_pos width x 0 z e in (m.1, omega (arith, m.0))
before_lag DownRight width x z l h e =
    let m = minus_pos width x 1 z e in (m.1, omega (arith, m.0))
before_lag DownLeft width x z l h e =
    let m = minus_negsuc width x 0 z e in (m.1, omega (arith, m.0))
before_lag Up width x z l h e =
    let m = minus_pos width x 0 z e in (m.1, omega (arith, m.0))
before_lag UpRight width x z l h e =
    let m = minus_pos width x 1 z e in (m.1, omega (arith, m.0))
before_lag UpLeft width x z l h e =
    let m = minus_negsuc width x 0 z e in (m.1, omega (arith, m.0))

-- ---- the row between
-- a row in which these are the values of the pixel at this place
abbrev pub placed : ℕ → ℕ → List ℕ → List ℕ → List ℕ
placed at count room mid = take at mid ++ (room ++ drop count (drop at mid))

pub placed_others : (at count : ℕ) (room mid : List ℕ) → at + count ≤ length mid → length room ≡ count
    → OthersStay at count mid (placed at count room mid)
placed_others at count room mid h e k o =
    mid_others mid (take at mid) room (drop count (drop at mid)) at count k refl refl (omega (arith, length-take at mid, h)) e o

placed_at : (at count : ℕ) (room mid : List ℕ) (d : ℕ) → at + count ≤ length mid → length room ≡ count → d < count
    → slice_index (placed at count room mid) (at + d) ≡ slice_index room d
placed_at at count room mid d h e hd =
    mid_at (take at mid) room (drop count (drop at mid)) at d (omega (arith, length-take at mid, h)) (omega (arith, e, hd))

pub placed_long : (at count : ℕ) (room mid : List ℕ) → at + count ≤ length mid → length room ≡ count
    → length (placed at count room mid) ≡ length mid
placed_long at count room mid h e =
    omega (
      arith,
      h,
      e,
      length-append (take at mid) (room ++ drop count (drop at mid)),
      length-append room (drop count (drop at mid)),
      length-take at mid,
      length-drop count (drop at mid),
      length-drop at mid,
    )

-- ---- what is known of the second row once so many of its columns were gone through, where mid is
-- the row between as far as it is known
pub record Trails (t : RowTerms) (p1 : ℕ) (far : ℕ → ℕ → ℕ) (costs : List ℕ) (b : ℕ) (first mid values : List ℕ) : Type 0 where
  pub low : (z d : ℕ) → z < length t.guide → d < t.count → column_at t.dir (length t.guide) z < b
      → slice_index values (z * t.count + d) ≤ 4062
  pub each : (z d : ℕ) → z < length t.guide → d < t.count → column_at t.dir (length t.guide) z < b
      → StepsAt t.dir (length t.guide) t.count p1 far mid costs z d (slice_index values (z * t.count + d))
  pub left : (z d : ℕ) → z < length t.guide → d < t.count → b ≤ column_at t.dir (length t.guide) z
      → slice_index values (z * t.count + d) ≡ slice_index first (z * t.count + d)

pub trails_none : (t : RowTerms) (p1 : ℕ) (far : ℕ → ℕ → ℕ) (costs first mid : List ℕ) → Trails t p1 far costs 0 first mid first
trails_none t p1 far costs first mid = record {
  low = λ z d hz hd h. absurd (omega (arith, h));
  each = λ z d hz hd h. absurd (omega (arith, h));
  left = λ z d hz hd h. refl;
}

-- one column more of the first row: what its entries follow from stands in the row before still
first_follows : (t : RowTerms) (p1 : ℕ) (far : ℕ → ℕ → ℕ) (costs : List ℕ) (i b x d value : ℕ) (first mid values : List ℕ)
    → is_level t.dir ≡ false → i < length t.guide → x ≡ column_at t.dir (length t.guide) i → b ≤ i → d < t.count
    → Swept t i first mid → Trails t p1 far costs b first mid values
    → EntryFollows t values x d value → EntryFollows t mid x d value
first_follows t p1 far costs i b x d value first mid values l hi ex hb hd s r f =
    let width : ℕ = length t.guide in
    let hx : x < width = subst (λ n. n < width) (sym ex) (column_small t.dir width i hi) in
    let turn : column_at t.dir width x ≡ i = ap (column_at t.dir width) ex ∙ column_turns t.dir width i hi in
    steps_same t.dir width t.count t.penalties.p1 (far_in t) values mid t.costs x d value hd
    (λ z a e ha. let at = before_lag t.dir width x z l hx e in
    r.left z a at.0 ha (omega (arith, at.1, turn, hb)) ∙ sym (s.left z a at.0 ha (omega (arith, at.1, turn))))
    f

pub first_more : (t : RowTerms) (p1 : ℕ) (far : ℕ → ℕ → ℕ) (costs : List ℕ) (i b x : ℕ) (first mid values room : List ℕ)
    → is_level t.dir ≡ false → i < length t.guide → x ≡ column_at t.dir (length t.guide) i → b ≤ i
    → length mid ≡ length t.guide * t.count → length room ≡ t.count
    → ((d : ℕ) → d < t.count → EntryFollows t values x d (slice_index room d))
    → ((d : ℕ) → d < t.count → slice_index room d ≤ 4062)
    → Swept t i first mid → Trails t p1 far costs b first mid values
    → Swept t (i + 1) first (placed (x * t.count) t.count room mid)
first_more t p1 far costs i b x first mid values room l hi ex hb long he each low s r =
    let count : ℕ = t.count in
    let width : ℕ = length t.guide in
    let hx : x < width = subst (λ n. n < width) (sym ex) (column_small t.dir width i hi) in
    let inside : x * count + count ≤ length mid = omega (arith, long, mul-le (x + 1) count width count (omega (arith, hx)) (omega arith)) in
    let is : (d : ℕ) → d < count → slice_index (placed (x * count) count room mid) (x * count + d) ≡ slice_index room d =
    λ d hd. placed_at (x * count) count room mid d inside he hd in
    swept_more t i x first mid (placed (x * count) count room mid) hi ex (placed_others (x * count) count room mid inside he)
    (λ d hd. subst (EntryFollows t mid x d) (sym (is d hd)) (first_follows t p1 far costs i b x d (slice_index room d) first mid values l hi ex hb hd s r (each d hd)))
    (λ d hd. omega (arith, is d hd, low d hd))
    s

-- the second row stays as it is
pub first_trails : (t : RowTerms) (p1 : ℕ) (far : ℕ → ℕ → ℕ) (costs : List ℕ) (i b x : ℕ) (first mid values room : List ℕ)
    → is_level t.dir ≡ false → i < length t.guide → x ≡ column_at t.dir (length t.guide) i → b ≡ i - lag_of t.dir
    → length mid ≡ length t.guide * t.count → length room ≡ t.count
    → Trails t p1 far costs b first mid values → Trails t p1 far costs b first (placed (x * t.count) t.count room mid) values
first_trails t p1 far costs i b x first mid values room l hi ex hb long he r =
    let count : ℕ = t.count in
    let width : ℕ = length t.guide in
    let hx : x < width = subst (λ n. n < width) (sym ex) (column_small t.dir width i hi) in
    let inside : x * count + count ≤ length mid = omega (arith, long, mul-le (x + 1) count width count (omega (arith, hx)) (omega arith)) in
    record {
      low = r.low;
      each = λ z d hz hd h.
          steps_same t.dir width count p1 far mid (placed (x * count) count room mid) costs z d _ hd
          (λ w a e ha. let at = before_lag t.dir width z w l hz e in
          sym (other_column mid (placed (x * count) count room mid) count x w a (placed_others (x * count) count room mid inside he) (apart_of t.dir width i x w hi ex (inl (omega (arith, at.1, h, hb)))) ha))
          (r.each z d hz hd h);
      left = r.left;
    }

-- one column more of the second row
pub second_more : (t : RowTerms) (p1 : ℕ) (far : ℕ → ℕ → ℕ) (costs : List ℕ) (b x : ℕ) (first mid old new : List ℕ)
    → b < length t.guide → x ≡ column_at t.dir (length t.guide) b → OthersStay (x * t.count) t.count old new
    → ((d : ℕ) → d < t.count → StepsAt t.dir (length t.guide) t.count p1 far mid costs x d (slice_index new (x * t.count + d)))
    → ((d : ℕ) → d < t.count → slice_index new (x * t.count + d) ≤ 4062)
    → Trails t p1 far costs b first mid old → Trails t p1 far costs (b + 1) first mid new
second_more t p1 far costs b x first mid old new hb ex others each bound r =
    let width : ℕ = length t.guide in
    let count : ℕ = t.count in
    let here : (z : ℕ) → z < width → column_at t.dir width z ≡ b → z ≡ x =
    λ z hz e. sym (column_turns t.dir width z hz) ∙ ap (column_at t.dir width) e ∙ sym ex in
    record {
      low = λ z d hz hd h. elim (cases_eq (column_at t.dir width z) b) [
        | inl e ↦ omega (arith, ap (λ n. slice_index new (n * count + d)) (here z hz e), bound d hd)
        | inr n ↦ (let lt : column_at t.dir width z < b = omega (arith, h, n) in
            omega (arith, other_column old new count x z d others (apart_of t.dir width b x z hb ex (inl lt)) hd, r.low z d hz hd lt))
      ];
      each = λ z d hz hd h. elim (cases_eq (column_at t.dir width z) b) [
        | inl e ↦ subst (λ n. StepsAt t.dir width count p1 far mid costs n d (slice_index new (n * count + d))) (sym (here z hz e)) (each d hd)
        | inr n ↦ (let lt : column_at t.dir width z < b = omega (arith, h, n) in
            subst (StepsAt t.dir width count p1 far mid costs z d) (sym (other_column old new count x z d others (apart_of t.dir width b x z hb ex (inl lt)) hd)) (r.each z d hz hd lt))
      ];
      left = λ z d hz hd h.
          other_column old new count x z d others (apart_of t.dir width b x z hb ex (inr (omega (arith, h)))) hd ∙ r.left z d hz hd (omega (arith, h));
    }

-- ---- a column of the second row, by the names of its own terms
pub record SteppedBy (dir : Dir) (width count p1 : ℕ) (far : ℕ → ℕ → ℕ) (costs : List ℕ) (x : ℕ) (prev old new more more' : List ℕ) : Type 0 where
  pub others : OthersStay (x * count) count old new
  pub each : (d : ℕ) → d < count → MatchOption (column_before dir width x) (slice_index new (x * count + d) ≡ slice_index costs (x * count + d))
      (λ z. Follows (slice_index prev) count p1 (far z x) (slice_index costs (x * count + d)) d (slice_index new (x * count + d)))
  pub bound : (d : ℕ) → d < count → slice_index new (x * count + d) ≤ 4062
  pub added : AddsPixel (x * count) count (λ d. slice_index new (x * count + d)) more more'

pub stepped_alike : (t u : RowTerms) (x : ℕ) (prev old new more more' : List ℕ) → AreAlike t u
    → SteppedBy u.dir (length u.guide) u.count u.penalties.p1 (far_in u) u.costs x prev old new more more'
    → SteppedBy t.dir (length t.guide) t.count u.penalties.p1 (far_in u) u.costs x prev old new more more'
stepped_alike t u x prev old new more more' a s =
    let S : Dir → ℕ → ℕ → Type 0 = λ dir width count. SteppedBy dir width count u.penalties.p1 (far_in u) u.costs x prev old new more more' in
    subst (λ n. S t.dir (length t.guide) n) a.count (subst (λ w. S t.dir w u.count) a.width (subst (λ d. S d (length u.guide) u.count) a.dir s))

-- the room holds what the row between has where the direction comes from
from_room : (count p1 : ℕ) (far : ℕ → ℕ → ℕ) (prev mid costs : List ℕ) (x d value : ℕ) → d < count → (o : Option ℕ)
    → ((z a : ℕ) → o ≡ Some z → a < count → slice_index prev a ≡ slice_index mid (z * count + a))
    → MatchOption o (value ≡ slice_index costs (x * count + d)) (λ z. Follows (slice_index prev) count p1 (far z x) (slice_index costs (x * count + d)) d value)
    → MatchOption o (value ≡ slice_index costs (x * count + d)) (λ z. Follows (λ a. slice_index mid (z * count + a)) count p1 (far z x) (slice_index costs (x * count + d)) d value)
from_room count p1 far prev mid costs x d value hd None same step = step
from_room count p1 far prev mid costs x d value hd (Some z) same step =
    follows_same (slice_index prev) (λ a. slice_index mid (z * count + a)) count p1 (far z x) (slice_index costs (x * count + d)) (slice_index costs (x * count + d)) d value value hd
    (λ a ha. same z a refl ha) refl refl step

pub second_step : (t : RowTerms) (p1 : ℕ) (far : ℕ → ℕ → ℕ) (costs : List ℕ) (b x : ℕ) (first mid prev old new more0 more more' : List ℕ)
    → b < length t.guide → x ≡ column_at t.dir (length t.guide) b
    → ((z a : ℕ) → column_before t.dir (length t.guide) x ≡ Some z → a < t.count → slice_index prev a ≡ slice_index mid (z * t.count + a))
    → SteppedBy t.dir (length t.guide) t.count p1 far costs x prev old new more more'
    → Trails t p1 far costs b first mid old → Added t b more0 more old
    → Trails t p1 far costs (b + 1) first mid new × Added t (b + 1) more0 more' new
second_step t p1 far costs b x first mid prev old new more0 more more' hb ex same s r a = (
  second_more t p1 far costs b x first mid old new hb ex s.others
      (λ d hd. from_room t.count p1 far prev mid costs x d (slice_index new (x * t.count + d)) hd (column_before t.dir (length t.guide) x) same (s.each d hd))
      s.bound r,
  added_more t b x more0 more more' old new hb ex s.others s.added.0 s.added.1 a,
)

-- where the last column comes from nothing stands
pub last_alone : (t : RowTerms) (x z n : ℕ) → is_level t.dir ≡ false → 0 < lag_of t.dir → 0 < length t.guide
    → x ≡ column_at t.dir (length t.guide) (length t.guide - 1) → column_before t.dir (length t.guide) x ≡ Some z → n < n
last_alone t x z n l hl hw ex e =
    let width : ℕ = length t.guide in
    let hx : x < width = subst (λ n. n < width) (sym ex) (column_small t.dir width (width - 1) (omega (arith, hw))) in
    let turn : column_at t.dir width x ≡ width - 1 = ap (column_at t.dir width) ex ∙ column_turns t.dir width (width - 1) (omega (arith, hw)) in
    let at = before_lag t.dir width x z l hx e in
    absurd (omega (arith, at.1, turn, hl, column_small t.dir width z at.0))

-- the column that the second row's comes from is the first row's last
pub room_same : (t : RowTerms) (i x x' : ℕ) (mid room : List ℕ) → is_level t.dir ≡ false → i < length t.guide → lag_of t.dir ≤ i
    → x ≡ column_at t.dir (length t.guide) i → x' ≡ column_at t.dir (length t.guide) (i - lag_of t.dir)
    → length mid ≡ length t.guide * t.count → length room ≡ t.count
    → (z a : ℕ) → column_before t.dir (length t.guide) x' ≡ Some z → a < t.count
    → slice_index room a ≡ slice_index (placed (x * t.count) t.count room mid) (z * t.count + a)
room_same t i x x' mid room l hi hl ex ex' long he z a e ha =
    let count : ℕ = t.count in
    let width : ℕ = length t.guide in
    let b : ℕ = i - lag_of t.dir in
    let hb : b < width = omega (arith, hi) in
    let hx : x < width = subst (λ n. n < width) (sym ex) (column_small t.dir width i hi) in
    let hx' : x' < width = subst (λ n. n < width) (sym ex') (column_small t.dir width b hb) in
    let turn : column_at t.dir width x' ≡ b = ap (column_at t.dir width) ex' ∙ column_turns t.dir width b hb in
    let at = before_lag t.dir width x' z l hx' e in
    let is : z ≡ x = sym (column_turns t.dir width z at.0) ∙ ap (column_at t.dir width) (omega (arith, at.1, turn, hl)) ∙ sym ex in
    let inside : x * count + count ≤ length mid = omega (arith, long, mul-le (x + 1) count width count (omega (arith, hx)) (omega arith)) in
    sym (ap (λ n. slice_index (placed (x * count) count room mid) (n * count + a)) is ∙ placed_at (x * count) count room mid a inside he ha)

-- ---- the first row's column
pub first_step : (t : RowTerms) (p1 : ℕ) (far : ℕ → ℕ → ℕ) (costs : List ℕ) (i b x : ℕ) (first mid values room sums0 sums sums' : List ℕ)
    → is_level t.dir ≡ false → i < length t.guide → x ≡ column_at t.dir (length t.guide) i → b ≡ i - lag_of t.dir
    → length mid ≡ length t.guide * t.count → length room ≡ t.count
    → ((d : ℕ) → d < t.count → EntryFollows t values x d (slice_index room d))
    → ((d : ℕ) → d < t.count → slice_index room d ≤ 4062)
    → AddsPixel (x * t.count) t.count (slice_index room) sums sums'
    → Swept t i first mid → Added t i sums0 sums mid → Trails t p1 far costs b first mid values
    → Swept t (i + 1) first (placed (x * t.count) t.count room mid)
    × (Added t (i + 1) sums0 sums' (placed (x * t.count) t.count room mid)
    × Trails t p1 far costs b first (placed (x * t.count) t.count room mid) values)
first_step t p1 far costs i b x first mid values room sums0 sums sums' l hi ex hb long he each low adds s a r =
    let count : ℕ = t.count in
    let width : ℕ = length t.guide in
    let hx : x < width = subst (λ n. n < width) (sym ex) (column_small t.dir width i hi) in
    let inside : x * count + count ≤ length mid = omega (arith, long, mul-le (x + 1) count width count (omega (arith, hx)) (omega arith)) in (
      first_more t p1 far costs i b x first mid values room l hi ex (omega (arith, hb)) long he each low s r,
      (
        added_more t i x sums0 sums sums' mid (placed (x * count) count room mid) hi ex (placed_others (x * count) count room mid inside he) adds.0
            (λ d hd. omega (arith, adds.1 d hd, placed_at (x * count) count room mid d inside he hd)) a,
        first_trails t p1 far costs i b x first mid values room l hi ex hb long he r,
      ),
    )

-- what the columns before the first two's are made from is not too great
pub low_first : (t : RowTerms) (p1 : ℕ) (far : ℕ → ℕ → ℕ) (costs : List ℕ) (i b x : ℕ) (first mid values : List ℕ)
    → is_level t.dir ≡ false → i < length t.guide → x ≡ column_at t.dir (length t.guide) i → b ≤ i
    → length first ≡ length t.guide * t.count → All (λ v. v ≤ 4062) first → Trails t p1 far costs b first mid values
    → (z d : ℕ) → column_before t.dir (length t.guide) x ≡ Some z → d < t.count → slice_index values (z * t.count + d) ≤ 4062
low_first t p1 far costs i b x first mid values l hi ex hb long low r z d e hd =
    let width : ℕ = length t.guide in
    let hx : x < width = subst (λ n. n < width) (sym ex) (column_small t.dir width i hi) in
    let turn : column_at t.dir width x ≡ i = ap (column_at t.dir width) ex ∙ column_turns t.dir width i hi in
    let at = before_lag t.dir width x z l hx e in
    omega (
      arith,
      r.left z d at.0 hd (omega (arith, at.1, turn, hb)),
      low (z * t.count + d) 0 (omega (arith, long, mul-add-lt z t.count d width at.0 hd)),
    )

-- ---- after the last columns
pub all_low : (t : RowTerms) (p1 : ℕ) (far : ℕ → ℕ → ℕ) (costs first mid values : List ℕ) → 0 < t.count
    → length values ≡ length t.guide * t.count → Trails t p1 far costs (length t.guide) first mid values → All (λ v. v ≤ 4062) values
all_low t p1 far costs first mid values hc long r =
    All-from_get_or (λ v. v ≤ 4062) values 0
    (λ k h. each_entry (λ k. slice_index values k ≤ 4062) (length t.guide) t.count hc
    (λ z d hz hd. r.low z d hz hd (column_small t.dir (length t.guide) z hz)) k (omega (arith, h, long)))

all_added : (t : RowTerms) (first sums values : List ℕ) → 0 < t.count → length sums ≡ length t.guide * t.count
    → Added t (length t.guide) first sums values
    → (k : ℕ) → k < length sums → slice_index sums k ≡ slice_index first k + slice_index values k
all_added t first sums values hc long a k h =
    each_entry (λ k. slice_index sums k ≡ slice_index first k + slice_index values k) (length t.guide) t.count hc
    (λ z d hz hd. a.done z d hz hd (column_small t.dir (length t.guide) z hz)) k (omega (arith, h, long))

second_row : (t u : RowTerms) (first mid values : List ℕ) → AreAlike t u → 0 < t.count → length values ≡ length t.guide * t.count
    → Trails t u.penalties.p1 (far_in u) u.costs (length t.guide) first mid values
    → RowFollows u.dir u.count u.penalties.p1 (far_in u) mid u.costs values
second_row t u first mid values a hc long r =
    let e : length values ≡ length t.guide * t.count + 0 = omega (arith, long) in
    let width_is : length values / t.count ≡ length t.guide = ap (λ n. n / t.count) e ∙ div-mul-add (length t.guide) t.count 0 hc in
    let row : RowFollows t.dir t.count u.penalties.p1 (far_in u) mid u.costs values =
    λ x d hx hd. subst (λ w. StepsAt t.dir w t.count u.penalties.p1 (far_in u) mid u.costs x d (slice_index values (x * t.count + d))) (sym width_is)
    (r.each x d (omega (arith, hx, width_is)) hd (column_small t.dir (length t.guide) x (omega (arith, hx, width_is)))) in
    subst (λ dir. RowFollows dir u.count u.penalties.p1 (far_in u) mid u.costs values) (sym a.dir)
    (subst (λ n. RowFollows t.dir n u.penalties.p1 (far_in u) mid u.costs values) (sym a.count) row)

pub follow_two : (t u : RowTerms) (first mid values sums0 sums more0 more : List ℕ) → is_level t.dir ≡ false → AreAlike t u → 0 < t.count
    → length t.costs ≡ length t.guide * t.count → length mid ≡ length t.guide * t.count → length values ≡ length t.guide * t.count
    → length sums ≡ length t.guide * t.count → length more ≡ length t.guide * t.count
    → Swept t (length t.guide) first mid → Added t (length t.guide) sums0 sums mid
    → Trails t u.penalties.p1 (far_in u) u.costs (length t.guide) first mid values → Added t (length t.guide) more0 more values
    → FollowsTwo t u first values sums0 sums more0 more
follow_two t u first mid values sums0 sums more0 more l a hc lc lm lv ls lo s added r more_added = record {
  between = mid;
  whole = omega (arith, lc, lm);
  first = subst (λ b. RowFollows t.dir t.count t.penalties.p1 (far_in t) (if b then mid else first) t.costs mid) l (swept_row t first mid hc lm s);
  second = second_row t u first mid values a hc lv r;
  added = all_added t sums0 sums mid hc ls added;
  more_added = all_added t more0 more values hc lo more_added;
}

pub passes_two : (t u : RowTerms) (before after old new more more' : List ℕ) → t.penalties.p1 ≤ t.penalties.p2
    → u.penalties.p1 ≤ u.penalties.p2 → 0 < t.count → 0 < u.count → length after ≡ length u.costs
    → FollowsTwo t u before after old new more more' → PassesTwo t u before after old new more more'
passes_two t u before after old new more more' le le' hc hc' long f = record {
  between = f.between;
  whole = f.whole;
  first = λ g y s b. paths_from g t.dir y t.penalties.p1 t.count (far_in t) t.costs before f.between s
      (between-ordered t.penalties t.guide t.guide_before le) hc f.whole b f.first;
  second = λ g y s b. paths_from g u.dir y u.penalties.p1 u.count (far_in u) u.costs f.between after s
      (between-ordered u.penalties u.guide u.guide_before le') hc' long b f.second;
  added = f.added;
  more_added = f.more_added;
}

-- ---- the second row's last column, which nothing comes before
none_of : (o : Option ℕ) → ((z : ℕ) → o ≡ Some z → 1 < 1) → o ≡ None
none_of None h = refl
none_of (Some z) h = absurd (omega (arith, h z refl))

pub stepped_alone : (t : RowTerms) (p1 : ℕ) (far : ℕ → ℕ → ℕ) (costs : List ℕ) (x : ℕ) (prev old new more more' : List ℕ)
    → is_level t.dir ≡ false → 0 < lag_of t.dir → 0 < length t.guide → x ≡ column_at t.dir (length t.guide) (length t.guide - 1)
    → OthersStay (x * t.count) t.count old new
    → ((d : ℕ) → d < t.count → slice_index new (x * t.count + d) ≡ slice_index costs (x * t.count + d))
    → ((d : ℕ) → d < t.count → slice_index new (x * t.count + d) ≤ 4062)
    → AddsPixel (x * t.count) t.count (λ d. slice_index new (x * t.count + d)) more more'
    → SteppedBy t.dir (length t.guide) t.count p1 far costs x prev old new more more'
stepped_alone t p1 far costs x prev old new more more' l hl hw ex others each low adds =
    let none : column_before t.dir (length t.guide) x ≡ None = none_of (column_before t.dir (length t.guide) x) (λ z e. last_alone t x z 1 l hl hw ex e) in
    record {
      others = others;
      each = λ d hd. subst (λ o. MatchOption o (slice_index new (x * t.count + d) ≡ slice_index costs (x * t.count + d))
          (λ z. Follows (slice_index prev) t.count p1 (far z x) (slice_index costs (x * t.count + d)) d (slice_index new (x * t.count + d)))) (sym none) (each d hd);
      bound = low;
      added = adds;
    }
