-- A row that is gone through column by column and takes the place of the row that it comes from.
use Rattle.std.proofs.Common.{◌≡◌, ℕ, ◌+◌, ◌*◌, ◌/◌, ◌%◌, ◌<◌, ◌≤◌, ◌⊎◌, inl, inr, Bool, true, false, if◌then◌else◌, List, length, slice_index, Some, MatchOption, refl, sym, ap, ◌∙◌, subst, arith}
use Rattle.std.specs.List.{All}
use Rattle.std.proofs.lemmas.Bool.{cases_eq, cases_lt}
use Rattle.std.proofs.lemmas.Nat.{mul-add-lt, mul-le, div_below, mod_below, div-add-mod', div-mul-add}
use Rattle.sgm_energy.specs.declared.dir.Dir.{Dir}
use Rattle.sgm_energy.specs.declared.dir.Dir.TheVariants.{Right, Left, Down, DownRight, DownLeft, Up, UpRight, UpLeft}
use Rattle.sgm_energy.specs.Dirs.{is_level}
use Rattle.sgm_energy.specs.Energies.{path_value}
use Rattle.sgm_energy.specs.Rays.{Problem, column_before}
use Rattle.sgm_energy.specs.Rows.{HoldsRow}
use Rattle.sgm_energy.proofs.RayLemmas.{minus_pos, minus_negsuc}
use Rattle.sgm_path.specs.Paths.{column_at, EntryFollows, far_in, Follows, HasFar, HoldsRowBefore, OthersStay, row_from, RowFollows, RowTerms, StepsAt, Suits}
use Rattle.sgm_path.proofs.PathRows.{between-ordered, paths_from, paths_level, steps_same}

-- ---- the order of the columns
-- a column's place in the order is the column at that place
pub column_turns : (dir : Dir) (width i : ℕ) → i < width → column_at dir width (column_at dir width i) ≡ i
column_turns Right width i h = refl
column_turns Left width i h = omega arith
column_turns Down width i h = refl
column_turns DownRight width i h = omega arith
column_turns DownLeft width i h = refl
column_turns Up width i h = refl
column_turns UpRight width i h = omega arith
column_turns UpLeft width i h = refl

pub column_small : (dir : Dir) (width i : ℕ) → i < width → column_at dir width i < width
column_small Right width i h = h
column_small Left width i h = omega arith
column_small Down width i h = h
column_small DownRight width i h = omega arith
column_small DownLeft width i h = h
column_small Up width i h = h
column_small UpRight width i h = omega arith
column_small UpLeft width i h = h

-- in a level direction the column before comes earlier
pub before_level : (dir : Dir) (width x z : ℕ) → is_level dir ≡ true → x < width → column_before dir width x ≡ Some z
    → (z < width) × (column_at dir width z < column_at dir width x)
before_level Right width x z l h e =
    let m = minus_pos width x 1 z e in (m.1, omega (arith, m.0))
before_level Left width x z l h e =
    let m = minus_negsuc width x 0 z e in (m.1, omega (arith, m.0, m.1))
before_level Down width x z l h e = absurd (cc)
before_level DownRight width x z l h e = absurd (cc)
before_level DownLeft width x z l h e = absurd (cc)
before_level Up width x z l h e = absurd (cc)
before_level UpRight width x z l h e = absurd (cc)
before_level UpLeft width x z l h e = absurd (cc)

-- in any other it comes later, or is the column itself
pub before_across : (dir : Dir) (width x z : ℕ) → is_level dir ≡ false → x < width → column_before dir width x ≡ Some z
    → (z < width) × (column_at dir width x ≤ column_at dir width z)
before_across Right width x z l h e = absurd (cc)
before_across Left width x z l h e = absurd (cc)
before_across Down width x z l h e =
    let m = minus_pos width x 0 z e in (m.1, omega (arith, m.0))
before_across DownRight width x z l h e =
    let m = minus_pos width x 1 z e in (m.1, omega (arith, m.0))
before_across DownLeft width x z l h e =
    let m = minus_negsuc width x 0 z e in (m.1, omega (arith, m.0))
before_across Up width x z l h e =
    let m = minus_pos width x 0 z e in (m.1, omega (arith, m.0))
before_across UpRight width x z l h e =
    let m = minus_pos width x 1 z e in (m.1, omega (arith, m.0))
before_across UpLeft width x z l h e =
    let m = minus_negsuc width x 0 z e in (m.1, omega (arith, m.0))

-- a column at another place in the order than x is another column
pub apart_of : (dir : Dir) (width i x z : ℕ) → i < width → x ≡ column_at dir width i
    → (column_at dir width z < i) ⊎ (i < column_at dir width z) → (z < x) ⊎ (x < z)
apart_of dir width i x z h ex o = elim (cases_lt z x) [
  | inl l ↦ inl l
  | inr le ↦ elim (cases_eq z x) [
    | inl e ↦ (let turns : column_at dir width z ≡ i = ap (column_at dir width) (e ∙ ex) ∙ column_turns dir width i h in
        elim o [
          | inl a ↦ absurd (omega (arith, a, turns))
          | inr a ↦ absurd (omega (arith, a, turns))
        ])
    | inr n ↦ inr (omega (arith, le, n))
  ]
]

-- what stands at another column stays
pub other_column : (old new : List ℕ) (count x z d : ℕ) → OthersStay (x * count) count old new → (z < x) ⊎ (x < z) → d < count
    → slice_index new (z * count + d) ≡ slice_index old (z * count + d)
other_column old new count x z d others (inl l) hd =
    others (z * count + d) (inl (omega (arith, mul-add-lt z count d x l hd)))
other_column old new count x z d others (inr l) hd =
    others (z * count + d) (inr (omega (arith, mul-le (x + 1) count z count (omega (arith, l)) (omega arith))))

-- ---- the row that entries come from
from_same : (dir : Dir) (first old new : List ℕ) (k : ℕ) → (is_level dir ≡ true → slice_index old k ≡ slice_index new k)
    → slice_index (row_from dir first old) k ≡ slice_index (row_from dir first new) k
from_same Right first old new k h = h refl
from_same Left first old new k h = h refl
from_same Down first old new k h = refl
from_same DownRight first old new k h = refl
from_same DownLeft first old new k h = refl
from_same Up first old new k h = refl
from_same UpRight first old new k h = refl
from_same UpLeft first old new k h = refl

from_is : (dir : Dir) (first old new : List ℕ) (k : ℕ) → (is_level dir ≡ true → slice_index old k ≡ slice_index new k)
    → (is_level dir ≡ false → slice_index old k ≡ slice_index first k)
    → slice_index old k ≡ slice_index (row_from dir first new) k
from_is Right first old new k h g = h refl
from_is Left first old new k h g = h refl
from_is Down first old new k h g = g refl
from_is DownRight first old new k h g = g refl
from_is DownLeft first old new k h g = g refl
from_is Up first old new k h g = g refl
from_is UpRight first old new k h g = g refl
from_is UpLeft first old new k h g = g refl

-- ---- what is known once so many columns were gone through
pub record Swept (t : RowTerms) (i : ℕ) (first values : List ℕ) : Type 0 where
  pub low : (z d : ℕ) → z < length t.guide → d < t.count → column_at t.dir (length t.guide) z < i
      → slice_index values (z * t.count + d) ≤ 4062
  pub each : (z d : ℕ) → z < length t.guide → d < t.count → column_at t.dir (length t.guide) z < i
      → EntryFollows t (row_from t.dir first values) z d (slice_index values (z * t.count + d))
  pub left : (z d : ℕ) → z < length t.guide → d < t.count → i ≤ column_at t.dir (length t.guide) z
      → slice_index values (z * t.count + d) ≡ slice_index first (z * t.count + d)

-- the same of the sums to which the values of each column are added once they are there
pub record Added (t : RowTerms) (i : ℕ) (first sums values : List ℕ) : Type 0 where
  pub done : (z d : ℕ) → z < length t.guide → d < t.count → column_at t.dir (length t.guide) z < i
      → slice_index sums (z * t.count + d) ≡ slice_index first (z * t.count + d) + slice_index values (z * t.count + d)
  pub left : (z d : ℕ) → z < length t.guide → d < t.count → i ≤ column_at t.dir (length t.guide) z
      → slice_index sums (z * t.count + d) ≡ slice_index first (z * t.count + d)

-- what an entry that comes next follows from is still there
next_from : (t : RowTerms) (i x : ℕ) (first old new : List ℕ) → i < length t.guide → x ≡ column_at t.dir (length t.guide) i
    → OthersStay (x * t.count) t.count old new → Swept t i first old → (z a : ℕ) → column_before t.dir (length t.guide) x ≡ Some z
    → a < t.count → slice_index old (z * t.count + a) ≡ slice_index (row_from t.dir first new) (z * t.count + a)
next_from t i x first old new hi ex others s z a e ha =
    let width : ℕ = length t.guide in
    let hx : x < width = subst (λ n. n < width) (sym ex) (column_small t.dir width i hi) in
    let turn : column_at t.dir width x ≡ i = ap (column_at t.dir width) ex ∙ column_turns t.dir width i hi in
    from_is t.dir first old new (z * t.count + a)
    (λ l. let b = before_level t.dir width x z l hx e in
    sym (other_column old new t.count x z a others (apart_of t.dir width i x z hi ex (inl (omega (arith, b.1, turn)))) ha))
    (λ l. let b = before_across t.dir width x z l hx e in s.left z a b.0 ha (omega (arith, b.1, turn)))

pub swept_more : (t : RowTerms) (i x : ℕ) (first old new : List ℕ) → i < length t.guide → x ≡ column_at t.dir (length t.guide) i
    → OthersStay (x * t.count) t.count old new
    → ((d : ℕ) → d < t.count → EntryFollows t old x d (slice_index new (x * t.count + d)))
    → ((d : ℕ) → d < t.count → slice_index new (x * t.count + d) ≤ 4062)
    → Swept t i first old → Swept t (i + 1) first new
swept_more t i x first old new hi ex others each bound s =
    let width : ℕ = length t.guide in
    let count : ℕ = t.count in
    let far : ℕ → ℕ → ℕ = far_in t in
    let turn : column_at t.dir width x ≡ i = ap (column_at t.dir width) ex ∙ column_turns t.dir width i hi in
    let here : (z : ℕ) → z < width → column_at t.dir width z ≡ i → z ≡ x =
    λ z hz e. sym (column_turns t.dir width z hz) ∙ ap (column_at t.dir width) e ∙ sym ex in
    record {
      low = λ z d hz hd h. elim (cases_eq (column_at t.dir width z) i) [
        | inl e ↦ omega (arith, ap (λ n. slice_index new (n * count + d)) (here z hz e), bound d hd)
        | inr n ↦ (let lt : column_at t.dir width z < i = omega (arith, h, n) in
            omega (arith, other_column old new count x z d others (apart_of t.dir width i x z hi ex (inl lt)) hd, s.low z d hz hd lt))
      ];
      each = λ z d hz hd h. elim (cases_eq (column_at t.dir width z) i) [
        | inl e ↦ subst (λ n. EntryFollows t (row_from t.dir first new) n d (slice_index new (n * count + d))) (sym (here z hz e))
            (steps_same t.dir width count t.penalties.p1 far old (row_from t.dir first new) t.costs x d (slice_index new (x * count + d)) hd
            (λ w a eb ha. next_from t i x first old new hi ex others s w a eb ha)
            (each d hd))
        | inr n ↦ (let lt : column_at t.dir width z < i = omega (arith, h, n) in
            let same = other_column old new count x z d others (apart_of t.dir width i x z hi ex (inl lt)) hd in
            subst (EntryFollows t (row_from t.dir first new) z d) (sym same)
            (steps_same t.dir width count t.penalties.p1 far (row_from t.dir first old) (row_from t.dir first new) t.costs z d (slice_index old (z * count + d)) hd
            (λ w a eb ha. from_same t.dir first old new (w * count + a) (λ l. let b = before_level t.dir width z w l hz eb in
            sym (other_column old new count x w a others (apart_of t.dir width i x w hi ex (inl (omega (arith, b.1, lt)))) ha)))
            (s.each z d hz hd lt)))
      ];
      left = λ z d hz hd h.
          other_column old new count x z d others (apart_of t.dir width i x z hi ex (inr (omega (arith, h)))) hd ∙ s.left z d hz hd (omega (arith, h));
    }

pub added_more : (t : RowTerms) (i x : ℕ) (first old new values values' : List ℕ) → i < length t.guide → x ≡ column_at t.dir (length t.guide) i
    → OthersStay (x * t.count) t.count values values' → OthersStay (x * t.count) t.count old new
    → ((d : ℕ) → d < t.count → slice_index new (x * t.count + d) ≡ slice_index old (x * t.count + d) + slice_index values' (x * t.count + d))
    → Added t i first old values → Added t (i + 1) first new values'
added_more t i x first old new values values' hi ex others others' here s =
    let width : ℕ = length t.guide in
    let count : ℕ = t.count in
    let turn : column_at t.dir width x ≡ i = ap (column_at t.dir width) ex ∙ column_turns t.dir width i hi in
    let hx : x < width = subst (λ n. n < width) (sym ex) (column_small t.dir width i hi) in
    record {
      done = λ z d hz hd h. elim (cases_eq (column_at t.dir width z) i) [
        | inl e ↦ (let z_is : z ≡ x = sym (column_turns t.dir width z hz) ∙ ap (column_at t.dir width) e ∙ sym ex in
            subst (λ n. slice_index new (n * count + d) ≡ slice_index first (n * count + d) + slice_index values' (n * count + d)) (sym z_is)
            (omega (arith, here d hd, s.left x d hx hd (omega (arith, turn)))))
        | inr n ↦ (let lt : column_at t.dir width z < i = omega (arith, h, n) in
            let apart = apart_of t.dir width i x z hi ex (inl lt) in
            omega (arith, other_column old new count x z d others' apart hd, other_column values values' count x z d others apart hd, s.done z d hz hd lt))
      ];
      left = λ z d hz hd h.
          other_column old new count x z d others' (apart_of t.dir width i x z hi ex (inr (omega (arith, h)))) hd ∙ s.left z d hz hd (omega (arith, h));
    }

-- no value that an entry follows from is too great
low_by : (b : Bool) (t : RowTerms) (i x : ℕ) (first old : List ℕ) → is_level t.dir ≡ b → i < length t.guide
    → x ≡ column_at t.dir (length t.guide) i → length first ≡ length t.guide * t.count
    → (is_level t.dir ≡ false → All (λ v. v ≤ 4062) first) → Swept t i first old → (z d : ℕ)
    → column_before t.dir (length t.guide) x ≡ Some z → d < t.count → slice_index old (z * t.count + d) ≤ 4062
low_by true t i x first old l hi ex len low s z d e hd =
    let width : ℕ = length t.guide in
    let hx : x < width = subst (λ n. n < width) (sym ex) (column_small t.dir width i hi) in
    let turn : column_at t.dir width x ≡ i = ap (column_at t.dir width) ex ∙ column_turns t.dir width i hi in
    let b = before_level t.dir width x z l hx e in
    s.low z d b.0 hd (omega (arith, b.1, turn))
low_by false t i x first old l hi ex len low s z d e hd =
    let width : ℕ = length t.guide in
    let hx : x < width = subst (λ n. n < width) (sym ex) (column_small t.dir width i hi) in
    let turn : column_at t.dir width x ≡ i = ap (column_at t.dir width) ex ∙ column_turns t.dir width i hi in
    let b = before_across t.dir width x z l hx e in
    omega (
      arith,
      s.left z d b.0 hd (omega (arith, b.1, turn)),
      low l (z * t.count + d) 0 (omega (arith, len, mul-add-lt z t.count d width b.0 hd)),
    )

pub low_before : (t : RowTerms) (i x : ℕ) (first old : List ℕ) → i < length t.guide
    → x ≡ column_at t.dir (length t.guide) i → length first ≡ length t.guide * t.count
    → (is_level t.dir ≡ false → All (λ v. v ≤ 4062) first) → Swept t i first old → (z d : ℕ)
    → column_before t.dir (length t.guide) x ≡ Some z → d < t.count → slice_index old (z * t.count + d) ≤ 4062
low_before t i x first old hi ex len low s = low_by (is_level t.dir) t i x first old refl hi ex len low s

-- before the first column
pub swept_none : (t : RowTerms) (first : List ℕ) → Swept t 0 first first
swept_none t first = record {
  low = λ z d hz hd h. absurd (omega (arith, h));
  each = λ z d hz hd h. absurd (omega (arith, h));
  left = λ z d hz hd h. refl;
}

pub added_none : (t : RowTerms) (first values : List ℕ) → Added t 0 first first values
added_none t first values = record {
  done = λ z d hz hd h. absurd (omega (arith, h));
  left = λ z d hz hd h. refl;
}

-- what holds of each column's entries holds of each entry of the row
pub each_entry : (P : ℕ → Type 0) (width count : ℕ) → 0 < count → ((z d : ℕ) → z < width → d < count → P (z * count + d))
    → (k : ℕ) → k < width * count → P k
each_entry P width count hc h k hk =
    subst P (div-add-mod' k count) (h (k / count) (k % count) (div_below k count width hc hk) (mod_below k count hc))

-- after the last column
pub swept_row : (t : RowTerms) (first values : List ℕ) → 0 < t.count → length values ≡ length t.guide * t.count
    → Swept t (length t.guide) first values
    → RowFollows t.dir t.count t.penalties.p1 (far_in t) (row_from t.dir first values) t.costs values
swept_row t first values hc el s x d hx hd =
    let e : length values ≡ length t.guide * t.count + 0 = omega (arith, el) in
    let width_is : length values / t.count ≡ length t.guide = ap (λ n. n / t.count) e ∙ div-mul-add (length t.guide) t.count 0 hc in
    subst (λ w. StepsAt t.dir w t.count t.penalties.p1 (far_in t) (row_from t.dir first values) t.costs x d (slice_index values (x * t.count + d))) (sym width_is)
    (s.each x d (omega (arith, hx, width_is)) hd (column_small t.dir (length t.guide) x (omega (arith, hx, width_is))))

-- what follows from the pixel that the direction comes from is the entry's value
pub entry_follows : (t : RowTerms) (before : List ℕ) (x z d value far : ℕ) → far ≡ far_in t z x
    → Some z ≡ column_before t.dir (length t.guide) x
    → Follows (λ a. slice_index before (z * t.count + a)) t.count t.penalties.p1 far (slice_index t.costs (x * t.count + d)) d value
    → EntryFollows t before x d value
entry_follows t before x z d value far ef e f =
    let cost : ℕ = slice_index t.costs (x * t.count + d) in
    let b = subst (λ n. Follows (λ a. slice_index before (z * t.count + a)) t.count t.penalties.p1 n cost d value) ef f in
    subst (λ o. MatchOption o (value ≡ cost) (λ z. Follows (λ a. slice_index before (z * t.count + a)) t.count t.penalties.p1 (far_in t z x) cost d value)) e b

-- ---- path values
-- a row follows from what the terms say, by whatever name
pub follows_of : (t t' : RowTerms) (first values : List ℕ) → t ≡ t'
    → RowFollows t.dir t.count t.penalties.p1 (far_in t) (row_from t.dir first values) t.costs values
    → RowFollows t'.dir t'.count t'.penalties.p1 (far_in t') (row_from t'.dir first values) t'.costs values
follows_of t t' first values e f =
    subst (λ u. RowFollows u.dir u.count u.penalties.p1 (far_in u) (row_from u.dir first values) u.costs values) e f

pub level_paths : (g : Problem) (y : ℕ) (t : RowTerms) (first values : List ℕ) → Suits g y t.penalties.p1 t.count t.costs
    → HasFar g y y (far_in t) → t.penalties.p1 ≤ t.penalties.p2 → 0 < t.count → length values ≡ length t.costs
    → is_level t.dir ≡ true
    → RowFollows t.dir t.count t.penalties.p1 (far_in t) (row_from t.dir first values) t.costs values
    → HoldsRow g y (path_value g t.dir) values
level_paths g y t first values s f le hc el l follows =
    paths_level g t.dir y t.penalties.p1 t.count (far_in t) t.costs values s f
    (between-ordered t.penalties t.guide t.guide_before le) hc el l
    (subst (λ b. RowFollows t.dir t.count t.penalties.p1 (far_in t) (if b then values else first) t.costs values) l follows)

pub across_paths : (g : Problem) (y : ℕ) (t : RowTerms) (first values : List ℕ) → Suits g y t.penalties.p1 t.count t.costs
    → HoldsRowBefore g t.dir y (far_in t) first → t.penalties.p1 ≤ t.penalties.p2 → 0 < t.count
    → length values ≡ length t.costs → is_level t.dir ≡ false
    → RowFollows t.dir t.count t.penalties.p1 (far_in t) (row_from t.dir first values) t.costs values
    → HoldsRow g y (path_value g t.dir) values
across_paths g y t first values s b le hc el l follows =
    paths_from g t.dir y t.penalties.p1 t.count (far_in t) t.costs first values s
    (between-ordered t.penalties t.guide t.guide_before le) hc el b
    (subst (λ b. RowFollows t.dir t.count t.penalties.p1 (far_in t) (if b then values else first) t.costs values) l follows)
