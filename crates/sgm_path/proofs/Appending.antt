-- A row of path values that is appended pixel by pixel, in a direction that comes from the left.
use Rattle.std.proofs.Common.{◌≡◌, ℕ, ◌+◌, ◌-◌, ◌*◌, ◌/◌, ◌%◌, ◌<◌, ◌≤◌, ◌∙◌, ◌++◌, inl, inr, List, length, slice_index, Some, None, MatchOption, refl, sym, ap, subst, arith}
use Rattle.std.specs.List.{All}
use Rattle.std.proofs.lemmas.Bool.{cases_eq}
use Rattle.std.proofs.lemmas.List.{append_assoc, length-append, get_or_append_left, get_or-append-add}
use Rattle.std.proofs.lemmas.List.Elements.{All-append}
use Rattle.std.proofs.lemmas.Nat.{mul-add-lt, mul-le, div-mul-add}
use Rattle.sgm_energy.specs.declared.dir.Dir.{Dir}
use Rattle.sgm_energy.specs.declared.dir.Dir.TheVariants.{Right}
use Rattle.sgm_energy.specs.Rays.{column_before}
use Rattle.sgm_energy.proofs.RayLemmas.{minus_one, minus_one_none, minus_pos}
use Rattle.sgm_path.specs.Paths.{EntryFollows, far_in, Follows, RowFollows, RowTerms, StepsAt}
use Rattle.sgm_path.proofs.Follow.{follows_same}
use Rattle.sgm_path.proofs.PathRows.{steps_same}
use Rattle.sgm_path.proofs.Sweeps.{entry_follows}

-- what is known of a row of which so many pixels are there
pub record Appended (t : RowTerms) (x : ℕ) (row : List ℕ) : Type 0 where
  pub whole : length row ≡ x * t.count
  pub low : All (λ v. v ≤ 4062) row
  pub each : (z d : ℕ) → z < x → d < t.count → EntryFollows t row z d (slice_index row (z * t.count + d))

-- a row to which a list was appended, of which so many pixels came to the end
pub record IsAppended (t : RowTerms) (x : ℕ) (old new : List ℕ) : Type 0 where
  pub row : List ℕ
  pub added : new ≡ old ++ row
  pub is : Appended t x row

before_first : (dir : Dir) (width : ℕ) → dir ≡ Right → column_before dir width 0 ≡ None
before_first dir width e = subst (λ d. column_before d width 0 ≡ None) (sym e) (minus_one_none width 0 refl)

before_next : (dir : Dir) (width x : ℕ) → dir ≡ Right → 0 < x → x < width → column_before dir width x ≡ Some (x - 1)
before_next dir width x e h l = subst (λ d. column_before d width x ≡ Some (x - 1)) (sym e) (minus_one width x h (omega arith))

-- the first pixel has its costs
pub appended_first : (t : RowTerms) (values : List ℕ) → t.dir ≡ Right → length values ≡ t.count
    → ((d : ℕ) → d < t.count → slice_index values d ≡ slice_index t.costs d) → All (λ v. v ≤ 4062) values → Appended t 1 values
appended_first t values e len same low = record {
  whole = omega (arith, len);
  low = low;
  each = λ z d hz hd.
      let none : z ≡ 0 = omega arith in
      let value : slice_index values (z * t.count + d) ≡ slice_index t.costs (z * t.count + d) =
      ap (slice_index values) (omega (arith, ap (λ n. n * t.count) none)) ∙ same d hd ∙ ap (slice_index t.costs) (omega (arith, ap (λ n. n * t.count) none)) in
      let at : column_before t.dir (length t.guide) z ≡ None = ap (column_before t.dir (length t.guide)) none ∙ before_first t.dir (length t.guide) e in
      subst (λ o. MatchOption o (slice_index values (z * t.count + d) ≡ slice_index t.costs (z * t.count + d))
      (λ y. Follows (λ a. slice_index values (y * t.count + a)) t.count t.penalties.p1 (far_in t y z) (slice_index t.costs (z * t.count + d)) d (slice_index values (z * t.count + d))))
      (sym at) value;
}

-- and one pixel more
pub appended_more : (t : RowTerms) (x : ℕ) (row prev values : List ℕ) → t.dir ≡ Right → 0 < x → x < length t.guide → Appended t x row → length values ≡ t.count
    → ((d : ℕ) → d < t.count → slice_index prev d ≡ slice_index row ((x - 1) * t.count + d))
    → ((d : ℕ) → d < t.count → Follows (slice_index prev) t.count t.penalties.p1 (far_in t (x - 1) x) (slice_index t.costs (x * t.count + d)) d (slice_index values d))
    → All (λ v. v ≤ 4062) values → Appended t (x + 1) (row ++ values)
appended_more t x row prev values e some inside a len same follows low =
    let count : ℕ = t.count in
    let old : (z d : ℕ) → z < x → d < count → slice_index (row ++ values) (z * count + d) ≡ slice_index row (z * count + d) =
    λ z d hz hd. get_or_append_left row values 0 (z * count + d) (omega (arith, a.whole, mul-add-lt z count d x hz hd)) in
    let new : (d : ℕ) → slice_index (row ++ values) (x * count + d) ≡ slice_index values d =
    λ d. ap (λ n. slice_index (row ++ values) (n + d)) (sym a.whole) ∙ get_or-append-add row values d 0 in
    record {
      whole = omega (arith, length-append row values, a.whole, len);
      low = All-append (λ v. v ≤ 4062) row values a.low low;
      each = λ z d hz hd. elim (cases_eq z x) [
        | inl is ↦ subst (λ n. EntryFollows t (row ++ values) n d (slice_index (row ++ values) (n * count + d))) (sym is)
            (entry_follows t (row ++ values) x (x - 1) d (slice_index (row ++ values) (x * count + d)) (far_in t (x - 1) x) refl (sym (before_next t.dir (length t.guide) x e some inside))
            (follows_same (slice_index prev) (λ k. slice_index (row ++ values) ((x - 1) * count + k)) count t.penalties.p1 (far_in t (x - 1) x) _ _ d (slice_index values d) _ hd
            (λ k hk. same k hk ∙ sym (old (x - 1) k (omega arith) hk)) refl (sym (new d)) (follows d hd)))
        | inr other ↦ (let hz' : z < x = omega (arith, hz, other) in
            subst (λ v. EntryFollows t (row ++ values) z d v) (sym (old z d hz' hd))
            (steps_same t.dir (length t.guide) count t.penalties.p1 (far_in t) row (row ++ values) t.costs z d (slice_index row (z * count + d)) hd
            (λ y k ey hk. let before = minus_pos (length t.guide) z 1 y (subst (λ q. column_before q (length t.guide) z ≡ Some y) e ey) in sym (old y k (omega (arith, before.0, hz')) hk))
            (a.each z d hz' hd)))
      ];
    }

-- the whole row
pub appended_row : (t : RowTerms) (row : List ℕ) → 0 < t.count → Appended t (length t.guide) row → RowFollows t.dir t.count t.penalties.p1 (far_in t) row t.costs row
appended_row t row hc a x d hx hd =
    let e : length row ≡ length t.guide * t.count + 0 = omega (arith, a.whole) in
    let width_is : length row / t.count ≡ length t.guide = ap (λ n. n / t.count) e ∙ div-mul-add (length t.guide) t.count 0 hc in
    subst (λ w. StepsAt t.dir w t.count t.penalties.p1 (far_in t) row t.costs x d (slice_index row (x * t.count + d))) (sym width_is)
    (a.each x d (omega (arith, hx, width_is)) hd)

-- a room holds the values of the last pixel
pub record HoldsLast (t : RowTerms) (x : ℕ) (row room : List ℕ) : Type 0 where
  pub same : (d : ℕ) → d < t.count → slice_index room d ≡ slice_index row ((x - 1) * t.count + d)
  pub low : All (λ v. v ≤ 4062) room

-- the room from which a pixel was appended
pub holds_last : (t : RowTerms) (x : ℕ) (row values : List ℕ) → length row ≡ x * t.count → All (λ v. v ≤ 4062) values
    → HoldsLast t (x + 1) (row ++ values) values
holds_last t x row values whole low = record {
  same = λ d hd.
      let place : (x + 1 - 1) * t.count ≡ length row = ap (λ n. n * t.count) (omega arith) ∙ sym whole in
      sym (ap (λ n. slice_index (row ++ values) (n + d)) place ∙ get_or-append-add row values d 0);
  low = low;
}

-- so many pixels came to the end, and the room for the values of the last one holds them
pub record Turned (t : RowTerms) (x : ℕ) (old new even odd : List ℕ) : Type 0 where
  pub made : IsAppended t x old new
  pub even_last : x % 2 ≡ 1 → HoldsLast t x made.row even
  pub odd_last : x % 2 ≡ 0 → HoldsLast t x made.row odd

record Next (t : RowTerms) (x : ℕ) (old new values : List ℕ) : Type 0 where
  made : IsAppended t x old new
  last : HoldsLast t x made.row values

next : (t : RowTerms) (x : ℕ) (old new new' prev values : List ℕ) → t.dir ≡ Right → 0 < x → x < length t.guide → (a : IsAppended t x old new)
    → HoldsLast t x a.row prev → length values ≡ t.count
    → ((d : ℕ) → d < t.count → Follows (slice_index prev) t.count t.penalties.p1 (far_in t (x - 1) x) (slice_index t.costs (x * t.count + d)) d (slice_index values d))
    → All (λ v. v ≤ 4062) values → new' ≡ new ++ values → Next t (x + 1) old new' values
next t x old new new' prev values right some inside a last long follows low added = record {
  made = record {
    row = a.row ++ values;
    added = added ∙ ap (λ (l : List ℕ). l ++ values) a.added ∙ append_assoc old a.row values;
    is = appended_more t x a.row prev values right some inside a.is long last.same follows low;
  };
  last = holds_last t x a.row values a.is.whole low;
}

pub turned_odd : (t : RowTerms) (x : ℕ) (old new new' even odd odd' : List ℕ) → t.dir ≡ Right → 0 < x → x < length t.guide → x % 2 ≡ 1
    → Turned t x old new even odd → length odd' ≡ t.count
    → ((d : ℕ) → d < t.count → Follows (slice_index even) t.count t.penalties.p1 (far_in t (x - 1) x) (slice_index t.costs (x * t.count + d)) d (slice_index odd' d))
    → All (λ v. v ≤ 4062) odd' → new' ≡ new ++ odd' → Turned t (x + 1) old new' even odd'
turned_odd t x old new new' even odd odd' right some inside is turned long follows low added =
    let n = next t x old new new' even odd' right some inside turned.made (turned.even_last is) long follows low added in
    record {
      made = n.made;
      even_last = λ e. absurd (omega (arith, is, e));
      odd_last = λ _. n.last;
    }

pub turned_even : (t : RowTerms) (x : ℕ) (old new new' even odd even' : List ℕ) → t.dir ≡ Right → 0 < x → x < length t.guide → x % 2 ≡ 0
    → Turned t x old new even odd → length even' ≡ t.count
    → ((d : ℕ) → d < t.count → Follows (slice_index odd) t.count t.penalties.p1 (far_in t (x - 1) x) (slice_index t.costs (x * t.count + d)) d (slice_index even' d))
    → All (λ v. v ≤ 4062) even' → new' ≡ new ++ even' → Turned t (x + 1) old new' even' odd
turned_even t x old new new' even odd even' right some inside is turned long follows low added =
    let n = next t x old new new' odd even' right some inside turned.made (turned.odd_last is) long follows low added in
    record {
      made = n.made;
      even_last = λ _. n.last;
      odd_last = λ e. absurd (omega (arith, is, e));
    }

-- a row has room for a pixel's entries
pub first_fits : (n count len : ℕ) → len ≡ n * count → 0 < n → count ≤ len
first_fits n count len whole some = omega (arith, whole, mul-le 1 count n count (omega arith) (omega arith))
