-- Keys of columns of the right row, and the indices that they give.
use Rattle.std.proofs.Common.{◌≡◌, ℕ, ◌+◌, ◌-◌, ◌*◌, ◌%◌, ◌^◌, take, drop, ◌<◌, ◌≤◌, true, false, cond, eqb, leb, ltb, ◌&&◌, List, length, Option, Some, None, is_some, unwrap_or, min, refl, sym, ap, ◌∙◌, subst, inl, inr, arith, below_more, set, slice_get, slice_index, ℤ, pos, negsuc, ◌+ℤ◌}
use Rattle.std.proofs.lemmas.Bool.{cases_lt, cases_Bool, lt-leb, le-leb, lt-ltb, le-ltb, eq-eqb, ne_eqb}
use Rattle.std.proofs.lemmas.Int.{ints}
use Rattle.std.proofs.lemmas.List.{get_or-set_same, get_or-set_other}
use Rattle.std.proofs.lemmas.Option.{slice_get-get_or}
use Rattle.std.proofs.Math.ListN.{length-set}
use Rattle.sgm_base.specs.Columns.{column_within, left_column}
use Rattle.sgm_base.specs.Disparities.{Disparities}
use Rattle.sgm_census.proofs.InWindow.{allowed, refused}
use Rattle.sgm_select.specs.declared.indices.TheConstants.{NO_KEY}
use Rattle.sgm_select.specs.Keys.{key_of, HoldsKeys, IsKeyOf, IsLeastKey}
use Rattle.sgm_select.specs.Selection.{lies}
use Rattle.sgm_select.specs.Rows.{matched_in}
use Rattle.sgm_select.proofs.LeastIndex.{least_index_is, least_index_none, part_at}

-- ---- columns

record IsColumn (width : ℕ) (z : ℤ) (n : ℕ) : Type 0 where
  is : z ≡ pos n
  inside : n < width

is_column : (width : ℕ) (z : ℤ) (n : ℕ) → column_within width z ≡ Some n → IsColumn width z n
is_column width (pos m) n e = elim (cases_lt m width) [
  | inl h ↦ (let same : Some m ≡ Some n = sym (ap (λ b. cond b (Some m) None) (lt-ltb m width h)) ∙ e in
      let number : m ≡ n = cc in
      record { is = ap pos number; inside = omega arith })
  | inr h ↦ absurd (let none : None ≡ Some n = sym (ap (λ b. cond b (Some m) None) (le-ltb m width h)) ∙ e in cc)
]
is_column width (negsuc m) n e = absurd (cc)

column_of : (width : ℕ) (z : ℤ) (n : ℕ) → z ≡ pos n → n < width → column_within width z ≡ Some n
column_of width z n e h = ap (column_within width) e ∙ ap (λ b. cond b (Some n) None) (lt-ltb n width h)

there_is : {X : Type 0} (o : Option X) → is_some o ≡ true → (x : X) × (o ≡ Some x)
there_is None e = absurd (cc)
there_is (Some x) e = (x, refl)

-- ---- one pixel of the left row more

-- at which of len places the indices count, where index 0 would stand at shift
pub record Places (len count : ℕ) (shift : ℤ) (skipped start long : ℕ) : Type 0 where
  pub room : skipped + long ≤ count
  pub each : (d : ℕ) → d < count → column_within len (shift +ℤ pos d) ≡ cond (leb skipped d && ltb d (skipped + long)) (Some (start + (d - skipped))) None

counts_at : (len count : ℕ) (shift : ℤ) (skipped start long d : ℕ) → Places len count shift skipped start long → skipped ≤ d → d < skipped + long → IsColumn len (shift +ℤ pos d) (start + (d - skipped))
counts_at len count shift skipped start long d g l k =
    is_column len (shift +ℤ pos d) (start + (d - skipped))
    (g.each d (omega (arith, g.room)) ∙ allowed (leb skipped d) (ltb d (skipped + long)) (Some (start + (d - skipped))) None (le-leb skipped d l) (lt-ltb d (skipped + long) k))

-- the place of an index that counts is one of those
found_at : (len count : ℕ) (shift : ℤ) (skipped start long d m : ℕ) → Places len count shift skipped start long → d < count → shift +ℤ pos d ≡ pos m → m < len → (skipped ≤ d) × (d < skipped + long) × (m ≡ start + (d - skipped))
found_at len count shift skipped start long d m g h e l =
    let some : column_within len (shift +ℤ pos d) ≡ Some m = column_of len (shift +ℤ pos d) m e l in
    elim (cases_lt d skipped) [
      | inl k ↦ absurd (let none : column_within len (shift +ℤ pos d) ≡ None = g.each d h ∙ refused (leb skipped d) (ltb d (skipped + long)) (Some (start + (d - skipped))) None (inl (lt-leb skipped d k)) in cc)
      | inr k ↦ elim (cases_lt d (skipped + long)) [
        | inr j ↦ absurd (let none : column_within len (shift +ℤ pos d) ≡ None = g.each d h ∙ refused (leb skipped d) (ltb d (skipped + long)) (Some (start + (d - skipped))) None (inr (le-ltb d (skipped + long) j)) in cc)
        | inl j ↦ (let at = counts_at len count shift skipped start long d g k j in (k, j, omega (arith, ints, at.is)))
      ]
    ]

-- the key of the place m before and after the sums of the pixel p
pub record IsLowered (sums : List ℕ) (count p skipped start long m old new : ℕ) : Type 0 where
  pub here : (k : ℕ) → k < long → m ≡ start + k → new ≡ min old (key_of (slice_index sums (p * count + (skipped + k))) (skipped + k))
  pub before : m < start → new ≡ old
  pub after : start + long ≤ m → new ≡ old

key_kept : (sums : List ℕ) (width : ℕ) (first : ℤ) (count q p old new : ℕ) → new ≡ old → ((d k : ℕ) → d < count → left_column width first q d ≡ Some k → k ≡ p → ⊥) → IsLeastKey sums width first count q p old
    → IsLeastKey sums width first count q (p + 1) new
key_kept sums width first count q p old new e none h =
    record {
      low = λ d k hd c l. elim (cases_lt k p) [ inl b ↦ omega (arith, h.low d k hd c b) | inr b ↦ absurd (none d k hd c (omega arith)) ];
      some = elim h.some [
        | inl z ↦ inl (e ∙ z)
        | inr w ↦ inr (w.0, (w.1.0, record { index = w.1.1.index; column = w.1.1.column; before = omega (arith, w.1.1.before); value = e ∙ w.1.1.value }))
      ];
    }

key_lowered : (sums : List ℕ) (width : ℕ) (first : ℤ) (count q p d old new : ℕ) → d < count → left_column width first q d ≡ Some p → ((e k : ℕ) → e < count → left_column width first q e ≡ Some k → k ≡ p → e ≡ d)
    → new ≡ min old (key_of (slice_index sums (p * count + d)) d) → IsLeastKey sums width first count q p old → IsLeastKey sums width first count q (p + 1) new
key_lowered sums width first count q p d old new hd c only e h =
    record {
      low = λ i k hi ci l. elim (cases_lt k p) [
        | inl b ↦ omega (arith, h.low i k hi ci b)
        | inr b ↦ (let at : k ≡ p = omega arith in
            let same : i ≡ d = only i k hi ci at in
            let value : key_of (slice_index sums (k * count + i)) i ≡ key_of (slice_index sums (p * count + d)) d = ap (λ n. key_of (slice_index sums (n * count + i)) i) at ∙ ap (λ n. key_of (slice_index sums (p * count + n)) n) same in
            omega (arith, value))
      ];
      some = elim (cases_lt (key_of (slice_index sums (p * count + d)) d) old) [
        | inl b ↦ inr (d, (p, record { index = hd; column = c; before = omega arith; value = omega arith }))
        | inr b ↦ (let kept : new ≡ old = omega arith in elim h.some [
          | inl z ↦ inl (kept ∙ z)
          | inr w ↦ inr (w.0, (w.1.0, record { index = w.1.1.index; column = w.1.1.column; before = omega (arith, w.1.1.before); value = kept ∙ w.1.1.value }))
        ])
      ];
    }

-- the key of one column, which stands at m
pub key_more : (sums : List ℕ) (width : ℕ) (first : ℤ) (count from len p m old new : ℕ) (shift : ℤ) (skipped start long : ℕ) → Places len count shift skipped start long → m < len → from + len ≤ width → p < width
    → shift +ℤ pos (p + 1) ≡ pos (from + len) +ℤ first → IsLowered sums count p skipped start long m old new
    → IsLeastKey sums width first count (from + (len - 1 - m)) p old → IsLeastKey sums width first count (from + (len - 1 - m)) (p + 1) new
key_more sums width first count from len p m old new shift skipped start long g hm room hp es w h =
    let q = from + (len - 1 - m) in
    let place : (d k : ℕ) → d < count → left_column width first q d ≡ Some k → k ≡ p → (skipped ≤ d) × (d < skipped + long) × (m ≡ start + (d - skipped)) =
    λ d k hd c e. found_at len count shift skipped start long d m g hd (omega (arith, ints, (is_column width ((pos q +ℤ first) +ℤ pos d) k c).is)) hm in
    elim (cases_lt m start) [
      | inl l ↦ key_kept sums width first count q p old new (w.before l) (λ d k hd c e. omega (arith, (place d k hd c e).2)) h
      | inr l ↦ elim (cases_lt m (start + long)) [
        | inr j ↦ key_kept sums width first count q p old new (w.after j) (λ d k hd c e. let at = place d k hd c e in omega (arith, at.0, at.1, at.2)) h
        | inl j ↦
            (let d = skipped + (m - start) in
            let at = counts_at len count shift skipped start long d g (omega arith) (omega arith) in
            let column : left_column width first q d ≡ Some p = column_of width ((pos q +ℤ first) +ℤ pos d) p (omega (arith, ints, at.is)) hp in
            key_lowered sums width first count q p d old new (omega (arith, g.room)) column
            (λ e k he c ek. let there = place e k he c ek in omega (arith, there.0, there.1, there.2))
            (w.here (m - start) (omega arith) (omega arith)) h)
      ]
    ]

-- the keys of a block of columns, after the sums of one pixel more
pub keys_more : (sums : List ℕ) (width : ℕ) (span : Disparities) (from p : ℕ) (old new : List ℕ) (count : ℕ) (shift : ℤ) (skipped start long : ℕ) → Places (length old) count shift skipped start long
    → count ≡ span.count → length new ≡ length old → from + length old ≤ width → p < width → shift +ℤ pos (p + 1) ≡ pos (from + length old) +ℤ span.first
    → ((k : ℕ) → k < long → slice_index new (start + k) ≡ min (slice_index old (start + k)) (key_of (slice_index (take ((p + 1) * count - p * count) (drop (p * count) sums)) (skipped + k)) (skipped + k)))
    → ((m : ℕ) → m < start → slice_index new m ≡ slice_index old m) → ((m : ℕ) → start + long ≤ m → slice_index new m ≡ slice_index old m)
    → HoldsKeys sums width span from p old → HoldsKeys sums width span from (p + 1) new
keys_more sums width span from p old new count shift skipped start long g ec el room hp es here before after h =
    let row = (p + 1) * count - p * count in
    let whole : row ≡ count = omega arith in
    let lowered : (m : ℕ) → IsLowered sums count p skipped start long m (slice_index old m) (slice_index new m) =
    λ m. record {
      here = λ k l e.
          ap (λ j. slice_index new j) e ∙ here k l
          ∙ ap (λ v. min (slice_index old (start + k)) (key_of v (skipped + k))) (part_at sums (p * count) row (skipped + k) (omega (arith, g.room)))
          ∙ ap (λ j. min (slice_index old j) (key_of (slice_index sums (p * count + (skipped + k))) (skipped + k))) (sym e);
      before = before m;
      after = after m;
    } in
    record {
      each = λ m l.
          let inside : m < length old = omega arith in
          let was : IsLeastKey sums width span.first count (from + (length old - 1 - m)) p (slice_index old m) =
          subst (λ n. IsLeastKey sums width span.first n (from + (length old - 1 - m)) p (slice_index old m)) (sym ec) (h.each m inside) in
          subst (λ n. IsLeastKey sums width span.first n (from + (length new - 1 - m)) (p + 1) (slice_index new m)) ec
          (subst (λ n. IsLeastKey sums width span.first count (from + (n - 1 - m)) (p + 1) (slice_index new m)) (sym el)
          (key_more sums width span.first count from (length old) p m (slice_index old m) (slice_index new m) shift skipped start long g inside room hp es (lowered m) was));
    }

-- no sums yet
pub key_none : (sums : List ℕ) (width : ℕ) (first : ℤ) (count q key : ℕ) → key ≡ NO_KEY → IsLeastKey sums width first count q 0 key
key_none sums width first count q key e = record { low = λ d k h c l. absurd (omega arith); some = inl e }

-- ---- what a key gives in the end

sum_here : (sums : List ℕ) (width : ℕ) (first : ℤ) (count q d k : ℕ) → left_column width first q d ≡ Some k → slice_index sums (unwrap_or (left_column width first q d) 0 * count + d) ≡ slice_index sums (k * count + d)
sum_here sums width first count q d k c = ap (λ o. slice_index sums (unwrap_or o 0 * count + d)) c

matched_none : (sums : List ℕ) (width : ℕ) (first : ℤ) (count q key : ℕ) → ((k : ℕ) → slice_index sums k < 2 ^ 16) → count ≤ 256 → key ≡ NO_KEY → IsLeastKey sums width first count q width key → matched_in sums width first count q ≡ None
unfolding matched_in
matched_none sums width first count q key small few e h =
    least_index_none (lies width first q) (λ d. slice_index sums (unwrap_or (left_column width first q d) 0 * count + d)) count
    (λ d hd. elim (cases_Bool (lies width first q d)) [
      | inr ne ↦ ne
      | inl ok ↦ absurd (let k = there_is (left_column width first q d) ok in
          omega (arith, h.low d k.0 hd k.1 (is_column width ((pos q +ℤ first) +ℤ pos d) k.0 k.1).inside, small (k.0 * count + d)))
    ])

matched_some : (sums : List ℕ) (width : ℕ) (first : ℤ) (count q key d k : ℕ) → count ≤ 256 → IsKeyOf sums width first count q width key d k → IsLeastKey sums width first count q width key → matched_in sums width first count q ≡ Some d
unfolding matched_in
matched_some sums width first count q key d k few w h =
    let f : ℕ → ℕ = λ d. slice_index sums (unwrap_or (left_column width first q d) 0 * count + d) in
    let least : (i : ℕ) → i < count → lies width first q i ≡ true → key_of (f d) d ≤ key_of (f i) i =
    λ i hi ok. let at = there_is (left_column width first q i) ok in
    omega (arith, h.low i at.0 hi at.1 (is_column width ((pos q +ℤ first) +ℤ pos i) at.0 at.1).inside, sum_here sums width first count q i at.0 at.1, sum_here sums width first count q d k w.column, w.value) in
    least_index_is (lies width first q) f count d w.index (ap is_some w.column)
    (λ i hi ok. omega (arith, least i hi ok, w.index)) (λ i hi ok. omega (arith, least i (omega (arith, w.index)) ok, w.index))

pub matched_by_key : (sums : List ℕ) (width : ℕ) (first : ℤ) (count q key : ℕ) → ((k : ℕ) → slice_index sums k < 2 ^ 16) → count ≤ 256 → IsLeastKey sums width first count q width key
    → cond (eqb key NO_KEY) None (Some (key % 256)) ≡ matched_in sums width first count q
matched_by_key sums width first count q key small few h = elim h.some [
  | inl e ↦ ap (λ b. cond b None (Some (key % 256))) (eq-eqb key NO_KEY e) ∙ sym (matched_none sums width first count q key small few e h)
  | inr w ↦
      (let d = w.0 in
      let k = w.1.0 in
      let at = w.1.1 in
      let other : eqb key NO_KEY ≡ false = ne_eqb key NO_KEY (λ e. omega (arith, at.value, at.index, small (k * count + d))) in
      let back : key % 256 ≡ d = omega (arith, at.value, at.index) in
      ap (λ b. cond b None (Some (key % 256))) other ∙ ap (λ n. Some n) back ∙ sym (matched_some sums width first count q key d k few at h))
]

-- one entry more is found
pub found_more : {X : Type 0} (f : ℕ → X) (into : List X) (k : ℕ) (v : X) → k < length into → ((j : ℕ) → j < k → slice_get into j ≡ Some (f j)) → v ≡ f k → (j : ℕ) → j < k + 1 → slice_get (set into k v) j ≡ Some (f j)
found_more {X} f into k v h old e =
    below_more (λ j. slice_get (set into k v) j ≡ Some (f j)) k
    (λ j l. slice_get-get_or (set into k v) j v (omega (arith, length-set {A = X}))
    ∙ ap (λ y. Some y) (get_or-set_other into k j v v (omega arith)) ∙ sym (slice_get-get_or into j v (omega arith)) ∙ old j l)
    (slice_get-get_or (set into k v) k v (omega (arith, length-set {A = X})) ∙ ap (λ y. Some y) (get_or-set_same into k v v h ∙ e))
