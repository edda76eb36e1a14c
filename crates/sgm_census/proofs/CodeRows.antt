-- Rows of codes in memory.
use Rattle.std.proofs.Common.{◌≡◌, ℕ, ◌+◌, ◌-◌, ◌*◌, ◌/◌, ◌^◌, ◌<◌, ◌≤◌, Bool, false, cond, List, ◌++◌, length, take, drop, get_or, slice_index, Option, Some, None, refl, sym, ap, ◌∙◌, subst, arith, replicate, inl, inr, ◌⊎◌}
use Rattle.std.proofs.lemmas.Bool.{cases_lt}
use Rattle.std.proofs.Math.Nat.{mul_comm}
use Rattle.std.proofs.lemmas.List.{get_or-drop, get_or-take, get_or_append_left, get_or-append_right, get_or-replicate, get_or_past, length-replicate}
use Rattle.std.proofs.lemmas.Nat.{pow_pos, row_fits}
use Rattle.sgm_base.specs.Values.{Values}
use Rattle.sgm_census.specs.Windows.{WindowSides, IsWindow, greatest_of}
use Rattle.sgm_census.specs.Codes.{code_at, code_by}
use Rattle.sgm_census.specs.declared.rule.CostRule.{CostRule}
use Rattle.sgm_census.specs.Packed.{AreBlank, HoldsAll, HoldsEach, bits_of, unpacked, word_place}
use Rattle.sgm_census.proofs.Centres.{code_at-outside}

unpacked-none : (n : ℕ) (words : List ℕ) (present : List Bool) (place : ℕ) → get_or present place false ≡ false → unpacked n words present place ≡ None
unpacked-none n words present place e = ap (λ b. cond b (Some (bits_of n (get_or words place 0))) None) e

pub unpacked-is : (n place k : ℕ) (words more_words : List ℕ) (present more_present : List Bool) → get_or more_words place 0 ≡ get_or words k 0 → get_or more_present place false ≡ get_or present k false
    → unpacked n more_words more_present place ≡ unpacked n words present k
unpacked-is n place k words more_words present more_present e f =
    ap (λ b. cond b (Some (bits_of n (get_or more_words place 0))) None) f ∙ ap (λ w. cond (get_or present k false) (Some (bits_of n w)) None) e

-- a list in which a part was written: the part stands behind the first n entries
pub record IsWritten {X : Type 0} (n : ℕ) (old part new : List X) (d : X) : Type 0 where
  pub before : (k : ℕ) → k < n → get_or new k d ≡ get_or old k d
  pub inside : (k : ℕ) → k < length part → get_or new (n + k) d ≡ get_or part k d
  pub after : (k : ℕ) → n + length part ≤ k → get_or new k d ≡ get_or old k d

-- the rows below y have the codes that a function gives, and none after them
pub record HoldsRows (plane : Values) (window : WindowSides) (code : ℕ → ℕ → Option (List Bool)) (words : List ℕ) (present : List Bool) (y : ℕ) : Type 0 where
  pub within : (k : ℕ) → slice_index words k < 2 ^ greatest_of window
  pub done : (x r : ℕ) → x < plane.width → r < plane.height → r < y → unpacked (greatest_of window) words present (word_place plane.width x r) ≡ code x r
  pub left : (k : ℕ) → y * plane.width ≤ k → get_or present k false ≡ false

rows_apart : (above q width z : ℕ) → (above + q) * width + z ≡ above * width + (q * width + z)
rows_apart above q width z = omega arith

-- before the first row
pub rows_none : (plane : Values) (window : WindowSides) (code : ℕ → ℕ → Option (List Bool)) (count : ℕ) (words : List ℕ) (present : List Bool) → AreBlank (greatest_of window) count words present → HoldsRows plane window code words present 0
rows_none plane window code count words present b =
    record { within = b.within; done = λ x r hx hr l. absurd (omega arith); left = λ k l. b.none k }

-- a row in which no window lies in the plane
pub row_outside : (plane : Values) (window : WindowSides) (y : ℕ) (words : List ℕ) (present : List Bool) → IsWindow window.width window.height → (plane.width ≤ 2 * (window.width / 2)) ⊎ ((y < window.height / 2) ⊎ (plane.height ≤ y + window.height / 2))
    → AreBlank (greatest_of window) plane.width words present → HoldsEach (greatest_of window) plane.width (λ x. code_at plane window x y) words present
row_outside plane window y words present w out b =
    record {
      each = λ x h. unpacked-none (greatest_of window) words present (plane.width - 1 - x) (b.none (plane.width - 1 - x))
          ∙ sym (code_at-outside plane window x y w (elim out [
            | inl narrow ↦ elim (cases_lt x (window.width / 2)) [ inl l ↦ inl l | inr l ↦ inr (inl (omega arith)) ]
            | inr beyond ↦ inr (inr beyond)
          ]));
      within = b.within;
    }

-- a row into which the codes of the windows in the plane were written: across columns on each side
-- have none
pub row_inside : (plane : Values) (window : WindowSides) (y across : ℕ) (words part_words new_words : List ℕ) (present part_present new_present : List Bool)
    → IsWindow window.width window.height → across ≡ window.width / 2 → length part_words + 2 * across ≡ plane.width → length part_present ≡ length part_words
    → IsWritten across words part_words new_words 0 → IsWritten across present part_present new_present false
    → AreBlank (greatest_of window) plane.width words present
    → ((k : ℕ) → slice_index part_words k < 2 ^ greatest_of window)
    → ((x : ℕ) → across ≤ x → x + across < plane.width → unpacked (greatest_of window) part_words part_present (length part_words - 1 - (x - across)) ≡ code_at plane window x y)
    → HoldsEach (greatest_of window) plane.width (λ x. code_at plane window x y) new_words new_present
row_inside plane window y across words part_words new_words present part_present new_present w ea long same ww wp b small codes =
    let n = greatest_of window in
    let width = plane.width in
    record {
      each = λ x h. elim (cases_lt x across) [
        | inl s ↦ unpacked-none n new_words new_present (width - 1 - x) (wp.after _ (omega arith) ∙ b.none _) ∙ sym (code_at-outside plane window x y w (inl (omega arith)))
        | inr s ↦ elim (cases_lt (x + across) width) [
          | inr t ↦ unpacked-none n new_words new_present (width - 1 - x) (wp.before _ (omega arith) ∙ b.none _) ∙ sym (code_at-outside plane window x y w (inr (inl (omega arith))))
          | inl t ↦
              (let i = length part_words - 1 - (x - across) in
              let place : across + i ≡ width - 1 - x = omega arith in
              unpacked-is n (width - 1 - x) i part_words new_words part_present new_present
              (ap (λ k. get_or new_words k 0) (sym place) ∙ ww.inside i (omega arith)) (ap (λ k. get_or new_present k false) (sym place) ∙ wp.inside i (omega arith))
              ∙ codes x s t)
        ]
      ];
      within = λ k. elim (cases_lt k across) [
        | inl l ↦ subst (λ v. v < 2 ^ n) (sym (ww.before k l)) (b.within k)
        | inr l ↦ elim (cases_lt k (across + length part_words)) [
          | inr j ↦ subst (λ v. v < 2 ^ n) (sym (ww.after k j)) (b.within k)
          | inl j ↦ (let at : across + (k - across) ≡ k = omega arith in subst (λ i. slice_index new_words i < 2 ^ n) at (subst (λ v. v < 2 ^ n) (sym (ww.inside (k - across) (omega arith))) (small (k - across))))
        ]
      ];
    }

pub holds_same : (n width rows m wide high : ℕ) (code : ℕ → ℕ → Option (List Bool)) (words : List ℕ) (present : List Bool) → n ≡ m → width ≡ wide → rows ≡ high → HoldsAll n width rows code words present → HoldsAll m wide high code words present
holds_same n width rows m wide high code words present en ew er h =
    subst (λ k. HoldsAll k wide high code words present) en (subst (λ k. HoldsAll n k high code words present) ew (subst (λ k. HoldsAll n width k code words present) er h))

-- what is left of some rows
pub rest_length : (above below rows width total part : ℕ) → above + below ≡ rows → total ≡ rows * width → part + above * width ≡ total → part ≡ below * width
rest_length above below rows width total part er et ep =
    let all : (above + below) * width ≡ rows * width = ap (λ k. k * width) er in
    omega (arith, all)

-- the first rows of some without codes have none, and neither have the others
pub blank_front : (n count m l k : ℕ) (words part : List ℕ) (present part_present : List Bool) → n ≡ l → m ≡ k → part ≡ take m words → part_present ≡ take m present → length part ≡ m → length part_present ≡ m → AreBlank n count words present → AreBlank l k part part_present
blank_front n count m l k words part present part_present en em ew ep lw lp b =
    record {
      words_full = lw ∙ em;
      present_full = lp ∙ em;
      within = λ i. subst (λ v. slice_index part i < 2 ^ v) en (elim (cases_lt i m) [
        | inl h ↦ subst (λ v. v < 2 ^ n) (sym (ap (λ us. get_or us i 0) ew ∙ get_or-take m words i 0 h)) (b.within i)
        | inr h ↦ subst (λ v. v < 2 ^ n) (sym (get_or_past part i 0 (omega arith))) (pow_pos n)
      ]);
      none = λ i. elim (cases_lt i m) [
        | inl h ↦ ap (λ us. get_or us i false) ep ∙ get_or-take m present i false h ∙ b.none i
        | inr h ↦ get_or_past part_present i false (omega arith)
      ];
    }

pub blank_back : (n count m l k : ℕ) (words part : List ℕ) (present part_present : List Bool) → n ≡ l → part ≡ drop m words → part_present ≡ drop m present → length part ≡ k → length part_present ≡ k → AreBlank n count words present → AreBlank l k part part_present
blank_back n count m l k words part present part_present en ew ep lw lp b =
    record {
      words_full = lw;
      present_full = lp;
      within = λ i. subst (λ v. slice_index part i < 2 ^ v) en (subst (λ v. v < 2 ^ n) (sym (ap (λ us. get_or us i 0) ew ∙ get_or-drop m words i 0)) (b.within (m + i)));
      none = λ i. ap (λ us. get_or us i false) ep ∙ get_or-drop m present i false ∙ b.none (m + i);
    }

-- the rows of both halves
pub both_hold : (n width above below rows : ℕ) (upper lower code : ℕ → ℕ → Option (List Bool)) (words : List ℕ) (more_words : List ℕ) (present : List Bool) (more_present : List Bool)
    → above + below ≡ rows → length words ≡ above * width → length present ≡ above * width
    → ((x r : ℕ) → upper x r ≡ code x r) → ((x r : ℕ) → lower x r ≡ code x (above + r))
    → HoldsAll n width above upper words present → HoldsAll n width below lower more_words more_present
    → HoldsAll n width rows code (words ++ more_words) (present ++ more_present)
both_hold n width above below rows upper lower code words more_words present more_present er lw lp eu el u l =
    let from = above * width in
    record {
      each = λ x r hx hr. elim (cases_lt r above) [
        | inl h ↦
            (let place : word_place width x r < from = omega (arith, row_fits r width above width h (omega arith)) in
            unpacked-is n (word_place width x r) (word_place width x r) words (words ++ more_words) present (present ++ more_present)
            (get_or_append_left words more_words 0 _ (omega arith)) (get_or_append_left present more_present false _ (omega arith))
            ∙ u.each x r hx h ∙ eu x r)
        | inr h ↦
            (let q = r - above in
            let here : above + q ≡ r = omega arith in
            let place : word_place width x r ≡ from + word_place width x q = ap (λ k. k * width + (width - 1 - x)) (sym here) ∙ rows_apart above q width (width - 1 - x) in
            unpacked-is n (word_place width x r) (word_place width x q) more_words (words ++ more_words) more_present (present ++ more_present)
            (ap (λ k. get_or (words ++ more_words) k 0) place ∙ get_or-append_right words more_words from (from + word_place width x q) 0 lw (omega arith) ∙ ap (λ k. get_or more_words k 0) (omega arith))
            (ap (λ k. get_or (present ++ more_present) k false) place ∙ get_or-append_right present more_present from (from + word_place width x q) false lp (omega arith) ∙ ap (λ k. get_or more_present k false) (omega arith))
            ∙ l.each x q hx (omega arith) ∙ el x q ∙ ap (code x) here)
      ];
      within = λ k. elim (cases_lt k from) [
        | inl h ↦ subst (λ v. v < 2 ^ n) (sym (get_or_append_left words more_words 0 k (omega arith))) (u.within k)
        | inr h ↦ subst (λ v. v < 2 ^ n) (sym (get_or-append_right words more_words from k 0 lw (omega arith))) (l.within (k - from))
      ];
    }

-- ---- lists without codes

pub zeros_small : (n m k : ℕ) (xs : List ℕ) → xs ≡ replicate m 0 → get_or xs k 0 < 2 ^ n
zeros_small n m k xs e =
    let zero_at : get_or xs k 0 ≡ 0 = ap (λ us. get_or us k 0) e ∙ elim (cases_lt k m) [
      | inl h ↦ get_or-replicate m k 0 0 h
      | inr h ↦ get_or_past {X = ℕ} (replicate m 0) k 0 (omega (arith, length-replicate {A = ℕ} m 0))
    ] in
    omega (arith, zero_at, pow_pos n)

pub marks_unset : (m k : ℕ) (xs : List Bool) → xs ≡ replicate m false → get_or xs k false ≡ false
marks_unset m k xs e = ap (λ us. get_or us k false) e ∙ elim (cases_lt k m) [
  | inl h ↦ get_or-replicate m k false false h
  | inr h ↦ get_or_past {X = Bool} (replicate m false) k false (omega (arith, length-replicate {A = Bool} m false))
]

-- what splitting a list in three and writing the part in the middle gives
pub written : {X : Type 0} (n : ℕ) (old front rest part after : List X) (d : X) → front ≡ take n old → length front ≡ n → rest ≡ drop n old → after ≡ drop (length part) rest → IsWritten n old part (front ++ (part ++ after)) d
written n old front rest part after d ef lf er ea =
    record {
      before = λ k h. get_or_append_left front (part ++ after) d k (omega arith) ∙ ap (λ us. get_or us k d) ef ∙ get_or-take n old k d h;
      inside = λ k h. get_or-append_right front (part ++ after) n (n + k) d lf (omega arith) ∙ ap (λ j. get_or (part ++ after) j d) (omega arith) ∙ get_or_append_left part after d k h;
      after = λ k h.
          let at : n + (length part + (k - n - length part)) ≡ k = omega arith in
          get_or-append_right front (part ++ after) n k d lf (omega arith)
          ∙ get_or-append_right part after (length part) (k - n) d refl (omega arith)
          ∙ ap (λ us. get_or us (k - n - length part) d) (ea ∙ ap (drop (length part)) er)
          ∙ get_or-drop (length part) (drop n old) (k - n - length part) d
          ∙ get_or-drop n old (length part + (k - n - length part)) d
          ∙ ap (λ j. get_or old j d) at;
    }

-- new words and marks have no codes
pub new_blank : (n width height rows wide : ℕ) (words : List ℕ) (present : List Bool) → words ≡ replicate (width * height) 0 → present ≡ replicate (width * height) false → width ≡ wide → height ≡ rows → AreBlank n (rows * wide) words present
new_blank n width height rows wide words present ew ep sw sh =
    let size : width * height ≡ rows * wide = ap (λ k. k * height) sw ∙ ap (λ k. wide * k) sh ∙ mul_comm wide rows in
    record {
      words_full = ap length ew ∙ length-replicate (width * height) 0 ∙ size;
      present_full = ap length ep ∙ length-replicate (width * height) false ∙ size;
      within = λ k. zeros_small n (width * height) k words ew;
      none = λ k. marks_unset (width * height) k present ep;
    }

-- the codes of all rows, as they stand in a plane of codes
pub holds_whole : (plane : Values) (window other : WindowSides) (rule how : CostRule) (read : Values) (first rows : ℕ) (words words' : List ℕ) (present present' : List Bool) → read ≡ plane → other ≡ window → how ≡ rule → first ≡ 0 → rows ≡ plane.height → words' ≡ words → present' ≡ present
    → HoldsAll (greatest_of other) read.width rows (λ x r. code_by how read other x (first + r)) words present → HoldsAll (greatest_of window) plane.width plane.height (λ x r. code_by rule plane window x (0 + r)) words' present'
holds_whole plane window other rule how read first rows words words' present present' er ew eh ef es e1 e2 h =
    subst (λ us. HoldsAll (greatest_of window) plane.width plane.height (λ x r. code_by rule plane window x (0 + r)) us present') (sym e1)
    (subst (λ us. HoldsAll (greatest_of window) plane.width plane.height (λ x r. code_by rule plane window x (0 + r)) words us) (sym e2)
    (subst (λ k. HoldsAll (greatest_of window) plane.width k (λ x r. code_by rule plane window x (0 + r)) words present) es
    (subst (λ k. HoldsAll (greatest_of window) plane.width rows (λ x r. code_by rule plane window x (k + r)) words present) ef
    (subst (λ (m : CostRule). HoldsAll (greatest_of window) plane.width rows (λ x r. code_by m plane window x (first + r)) words present) eh
    (subst (λ (w : WindowSides). HoldsAll (greatest_of w) plane.width rows (λ x r. code_by how plane w x (first + r)) words present) ew
    (subst (λ (p : Values). HoldsAll (greatest_of other) p.width rows (λ x r. code_by how p other x (first + r)) words present) er h))))))
