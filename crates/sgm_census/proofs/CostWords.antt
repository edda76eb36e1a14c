-- Costs of codes that stand in words.
use Rattle.std.proofs.Common.{◌≡◌, ℕ, ◌+◌, ◌-◌, ◌^◌, ◌<◌, Bool, true, false, cond, leb, ltb, ◌&&◌, ◌++◌, List, length, take, drop, inl, inr, get_or, Option, Some, None, option_and_then, sym, ap, ◌∙◌, arith, bit_xor, count_ones}
use Rattle.std.proofs.lemmas.Bool.{cases_lt, lt-leb, le-leb, lt-ltb, le-ltb}
use Rattle.std.proofs.lemmas.List.{get_or_append_left, get_or-append_right}
use Rattle.std.proofs.lemmas.Nat.{pow_pos}
use Rattle.sgm_census.specs.Costs.{cost_between}
use Rattle.sgm_census.specs.Packed.{bits_of, unpacked, HoldsSmall}
use Rattle.sgm_census.proofs.Bits.{differing-bits_of}
use Rattle.sgm_census.proofs.CodeLists.{part_at, part_small}
use Rattle.sgm_census.proofs.InWindow.{allowed, refused}

-- the count of bits that differ, masked where there is no code
pub cost-masked : (n missing code word cost value : ℕ) (there : Bool) → code < 2 ^ n → word < 2 ^ n → cost ≡ count_ones (bit_xor code word) → value ≡ cond there cost missing
    → value ≡ cost_between missing (Some (bits_of n code)) (cond there (Some (bits_of n word)) None)
cost-masked n missing code word cost value true h k e f = f ∙ e ∙ sym (differing-bits_of n code word h k)
cost-masked n missing code word cost value false h k e f = f

-- a part of a row of codes
pub unpacked-part : (n : ℕ) (words : List ℕ) (present : List Bool) (from long k : ℕ) → k < long → unpacked n (take long (drop from words)) (take long (drop from present)) k ≡ unpacked n words present (from + k)
unpacked-part n words present from long k h =
    ap (λ b. cond b (Some (bits_of n (get_or (take long (drop from words)) k 0))) None) (part_at present from long k false h)
    ∙ ap (λ w. cond (get_or present (from + k) false) (Some (bits_of n w)) None) (part_at words from long k 0 h)

pub small-part : (n : ℕ) (words : List ℕ) (from long : ℕ) → HoldsSmall n words → HoldsSmall n (take long (drop from words))
small-part n words from long h = record { within = λ k. part_small (2 ^ n) words from long k (pow_pos n) h.within }

-- the costs of a pixel in three parts: the indices before those that give a column, these, and those after
pub record InParts (n missing skipped long start : ℕ) (code : List Bool) (words : List ℕ) (present : List Bool) (before inside after : List ℕ) : Type 0 where
  pub before_length : length before ≡ skipped
  pub inside_length : length inside ≡ long
  pub before_each : (k : ℕ) → k < length before → get_or before k 0 ≡ missing
  pub inside_each : (k : ℕ) → k < length inside → get_or inside k 0 ≡ cost_between missing (Some code) (unpacked n words present (start + k))
  pub after_each : (k : ℕ) → k < length after → get_or after k 0 ≡ missing

pub in_parts : (n missing skipped long start d : ℕ) (code : List Bool) (words : List ℕ) (present : List Bool) (before inside after : List ℕ) (column : Option ℕ)
    → InParts n missing skipped long start code words present before inside after → d < skipped + long + length after
    → column ≡ cond (leb skipped d && ltb d (skipped + long)) (Some (start + (d - skipped))) None
    → get_or (before ++ (inside ++ after)) d 0 ≡ cost_between missing (Some code) (option_and_then (unpacked n words present) column)
in_parts n missing skipped long start d code words present before inside after column p h e = elim (cases_lt d skipped) [
  | inl l ↦
      (let none : column ≡ None = e ∙ refused (leb skipped d) (ltb d (skipped + long)) (Some (start + (d - skipped))) None (inl (lt-leb skipped d l)) in
      let within : d < length before = omega (arith, p.before_length) in
      get_or_append_left before (inside ++ after) 0 d within ∙ p.before_each d within
      ∙ sym (ap (λ o. cost_between missing (Some code) (option_and_then (unpacked n words present) o)) none))
  | inr l ↦ elim (cases_lt d (skipped + long)) [
    | inl k ↦
        (let some : column ≡ Some (start + (d - skipped)) = e ∙ allowed (leb skipped d) (ltb d (skipped + long)) (Some (start + (d - skipped))) None (le-leb skipped d l) (lt-ltb d (skipped + long) k) in
        let within : d - skipped < length inside = omega (arith, p.inside_length) in
        get_or-append_right before (inside ++ after) skipped d 0 p.before_length l ∙ get_or_append_left inside after 0 (d - skipped) within ∙ p.inside_each (d - skipped) within
        ∙ sym (ap (λ o. cost_between missing (Some code) (option_and_then (unpacked n words present) o)) some))
    | inr k ↦
        (let none : column ≡ None = e ∙ refused (leb skipped d) (ltb d (skipped + long)) (Some (start + (d - skipped))) None (inr (le-ltb d (skipped + long) k)) in
        get_or-append_right before (inside ++ after) skipped d 0 p.before_length l
        ∙ get_or-append_right inside after long (d - skipped) 0 p.inside_length (omega arith)
        ∙ p.after_each (d - skipped - long) (omega arith)
        ∙ sym (ap (λ o. cost_between missing (Some code) (option_and_then (unpacked n words present) o)) none))
  ]
]
