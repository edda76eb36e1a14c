-- Counts that rise by one.
use Rattle.std.proofs.Common.{◌≡◌, ◌∙◌, ℕ, ◌+◌, ◌-◌, ◌^◌, List, [], ◌∷◌, ◌++◌, Bool, true, false, cond, refl, sym, ap, arith, min, inl, inr, String, string_bytes, subst}
use Rattle.std.specs.Str.{bytes_eq}
use Rattle.std.specs.declared.alloc.Global.{Global}
use Rattle.std.proofs.Math.Path.{fun_ext}
use Rattle.std.proofs.lemmas.Bool.{cases_lt}
use Rattle.std.proofs.lemmas.List.Sums.{sum_by-append}
use Rattle.sgm_io.specs.Counts.{Counts, NoneFell, Rose, RoseAt, one_more}
use Rattle.sgm_io.specs.Names.{times_in}
use Rattle.sgm_io.specs.Writing.{bytes_eq-same}

pub one_more-at : (name : List ℕ) (counts : Counts) (other : List ℕ) → one_more name counts other ≡ counts other + cond (bytes_eq other name) 1 0
unfolding one_more
one_more-at name counts other = elim (bytes_eq other name) as (λ b. cond b (counts other + 1) (counts other) ≡ counts other + cond b 1 0) [ true ↦ refl | false ↦ omega arith ]

pub one_more-same : (name : List ℕ) (counts : Counts) → one_more name counts name ≡ counts name + 1
one_more-same name counts = one_more-at name counts name ∙ ap (λ (b : Bool). counts name + cond b 1 0) (bytes_eq-same name)

-- one more is a rise
pub RoseAt-one_more : (name : List ℕ) (counts : Counts) → RoseAt name counts (one_more name counts)
RoseAt-one_more name counts = record {
  none_fell = record { at = λ other. omega (arith, one_more-at name counts other) };
  rose = inl (omega (arith, one_more-same name counts));
}

pub rose_at : (name : List ℕ) (before now : Counts) → now ≡ one_more name before → RoseAt name before now
rose_at name before now is = let P : Counts → Type 0 = λ counts. RoseAt name before counts in subst P (sym is) (RoseAt-one_more name before)

pub none_fell : (before now : Counts) → now ≡ before → NoneFell before now
none_fell before now is = record { at = λ name. omega (arith, ap (λ (counts : Counts). counts name) is) }

-- a name more in the list
pub times_in-push : (names : List (String Global)) (s : String Global) (name : List ℕ) → string_bytes s ≡ name → times_in (names ++ s ∷ []) ≡ one_more name (times_in names)
times_in-push names s name is = fun_ext (λ other.
    let more : times_in (names ++ s ∷ []) other ≡ times_in names other + cond (bytes_eq other (string_bytes s)) 1 0 =
    omega (arith, sum_by-append (λ x. cond (bytes_eq other (string_bytes x)) 1 0) names (s ∷ [])) in
    more
    ∙ ap (λ (n : List ℕ). times_in names other + cond (bytes_eq other n) 1 0) is
    ∙ sym (one_more-at name (times_in names) other))

-- a count that stops at its last value
pub rises : (count : ℕ) → Rose count (min (count + 1) (2 ^ 64 - 1))
rises count = elim (cases_lt count (2 ^ 64 - 1)) as (λ e. Rose count (min (count + 1) (2 ^ 64 - 1))) [ inl below ↦ inl (omega arith) | inr above ↦ inr (omega arith) ]
