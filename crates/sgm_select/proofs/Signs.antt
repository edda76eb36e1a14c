-- Columns as signed numbers.
use Rattle.std.proofs.Common.{◌≡◌, ℕ, ◌<◌, ◌^◌, ◌∙◌, true, false, cond, Some, None, ℤ, pos, negsuc, ◌-ℤ◌, to_z, of_z, refl, sym, ap, arith, nat_abs, inl, inr}
use Rattle.std.proofs.lemmas.Bool.{cases_lt, le-leb, le-ltb}
use Rattle.std.proofs.lemmas.Int.{ints}
use Rattle.std.specs.Int.{w32, w64}
use lib.Dec.{T}
use lib.Signed.{le_z, lt_z, non_neg}
use mir.Val.{SFits}
use Rattle.sgm_base.specs.Columns.{column_within}

-- a width as it is cast
pub wide_is : (width : ℕ) → width < 2 ^ 62 → to_z w64 width ≡ pos width
wide_is width h = omega (arith, ints)

-- the column of the right row as it is computed
pub seen_is : (x d : ℕ) (first inside f g : ℤ) → x < 2 ^ 62 → d < 2 ^ 16 → SFits w32 inside → f ≡ to_z w32 (of_z w32 inside) → g ≡ pos d → inside ≡ first
    → to_z w64 (of_z w64 (to_z w64 (of_z w64 (to_z w64 x -ℤ to_z w64 (of_z w64 f))) -ℤ to_z w64 (of_z w64 g))) ≡ (pos x -ℤ first) -ℤ pos d
seen_is x d first inside f g hx hd fits ef eg e = omega (arith, ints)

-- ---- what the tests of such a number say
pub not_below_zero : (z : ℤ) → le_z (pos 0) z ≡ true → T (non_neg z)
not_below_zero (pos n) low = tt
not_below_zero (negsuc n) low = absurd (cc)

pub abs_below : (width : ℕ) (z : ℤ) → le_z (pos 0) z ≡ true → lt_z z (pos width) ≡ true → nat_abs z < width
abs_below width (pos n) low high = elim (cases_lt n width) [
  | inl h ↦ h
  | inr h ↦ absurd (let apart : true ≡ false = sym high ∙ le-ltb n width h in cc)
]
abs_below width (negsuc n) low high = absurd (cc)

pub column_abs : (width : ℕ) (z : ℤ) → le_z (pos 0) z ≡ true → lt_z z (pos width) ≡ true → Some (nat_abs z) ≡ column_within width z
column_abs width (pos n) low high = ap (λ b. cond b (Some n) None) (sym high)
column_abs width (negsuc n) low high = absurd (cc)

pub none_below : (width : ℕ) (z : ℤ) → le_z (pos 0) z ≡ false → None ≡ column_within width z
none_below width (pos n) low = absurd (let apart : true ≡ false = sym (le-leb 0 n (omega arith)) ∙ low in cc)
none_below width (negsuc n) low = refl

pub none_behind : (width : ℕ) (z : ℤ) → lt_z z (pos width) ≡ false → None ≡ column_within width z
none_behind width (pos n) high = ap (λ b. cond b (Some n) None) (sym high)
none_behind width (negsuc n) high = refl
