-- Filling up to a length at which it stops.
use Rattle.std.proofs.Common.{◌≡◌, ℕ, ◌+◌, ◌<◌, Bool, true, false, refl, sym, ap, ◌∙◌, arith, inl, inr}
use Rattle.sgm_io.specs.Piece.{FillsUpTo}

-- the same lengths
pub FillsUpTo-same : (p q : ℕ → Bool) (at most count : ℕ) → ((length : ℕ) → p length ≡ q length) → FillsUpTo p at most count → FillsUpTo q at most count
FillsUpTo-same p q at most count same f = record {
  within = f.within;
  runs = λ k lt. sym (same (at + k)) ∙ f.runs k lt;
  ends = elim f.ends [ inl whole ↦ inl whole | inr stopped ↦ inr (sym (same (at + count)) ∙ stopped) ];
}

-- with nothing to stop it all bytes go in
pub FillsUpTo-all : (at most : ℕ) → FillsUpTo (λ length. false) at most most
FillsUpTo-all at most = record { within = omega arith; runs = λ k lt. refl; ends = inl refl }

-- at least one byte of some goes in where it doesn't stop at once
pub FillsUpTo-some : (stops : ℕ → Bool) (at most count : ℕ) → FillsUpTo stops at most count → stops at ≡ false → 0 < most → 0 < count
FillsUpTo-some stops at most count f goes some = elim f.ends [
  | inl whole ↦ omega arith
  | inr stopped ↦ positive count (λ none. differ (stops at) goes (ap stops (omega arith) ∙ stopped))
] where
  positive : (n : ℕ) → (n ≡ 0 → ⊥) → 0 < n
  positive n above = omega arith

  differ : (b : Bool) → b ≡ false → b ≡ true → ⊥
  differ b is other = cc
