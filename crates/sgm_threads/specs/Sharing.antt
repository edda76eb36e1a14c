-- Pieces that are made side by side.
use Rattle.std.specs.Prelude.{◌≡◌, ◌<◌, ℕ, List, length, Option, Some, IfSome, slice_index_or, Vec}
use Rattle.std.specs.Global.{Global}
use Rattle.std.specs.Fn.{FnReturns}
use denote.Param.Members.{Shared}

module _ {F X : Type 0} (g : Shared F (ℕ × Unit {0}) (Option X)) (f : F) where
  -- x is what a call of f with the number k may give
  abbrev pub MayGive : ℕ → X → Type 0
  MayGive k x = FnReturns g f (k, tt) (Some x)

  -- what is in each place is what f may give for its number
  abbrev pub HoldOwn : List (Option X) → Type 0
  HoldOwn places = (k : ℕ) (d : Option X) → k < length places
      → IfSome (slice_index_or places k d) (MayGive k)

  -- what one thread made has a place for each of so many numbers
  pub record AreOwn (count : ℕ) (pieces : Vec (Option X) Global) : Type 0 where
    pub all : length pieces.items ≡ count
    pub own : HoldOwn pieces.items

  -- each of xs is what f may give for its number
  abbrev pub AreMade : List X → Type 0
  AreMade xs = (k : ℕ) (d : X) → k < length xs → MayGive k (slice_index_or xs k d)
