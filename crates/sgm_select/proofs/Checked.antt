-- The index that stands the check is the pixel's own.
use Rattle.std.proofs.Common.{◌≡◌, ℕ, true, false, cond, Option, Some, None, option_and_then, refl, ap}
use Rattle.std.specs.Prelude.{IfSome, option_map}
use Rattle.sgm_select.specs.Selection.{agree, checked}

checked_own : (b : ℕ) (left right m : Option ℕ) → IfSome (checked b left right m) (λ v. v ≡ b)
checked_own b None right m = tt
checked_own b (Some l) None m = tt
checked_own b (Some l) (Some r) None = tt
checked_own b (Some l) (Some r) (Some m) = elim (agree b m) as (λ t. IfSome (cond t (Some b) None) (λ v. v ≡ b)) [ true ↦ refl | false ↦ tt ]

and_then_if : {X : Type 0} (P : ℕ → Type 0) (f : X → Option ℕ) (o : Option X) → ((x : X) → IfSome (f x) P) → IfSome (option_and_then f o) P
and_then_if P f None h = tt
and_then_if P f (Some x) h = h x

pub own : (b : ℕ) (left : Option ℕ) (right matches : ℕ → Option ℕ) (column : Option ℕ) → IfSome (option_and_then (λ q. checked b left (right q) (matches q)) column) (λ v. v ≡ b)
own b left right matches column = and_then_if (λ v. v ≡ b) (λ q. checked b left (right q) (matches q)) column (λ q. checked_own b left (right q) (matches q))

-- so what is made of it is made of the pixel's own
pub made_of_own : (P : ℕ → Type 0) (f : ℕ → ℕ) (o : Option ℕ) (b : ℕ) → IfSome o (λ v. v ≡ b) → P (f b) → IfSome (option_map f o) P
made_of_own P f None b h p = tt
made_of_own P f (Some v) b h p = rw h p

pub made_of_own-agree : (f g : ℕ → ℕ) (o : Option ℕ) (b : ℕ) → IfSome o (λ v. v ≡ b) → f b ≡ g b → option_map f o ≡ option_map g o
made_of_own-agree f g None b h e = refl
made_of_own-agree f g (Some v) b h e = rw h (ap (λ n. Some n) e)
