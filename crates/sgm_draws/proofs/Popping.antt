-- New tickets of which the last is taken.
use Rattle.std.proofs.Common.{◌≡◌, ℕ, zero, suc, List, [], ◌∷◌, ◌++◌, ap, ◌∙◌, Option, Some, None}
use Rattle.std.specs.List.{slice_get}
use Rattle.std.specs.Option.{option_to_list}
use Rattle.sgm_draws.specs.Tickets.{AreNew}
use Rattle.sgm_draws.specs.declared.draws.Draws.{Draws}
use Rattle.sgm_draws.specs.declared.ticket.Ticket.{Ticket}

none_some : {A : Type 0} (a : A) → None ≡ Some a → ⊥
none_some a e = cc

get-longer : {A : Type 0} (xs ys : List A) (i : ℕ) (a : A) → slice_get xs i ≡ Some a → slice_get (xs ++ ys) i ≡ Some a
get-longer [] ys i a e = absurd (none_some a e)
get-longer (x ∷ xs) ys zero a e = e
get-longer (x ∷ xs) ys (suc i) a e = get-longer xs ys i a e

module _ (draws : Draws) (old new : List Ticket) where
  pub rest_new : (r : Option Ticket) → old ≡ new ++ option_to_list r → AreNew draws old → AreNew draws new
  rest_new r e h i t at = h i t (ap (λ (xs : List Ticket). slice_get xs i) e ∙ get-longer new (option_to_list r) i t at)
