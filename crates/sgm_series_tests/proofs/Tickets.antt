-- The last one of new tickets.
use Rattle.std.proofs.Common.{◌≡◌, ℕ, List, [], ◌∷◌, ◌++◌, length, refl, ap, ◌∙◌, IfSome, Option, Some, None}
use Rattle.std.specs.List.{slice_get}
use Rattle.std.specs.Option.{option_to_list}
use Rattle.sgm_draws.specs.Tickets.{AreNew, parts_of, TicketParts}
use Rattle.sgm_draws.specs.declared.draws.Draws.{Draws}
use Rattle.sgm_draws.specs.declared.ticket.Ticket.{Ticket}

get-last : {A : Type 0} (xs : List A) (a : A) → slice_get (xs ++ a ∷ []) (length xs) ≡ Some a
get-last [] a = refl
get-last (x ∷ xs) a = get-last xs a

pub last_unused : (draws : Draws) (old new : List Ticket) (r : Option Ticket) → old ≡ new ++ option_to_list r → AreNew draws old → IfSome r (λ t. (parts_of t).seen ≡ 0)
last_unused draws old new None e h = tt
last_unused draws old new (Some t) e h = ap (λ (p : TicketParts). p.seen) (h (length new) t (ap (λ (xs : List Ticket). slice_get xs (length new)) e ∙ get-last new t)).1
