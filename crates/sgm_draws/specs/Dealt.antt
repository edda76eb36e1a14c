-- New tickets. No public clause speaks of this.
use Rattle.std.specs.Prelude.{◌≡◌, ℕ, List, [], ◌∷◌, slice_get, Some}
use Rattle.atomic_table.specs.Seated.{TableId}
use Rattle.sgm_draws.specs.Views.{new_view}
use Rattle.sgm_draws.specs.declared.rule.Plan.{Plan}
use Rattle.sgm_draws.specs.declared.ticket.Ticket.{Ticket}

-- the new ticket of this number
pub record IsDealt (table : TableId) (plan : Plan) (number : ℕ) (ticket : Ticket) : Type 0 where
  pub same_table : ticket.seat.table_id ≡ table
  pub me : ticket.seat.me ≡ (new_view plan.count plan.passes number (number ∷ []), [])

-- the new tickets 0, 1, 2 and so on
abbrev pub AreDealt : TableId → Plan → List Ticket → Type 0
AreDealt table plan tickets = (number : ℕ) (ticket : Ticket)
    → slice_get tickets number ≡ Some ticket → IsDealt table plan number ticket
