-- Draws and their tickets, as contracts see them.
use Rattle.std.specs.Prelude.{◌≡◌, ℕ, ◌+◌, ◌≤◌, ◌<◌, List, [], ◌∷◌, ◌++◌, max, slice_get, Some}
use Rattle.atomic_table.specs.Seated.{TableId}
use Rattle.sgm_draws.specs.Numbers.{times}
use Rattle.sgm_draws.specs.Views.{IsLive}
use Rattle.sgm_draws.specs.declared.view.View.{View}
use Rattle.sgm_draws.specs.declared.ticket.Ticket.{Ticket}
use Rattle.sgm_draws.specs.declared.draws.Draws.{Draws}

pub record TicketParts : Type 0 where
  pub number : ℕ
  -- the numbers drawn, the one drawn last at the end
  pub drawn : List ℕ
  -- the value last seen, at first 0, and how often the ticket looked
  pub seen : ℕ
  pub looks : ℕ
  -- the numbers of tickets that it has gathered, its own among them
  pub gathered : List ℕ

abbrev pub parts_of_view : View → TicketParts
parts_of_view v = record {
  number = v.number;
  drawn = v.drawn;
  seen = v.seen;
  looks = v.looks;
  gathered = v.gathered;
}

abbrev pub parts_of : Ticket → TicketParts
parts_of ticket = parts_of_view ticket.seat.me.0

abbrev pub table_of : Draws → TableId
table_of draws = draws.table.shared.table_id

-- how many numbers are drawn, and for how many tickets
abbrev pub count_of : Draws → ℕ
count_of draws = draws.table.shared.key.count

abbrev pub tickets_of : Draws → ℕ
tickets_of draws = draws.table.shared.key.passes

-- the ticket is of these draws
pub record IsTicketOf (draws : Draws) (ticket : Ticket) : Type 0 where
  pub same_table : ticket.seat.table_id ≡ table_of draws
  pub live : IsLive (count_of draws) (tickets_of draws) ticket.seat.me.0

-- a ticket that has made no step
abbrev pub new_ticket : ℕ → TicketParts
new_ticket number = record {
  number = number;
  drawn = [];
  seen = 0;
  looks = 0;
  gathered = number ∷ [];
}

-- the tickets are new ones of these draws, with the numbers 0, 1, 2 and so on
abbrev pub AreNew : Draws → List Ticket → Type 0
AreNew draws tickets = (number : ℕ) (ticket : Ticket) → slice_get tickets number ≡ Some ticket
    → IsTicketOf draws ticket × (parts_of ticket ≡ new_ticket number)

-- it has gathered the numbers of all tickets that were made
abbrev pub HasAll : ℕ → TicketParts → Type 0
HasAll made t = (number : ℕ) → number < made → 1 ≤ times t.gathered number

-- the number was drawn
abbrev pub after_draw : TicketParts → ℕ → TicketParts
after_draw t number = record t {
  drawn = t.drawn ++ number ∷ [];
  seen = number;
  looks = t.looks + 1;
}

-- none was left: this value was seen
abbrev pub after_end : TicketParts → ℕ → TicketParts
after_end t found = record t { seen = found; looks = t.looks + 1 }

-- a ticket with what two have
abbrev pub joined : TicketParts → TicketParts → TicketParts
joined t other = record t {
  drawn = t.drawn ++ other.drawn;
  seen = max t.seen other.seen;
  looks = t.looks + other.looks;
  gathered = t.gathered ++ other.gathered;
}
