use Rattle.std.proofs.Common.{◌≡◌, ◌-◌, ◌≤◌, [], vec_len, vec_capacity}
use Rattle.sgm_draws.specs.Views.{dealer}
use Rattle.sgm_draws.specs.Dealt.{AreDealt}
use Rattle.sgm_draws.proofs.start.deal.Given as goal

abbrev pub invariant-loop-number : goal.invariant-loop-number
invariant-loop-number l = record {
  table : l.seat.table_id ≡ l.initial.seat.table_id;
  view : l.seat.me ≡ (dealer l.shown.key.count l.shown.key.passes l.number (l.passes - l.number), []);
  count : vec_len l.made ≡ l.number;
  room : l.passes ≤ vec_capacity l.made;
  made : AreDealt l.shown.table_id l.shown.key l.made.items;
}
