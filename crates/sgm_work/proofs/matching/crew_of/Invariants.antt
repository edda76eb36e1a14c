use Rattle.std.proofs.Common.{◌≡◌, ◌*◌, map, All}
use Rattle.sgm_work.specs.Crews.{pass_of, room_of}
use Rattle.sgm_work.proofs.matching.crew_of.Given as goal

abbrev pub invariant-loop-pass : goal.invariant-loop-pass
invariant-loop-pass l = record {
  passes : map pass_of l.crew.items ≡ l.yielded;
  rooms : All (λ worker. room_of worker ≡ l.size.width * l.span.count) l.crew.items;
}
