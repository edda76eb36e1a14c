use Rattle.std.proofs.Common.{◌≡◌, ◌++◌, length, take}
use Rattle.std.specs.List.{zip}
use Rattle.sgm_text.specs.Texts.{StartsAs}
use Rattle.sgm_change.specs.Texts.{after_spaces}
use Rattle.sgm_change.proofs.difference.append_rest.Given as goal

abbrev pub invariant-loop-before : goal.invariant-loop-before
invariant-loop-before l = record {
  so_far : l.into.items ≡ l.initial.into.items ++ after_spaces (zip (take (length l.yielded) l.earlier) (take (length l.yielded) l.later));
  starts : StartsAs l.initial.into.items l.into.items;
}
