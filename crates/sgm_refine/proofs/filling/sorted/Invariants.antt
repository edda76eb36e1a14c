use Rattle.std.proofs.Common.{◌≡◌, ◌≤◌, take}
use Rattle.std.specs.List.{flat_map}
use Rattle.std.specs.Option.{option_to_list}
use Rattle.arrayvec.specs.ArrayVec.{array_vec_len}
use Rattle.sgm_refine.proofs.filling.sorted.Given as goal

-- the first values, where there are some
abbrev pub invariant-loop-value : goal.invariant-loop-value
invariant-loop-value l = record {
  items : l.found.items ≡ flat_map option_to_list (take l.value-index l.values);
  few : array_vec_len l.found ≤ l.value-index;
}
