use Rattle.std.proofs.Common.{◌≡◌, ◌++◌, flat_map, take}
use Rattle.sgm_text.specs.Texts.{StartsAs}
use Rattle.sgm_trace.specs.Texts.{step_text}
use Rattle.sgm_trace.proofs.write.append_steps.Given as goal

abbrev pub invariant-loop-step : goal.invariant-loop-step
invariant-loop-step l =
    record {
      so_far : l.into.items ≡ l.initial.into.items ++ flat_map step_text (take l.step-index l.steps);
      starts : StartsAs l.initial.into.items l.into.items;
    }
