use Rattle.std.proofs.Common.{◌<◌, length, map}
use Rattle.sgm_strip.specs.Scenes.{problem_of}
use Rattle.sgm_trace.specs.Rows.{pixel_of}
use Rattle.sgm_trace.proofs.Tracing.{Follows}
use Rattle.sgm_trace.proofs.steps.steps.Given as goal

abbrev pub invariant-loop-k : goal.invariant-loop-k
invariant-loop-k l =
    record {
      place : l.k < length l.places;
      index : l.index < (problem_of l.scene).count;
      follows : Follows (problem_of l.scene) (map pixel_of l.places) l.d l.k l.index l.steps.items;
    }

abbrev pub decreases-loop-k : goal.decreases-loop-k
decreases-loop-k l = l.k
