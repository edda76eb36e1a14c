use Rattle.std.proofs.Common.{◌≡◌, List, Option, ℕ, Some, length, map}
use Rattle.std.specs.Prelude.{slice_get}
use Rattle.sgm_strip.specs.Cuts.{CutParts}
use Rattle.sgm_strip.specs.Scenes.{problem_of}
use Rattle.sgm_strip.specs.Strips.{AreStrips}
use Rattle.sgm_select.specs.Selection.{matches_of}
use Rattle.sgm_select.specs.Strips.{rows_of_strip}
use Rattle.sgm_select.proofs.matching.match_strips.Given as goal

-- the rows of the strips before this one are found
abbrev pub invariant-loop-parcel : goal.invariant-loop-parcel
invariant-loop-parcel l = record {
  all : length l.strips.items ≡ l.parcel-index;
  each : (cut : CutParts) → AreStrips l.scene cut l.parcels → (k : ℕ) (rows : List (Option ℕ)) → slice_get (map (λ v. v.items) l.strips.items) k ≡ Some rows
      → rows ≡ rows_of_strip (matches_of (problem_of l.scene) l.scene.span.first) cut k;
}
