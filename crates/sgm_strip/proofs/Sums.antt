-- The sums of a parcel: how great they are, and one direction more.
use Rattle.std.proofs.Common.{◌≡◌, ℕ, ◌+◌, ◌-◌, ◌<◌, ◌≤◌, Bool, false, List, length, slice_index, sym, arith}
use Rattle.sgm_base.specs.declared.limits.TheConstants.{MAX_PATH_VALUE, MAX_SUM}
use Rattle.sgm_census.specs.Matching.{KeepsLimits}
use Rattle.sgm_census.proofs.Limits.{matching-within, within-keeps}
use Rattle.sgm_energy.specs.declared.dir.Dir.{Dir}
use Rattle.sgm_energy.specs.Rays.{pixel_at, Problem}
use Rattle.sgm_energy.specs.Energies.{path_value, sum_done}
use Rattle.sgm_energy.proofs.SumLemmas.{done_more}
use Rattle.sgm_strip.specs.Scenes.{SceneParts, IsScene, problem_of}
use Rattle.sgm_strip.specs.Volumes.{HoldsRows}
use Rattle.sgm_strip.specs.Parcels.{is_done, with_done}
use Rattle.sgm_strip.proofs.Rows.{rows_low, rows_same}
use Rattle.sgm_strip.proofs.Sets.{done_here, done_else}

-- while a direction isn't done there is room for its path value
pub room_left : (scene : SceneParts) (done : List Bool) (dir : Dir) (top rows : ℕ) (sums : List ℕ) → IsScene scene → is_done done dir ≡ false → top + rows ≤ scene.left.height
    → HoldsRows (problem_of scene) top rows (sum_done (is_done done) (problem_of scene)) sums → (k : ℕ) → k < length sums → slice_index sums k + MAX_PATH_VALUE ≤ MAX_SUM
room_left scene done dir top rows sums k left inside h j l =
    let g = problem_of scene in
    let limits : KeepsLimits g = within-keeps g (matching-within scene.left scene.right scene.span scene.penalties scene.guide k.left_kept k.ordered k.limited) in
    let low : slice_index sums j ≤ MAX_SUM - MAX_PATH_VALUE =
    rows_low g top rows (MAX_SUM - MAX_PATH_VALUE) (sum_done (is_done done) g) sums (omega (arith, k.left_kept.width_in_range)) (omega (arith, k.count_in_range)) h
    (λ r x d hr hx hd. omega (arith, limits.room (is_done done) dir (pixel_at x (top + r)) d (hx, omega arith) hd left)) j l in
    omega (arith, low)

-- the sums and the path values of one direction more are the sums with that direction
pub with_more : (g : Problem) (done : List Bool) (dir : Dir) (top rows : ℕ) (sums : List ℕ) → length done ≡ 8 → is_done done dir ≡ false
    → HoldsRows g top rows (λ p d. sum_done (is_done done) g p d + path_value g dir p d) sums → HoldsRows g top rows (sum_done (is_done (with_done done dir)) g) sums
with_more g done dir top rows sums e left h =
    rows_same g top rows (λ p d. sum_done (is_done done) g p d + path_value g dir p d) (sum_done (is_done (with_done done dir)) g) sums
    (λ p d. sym (done_more (is_done done) (is_done (with_done done dir)) dir g p d left (done_here done dir e) (λ other ne. done_else done dir other ne))) h
