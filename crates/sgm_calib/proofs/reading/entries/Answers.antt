use Rattle.serde_json.specs.View.{view}
use Rattle.sgm_calib.proofs.Kept.{grid_has_camera, given-map, inside-map, few-map}
use Rattle.sgm_calib.proofs.reading.entries.Goals as goal

pub invariant_of-result : goal.invariant_of-result
invariant_of-result c = record {
  left_kept = c.in_ok-left.ensures.left_kept;
  right_kept = c.in_ok-left.ensures.right_kept;
  camera_kept = c.in_ok-camera.ensures.kept;
  pose_kept = c.in_ok-pose.ensures.kept;
  grid_kept = c.in_ok-grid.ensures.kept;
  gridding_kept = c.gridding.ensures.kept;
  grid_has_camera = grid_has_camera (view c.args.top.now) c.in_ok-grid.grid c.in_ok-camera.camera c.in_ok-grid.ensures.value c.in_ok-camera.ensures.asked;
  regions_have_grid = given-map _ c.in_ok-grid.grid c.in_ok-regions.regions c.in_ok-regions.ensures.given;
  regions_inside = inside-map _ c.in_ok-grid.grid c.in_ok-regions.regions c.in_ok-regions.ensures.kept;
  regions_few = few-map _ c.in_ok-grid.grid c.in_ok-regions.regions c.in_ok-regions.ensures.given
      c.in_ok-regions.ensures.kept;
}
