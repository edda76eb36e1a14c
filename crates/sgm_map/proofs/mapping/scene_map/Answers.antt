use Rattle.std.proofs.Common.{ap, ◌∙◌}
use Rattle.sgm_base.specs.Values.{Values}
use Rattle.sgm_strip.specs.Scenes.{problem_of}
use Rattle.sgm_threads.proofs.Pieces.{if_ok}
use Rattle.sgm_map.proofs.Finals.{final_of, made_height, made_of, made_width}
use Rattle.sgm_map.proofs.mapping.scene_map.Goals as goal

pub refined_map-requires-clause-width : goal.refined_map-requires-clause-width
refined_map-requires-clause-width g c =
    let planes = c.args.planes.now in
    let made = made_of planes.scene planes.left planes.right c.in_ok-map.map c.in_ok-finer.finer c.args.fine c.in_ok-map.ensures c.in_ok-finer.ensures in
    ap (λ (v : Values). v.width) made ∙ made_width (problem_of planes.scene) planes.left planes.right planes.scene.span c.args.fine

pub refined_map-requires-clause-height : goal.refined_map-requires-clause-height
refined_map-requires-clause-height g c =
    let planes = c.args.planes.now in
    let made = made_of planes.scene planes.left planes.right c.in_ok-map.map c.in_ok-finer.finer c.args.fine c.in_ok-map.ensures c.in_ok-finer.ensures in
    ap (λ (v : Values). v.height) made ∙ made_height (problem_of planes.scene) planes.left planes.right planes.scene.span c.args.fine

pub returns : goal.returns
returns g c =
    let planes = c.args.planes.now in
    let made = made_of planes.scene planes.left planes.right c.in_ok-map.map c.in_ok-finer.finer c.args.fine c.in_ok-map.ensures c.in_ok-finer.ensures in
    if_ok c.refined_map.result (λ m e. final_of planes.scene planes.left planes.right c.in_ok-finer.finer m c.args.fine c.args.asked.refine made e) c.refined_map.ensures
