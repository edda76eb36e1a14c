-- Which of its answers a survey gives, and what its scene matches.
use Rattle.std.proofs.Common.{◌≡◌, ℕ, ap, ◌∙◌}
use Rattle.sgm_base.specs.Picture.{Picture}
use Rattle.sgm_base.specs.Values.{Values}
use Rattle.sgm_calib.specs.Calibration.{Calibration}
use Rattle.sgm_census.specs.Codes.{Codes, codes_of}
use Rattle.sgm_census.specs.Matching.{matching_problem, plane_problem}
use Rattle.sgm_energy.specs.Pens.{guide_of}
use Rattle.sgm_base.specs.Refining.{Refining}
use Rattle.sgm_strip.specs.Scenes.{SceneParts, scene_of}
use Rattle.sgm_job.specs.Answers.{matched_in}
use Rattle.sgm_map.specs.Maps.{refined_disparities}
use Rattle.sgm_job.specs.Survey.{Prepared, final, prepared_of, left_plane, right_plane}

-- the refined disparities of two planes, as they are matched
abbrev pub matched_planes : Values → Values → Calibration → ℕ → Refining → Values
matched_planes left right calib maxval refine =
    refined_disparities (plane_problem left right calib.window calib.rule calib.span calib.penalties maxval) left right calib.span calib.fine refine

-- the map by the codes of the planes is theirs
pub map_of_codes : (a b : Values) (ca cb : Codes) (calib : Calibration) (maxval : ℕ) (refine : Refining)
    → ca ≡ codes_of a calib.window calib.rule → cb ≡ codes_of b calib.window calib.rule
    → refined_disparities (matching_problem ca cb calib.span calib.penalties (guide_of a maxval)) a b calib.span calib.fine refine ≡ matched_planes a b calib maxval refine
map_of_codes a b ca cb calib maxval refine ea eb =
    let guide = guide_of a maxval in
    ap (λ x. refined_disparities (matching_problem x cb calib.span calib.penalties guide) a b calib.span calib.fine refine) ea
    ∙ ap (λ x. refined_disparities (matching_problem (codes_of a calib.window calib.rule) x calib.span calib.penalties guide) a b calib.span calib.fine refine) eb

-- the map of the planes is that of the images
pub map_is : (left right : Picture) (calib : Calibration) (a b : Values) (maxval : ℕ) (refine : Refining)
    → a ≡ left_plane left calib → b ≡ right_plane right calib → maxval ≡ left.maxval
    → matched_planes a b calib maxval refine ≡ final left right calib refine
map_is left right calib a b maxval refine ea eb em =
    let l = left_plane left calib in
    let r = right_plane right calib in
    ap (λ p. matched_planes p b calib maxval refine) ea
    ∙ ap (λ p. matched_planes l p calib maxval refine) eb
    ∙ ap (λ n. matched_planes l r calib n refine) em

-- what is matched in the scene of two planes
abbrev pub matched_scene : Values → Values → Calibration → ℕ → Prepared
matched_scene left right calib maxval =
    let codes : Values → Codes = λ plane. codes_of plane calib.window calib.rule in
    matched_in (scene_of (codes left) (codes right) calib.span calib.penalties (guide_of left maxval))

-- what is matched in the scene of the images
pub matched_is : (left right : Picture) (calib : Calibration) (scene : SceneParts) (a b : Values) (ca cb : Codes) (maxval : ℕ)
    → scene ≡ scene_of ca cb calib.span calib.penalties (guide_of a maxval)
    → ca ≡ codes_of a calib.window calib.rule → cb ≡ codes_of b calib.window calib.rule
    → a ≡ left_plane left calib → b ≡ right_plane right calib → maxval ≡ left.maxval
    → matched_in scene ≡ prepared_of left right calib
matched_is left right calib scene a b ca cb maxval e eca ecb ea eb em =
    let l = left_plane left calib in
    let r = right_plane right calib in
    let guide = guide_of a maxval in
    ap matched_in e
    ∙ ap (λ x. matched_in (scene_of x cb calib.span calib.penalties guide)) eca
    ∙ ap (λ x. matched_in (scene_of (codes_of a calib.window calib.rule) x calib.span calib.penalties guide)) ecb
    ∙ ap (λ p. matched_scene p b calib maxval) ea
    ∙ ap (λ p. matched_scene l p calib maxval) eb
    ∙ ap (λ n. matched_scene l r calib n) em
