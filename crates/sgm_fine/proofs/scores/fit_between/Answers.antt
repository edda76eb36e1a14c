use Rattle.std.proofs.Common.{◌≡◌, ◌-◌, pos, to_z, of_z, w64, arith, sym, ◌∙◌}
use Rattle.std.proofs.lemmas.Int.{ints}
use Rattle.sgm_fine.specs.Scores.{blended, covariance}
use Rattle.sgm_fine.proofs.Covariances.{covariance_linear, covariance_turned}
use Rattle.sgm_fine.proofs.Parts.{eight_kept, eight_near, part_kept, part_near, part_within}
use Rattle.sgm_fine.proofs.SideSums.{eighths_same}
use Rattle.sgm_fine.proofs.scores.fit_between.Goals as goal

pub blend-further-requires-clause-here : goal.blend-further-requires-clause-here
blend-further-requires-clause-here c = part_near c.args.side.cross c.requires.side.cross

pub blend-further-requires-clause-side : goal.blend-further-requires-clause-side
blend-further-requires-clause-side c = part_near c.args.side.own c.requires.side.own

pub blend-requires-clause-here : goal.blend-requires-clause-here
blend-requires-clause-here c = part_near c.args.here.left c.requires.here.left

pub blend-requires-clause-side : goal.blend-requires-clause-side
blend-requires-clause-side c = part_near c.args.side.left c.requires.side.left

pub blend-requires-2-clause-here : goal.blend-requires-2-clause-here
blend-requires-2-clause-here c =
    eight_near c.blend-nearer.result (c.blend-nearer.ensures.small 70368744177664 (part_within c.args.here.own c.requires.here.own) (part_within c.args.side.cross c.requires.side.cross))

pub blend-requires-2-clause-side : goal.blend-requires-2-clause-side
blend-requires-2-clause-side c =
    eight_near c.blend-further.result (c.blend-further.ensures.small 70368744177664 (part_within c.args.side.cross c.requires.side.cross) (part_within c.args.side.own c.requires.side.own))

pub returns : goal.returns
returns c l h s one two =
    let n = c.args.n in
    let g = 8 - n in
    let b = blended h s n in
    let here = c.requires.here in
    let side = c.requires.side in
    let cross = part_kept c.args.side.cross side.cross ∙ two.cross in
    let own = part_kept c.args.side.own side.own ∙ two.own in
    let nearer : c.blend-nearer.result ≡ covariance h b =
    c.blend-nearer.ensures.value ∙ eighths_same g n _ _ (covariance h h) (covariance h s) (part_kept c.args.here.own here.own ∙ one.own) cross
    ∙ sym (covariance_linear h (pos g) (pos n) h s) in
    let further : c.blend-further.result ≡ covariance s b =
    c.blend-further.ensures.value ∙ eighths_same g n _ _ (covariance s h) (covariance s s) (cross ∙ covariance_turned h s) own ∙ sym (covariance_linear s (pos g) (pos n) h s) in
    let near = c.blend-nearer.ensures.small 70368744177664 (part_within c.args.here.own here.own) (part_within c.args.side.cross side.cross) in
    let far = c.blend-further.ensures.small 70368744177664 (part_within c.args.side.cross side.cross) (part_within c.args.side.own side.own) in
    let first : to_z w64 (of_z w64 c.blend.result) ≡ c.blend.result = omega (arith, ints, c.blend.type_inv) in
    let second : to_z w64 (of_z w64 c.blend-2.result) ≡ c.blend-2.result = omega (arith, ints, c.blend-2.type_inv) in (
      first ∙ c.blend.ensures.value
          ∙ eighths_same g n _ _ (covariance l h) (covariance l s) (part_kept c.args.here.left here.left ∙ one.left) (part_kept c.args.side.left side.left ∙ two.left)
          ∙ sym (covariance_linear l (pos g) (pos n) h s),
      second ∙ c.blend-2.ensures.value
          ∙ eighths_same g n _ _ (covariance b h) (covariance b s) (eight_kept c.blend-nearer.result near ∙ nearer ∙ covariance_turned h b)
          (eight_kept c.blend-further.result far ∙ further ∙ covariance_turned s b) ∙ sym (covariance_linear b (pos g) (pos n) h s),
    )
