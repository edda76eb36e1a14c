use Rattle.std.proofs.Common.{rules, ◌≡◌, ◌<◌, length, ℤ, FitsSigned, w64, to_z, of_z, ap, ◌∙◌, arith}
use Rattle.std.proofs.lemmas.Int.{to_z-of_z}
use Rattle.sgm_base.specs.Sides.{Sides}
use Rattle.sgm_rectify.specs.Bilinear.{bilinear}
use Rattle.sgm_rectify.specs.Rectified.{rectified}
use Rattle.sgm_rectify.proofs.Rows.{entry_more}
use Rattle.sgm_rectify.proofs.rectified.warp_row.Goals as goal

pub loop-x-preserved : goal.loop-x-preserved
unfolding rectified
loop-x-preserved c =
    let image = c.args.image.now in
    let u : FitsSigned w64 c.place_near-u.result.0 = search rules in
    let v : FitsSigned w64 c.place_near-u.result.1 = search rules in
    let width : c.width.inside.width ≡ c.size.result.width = ap (λ (s : Sides). s.width) c.width.view_is in
    let inside : c.loop-x.x < length c.loop-x.into = omega arith in
    entry_more c.loop-x.into c.loop-x.x c.bilinear.result (λ k. rectified image c.args.warp.now k c.args.y) inside c.loop-x.invariant
    (c.bilinear.ensures
    ∙ ap (λ (z : ℤ). bilinear image z (to_z w64 (of_z w64 c.place_near-u.result.1))) (to_z-of_z w64 c.place_near-u.result.0 u)
    ∙ ap (λ (z : ℤ). bilinear image c.place_near-u.result.0 z) (to_z-of_z w64 c.place_near-u.result.1 v)
    ∙ ap (λ (p : ℤ × ℤ). bilinear image p.0 p.1) c.place_near-u.ensures)
