use Rattle.std.proofs.Common.{◌≡◌, ℕ, ◌*◌, ◌<◌, length, ◌∙◌, ap, arith, w64, to_z, of_z, unsigned_abs}
use Rattle.std.proofs.lemmas.Nat.{mul-add-lt}
use Rattle.std.proofs.lemmas.Int.{ints}
use Rattle.sgm_base.specs.Sides.{Sides}
use Rattle.sgm_rectify.proofs.bilinear.sample.Goals as goal

pub bounds-samples-row : goal.bounds-samples-row
bounds-samples-row c =
    let picture = c.args.image.now in
    let width : c.size.inside.width ≡ picture.width = ap (λ (s : Sides). s.width) c.size.view_is ∙ c.size-size.ensures.width in
    let height : c.size.inside.height ≡ picture.height = ap (λ (s : Sides). s.height) c.size.view_is ∙ c.size-size.ensures.height in
    let row : ℕ = unsigned_abs (to_z w64 (of_z w64 c.args.row)) in
    let column : ℕ = unsigned_abs (to_z w64 (of_z w64 c.args.column)) in
    let low : row < c.size.inside.height = omega (arith, ints, c.if-row-size.false, c.if-row-lt0.false) in
    let left : column < c.size.inside.width = omega (arith, ints, c.if-column-size.false, c.if-column-lt0.false) in
    let area : c.size.inside.width * c.size.inside.height ≡ picture.width * picture.height = ap (λ n. n * c.size.inside.height) width ∙ ap (λ n. picture.width * n) height in
    omega (arith, mul-add-lt row c.size.inside.width column c.size.inside.height low left, area, ap length c.samples-samples.ensures.samples, c.samples-samples.ensures.kept.full)
