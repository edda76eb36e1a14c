use Rattle.std.proofs.Common.{◌≡◌, ◌+◌, ◌*◌, ◌/◌, ◌≤◌, ℤ, pos, ◌*ℤ◌, List, length, map, w64, to_z, of_z, sym, ap, ◌∙◌, subst, arith}
use Rattle.std.proofs.lemmas.Int.{ints}
use Rattle.sgm_rectify.specs.declared.warp.Warp.{Warp}
use Rattle.sgm_rectify.specs.Faults.{SuitsPixel}
use Rattle.sgm_rectify.specs.Places.{in_cell, place_of}
use Rattle.sgm_rectify.proofs.Suits.{positive_at, column_there, nodes_there}
use Rattle.sgm_rectify.proofs.warp.Warp.place_near.Goals as goal

pub projected-requires-clause-positive : goal.projected-requires-clause-positive
projected-requires-clause-positive c =
    positive_at c.in-Projective.matrix c.args.x c.args.y (subst (λ (w : Warp). SuitsPixel w c.args.x c.args.y) c.in-Projective.is c.requires)

pub meshed-requires-clause-column : goal.meshed-requires-clause-column
meshed-requires-clause-column c =
    column_there c.in-Mesh.step c.in-Mesh.cols c.in-Mesh.rows c.in-Mesh.nodes c.args.x c.args.y (subst (λ (w : Warp). SuitsPixel w c.args.x c.args.y) c.in-Mesh.is c.requires)

pub meshed-requires-clause-row : goal.meshed-requires-clause-row
meshed-requires-clause-row c =
    subst (λ (nodes : List (ℤ × ℤ)). (c.args.y / c.in-Mesh.step + 1) * c.in-Mesh.cols + c.in-Mesh.cols ≤ length nodes) (sym c.as_slice.ensures)
    (nodes_there c.in-Mesh.step c.in-Mesh.cols c.in-Mesh.rows c.in-Mesh.nodes c.args.x c.args.y (subst (λ (w : Warp). SuitsPixel w c.args.x c.args.y) c.in-Mesh.is c.requires))

pub returns-in-Identity : goal.returns-in-Identity
unfolding place_of
returns-in-Identity c =
    let u : to_z w64 (of_z w64 (pos 256 *ℤ to_z w64 c.args.x)) ≡ pos (256 * c.args.x) = omega (arith, ints, c.ranges.x) in
    let v : to_z w64 (of_z w64 (pos 256 *ℤ to_z w64 c.args.y)) ≡ pos (256 * c.args.y) = omega (arith, ints, c.ranges.y) in
    let first : ℤ → ℤ × ℤ = λ z. (z, to_z w64 (of_z w64 (pos 256 *ℤ to_z w64 c.args.y))) in
    let second : ℤ → ℤ × ℤ = λ z. (pos (256 * c.args.x), z) in
    ap first u ∙ ap second v ∙ sym (ap (λ (w : Warp). place_of w c.args.x c.args.y) c.in-Identity.is)

pub returns-in-Projective : goal.returns-in-Projective
unfolding place_of
returns-in-Projective c = c.projected.ensures ∙ sym (ap (λ (w : Warp). place_of w c.args.x c.args.y) c.in-Projective.is)

pub returns-in-Mesh : goal.returns-in-Mesh
unfolding place_of
returns-in-Mesh c =
    let us : List (ℤ × ℤ) → ℤ = λ nodes. in_cell c.in-Mesh.step c.in-Mesh.cols (map (λ n. n.0) nodes) c.args.x c.args.y in
    let vs : List (ℤ × ℤ) → ℤ = λ nodes. in_cell c.in-Mesh.step c.in-Mesh.cols (map (λ n. n.1) nodes) c.args.x c.args.y in
    let first : ℤ → ℤ × ℤ = λ z. (z, c.meshed.result.1) in
    let second : ℤ → ℤ × ℤ = λ z. (us c.in-Mesh.nodes, z) in
    ap first (c.meshed.ensures.u ∙ ap us c.as_slice.ensures) ∙ ap second (c.meshed.ensures.v ∙ ap vs c.as_slice.ensures)
    ∙ sym (ap (λ (w : Warp). place_of w c.args.x c.args.y) c.in-Mesh.is)
