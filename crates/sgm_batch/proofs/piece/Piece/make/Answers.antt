use Rattle.std.proofs.Common.{◌≡◌, ℕ, List, Option, subst, option_map}
use Rattle.sgm_pgm.specs.Read.{Reads}
use Rattle.sgm_stages.specs.Judge.{CalibReads}
use Rattle.sgm_batch.proofs.piece.Piece.make.Goals as goal

pub invariant_of-result : goal.invariant_of-result
invariant_of-result g c = λ left right calib on_left on_right on_calib.
    let of_left : c.of.result.value.left ≡ c.left.result.now = cc in
    let of_right : c.of.result.value.right ≡ c.right.result.now = cc in
    let of_calib : c.of.result.value.calib ≡ option_map (λ bytes. bytes.now) c.calib.result = cc in
    c.texts-made.ensures left right calib
    (subst (λ (bytes : List ℕ). Reads bytes left) of_left on_left)
    (subst (λ (bytes : List ℕ). Reads bytes right) of_right on_right)
    (subst (λ (bytes : Option (List ℕ)). CalibReads bytes calib) of_calib on_calib)
