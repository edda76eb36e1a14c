use Rattle.std.proofs.Common.{◌≡◌, pos, ◌-ℤ◌, ◌*ℤ◌, ap, ap₂, sym, ◌∙◌}
use Rattle.sgm_fine.specs.Scores.{covariance, distances}
use Rattle.sgm_fine.proofs.Walks.{difference_kept, difference_within, distances_kept, distances_within, eight_eights_times, eight_times, more_first, more_fits, more_kept, of_distances, right_first, together_first, twice_fits, twice_kept, with_distances}
use Rattle.sgm_fine.proofs.scores.walk_from.Goals as goal

pub overflow_add-result : goal.overflow_add-result
overflow_add-result c =
    let o = c.args.here.own in
    let side = c.args.side in
    let here = c.requires.here in
    let far = c.requires.side in
    more_fits (side.cross -ℤ o) ((side.own -ℤ side.cross) -ℤ (side.cross -ℤ o)) _ _ (difference_within o side.cross here.own far.cross) (distances_within o side.cross side.own here.own far.cross far.own)
    (difference_kept side.cross o far.cross here.own) (distances_kept o side.cross side.own here.own far.cross far.own)

pub overflow_mul-result-4 : goal.overflow_mul-result-4
overflow_mul-result-4 c =
    let o = c.args.here.own in
    let side = c.args.side in
    let here = c.requires.here in
    let far = c.requires.side in
    twice_fits ((side.own -ℤ side.cross) -ℤ (side.cross -ℤ o)) _ (distances_within o side.cross side.own here.own far.cross far.own) (distances_kept o side.cross side.own here.own far.cross far.own)

pub returns : goal.returns
returns c l h s one two =
    let o = c.args.here.own in
    let side = c.args.side in
    let here = c.requires.here in
    let far = c.requires.side in
    let cross : (side.cross -ℤ o) ≡ covariance h s -ℤ covariance h h = ap₂ (λ y z. y -ℤ z) two.cross one.own in
    let turned : (side.cross -ℤ o) ≡ covariance h (distances h s) = cross ∙ sym (with_distances h h s) in
    let apart : ((side.own -ℤ side.cross) -ℤ (side.cross -ℤ o)) ≡ covariance (distances h s) (distances h s) =
    ap₂ (λ y z. y -ℤ z) (ap₂ (λ y z. y -ℤ z) two.own two.cross) cross ∙ sym (of_distances h s) in
    let within = distances_within o side.cross side.own here.own far.cross far.own in
    let kept = distances_kept o side.cross side.own here.own far.cross far.own in
    record {
      together = eight_times c.args.here.left here.left ∙ ap (λ z. pos 8 *ℤ z) one.left ∙ sym (together_first l h s);
      right = eight_eights_times o here.own ∙ ap (λ z. pos 64 *ℤ z) one.own ∙ sym (right_first h s);
      further = difference_kept side.left c.args.here.left far.left here.left ∙ ap₂ (λ y z. y -ℤ z) two.left one.left ∙ sym (with_distances l h s);
      more = more_kept (side.cross -ℤ o) ((side.own -ℤ side.cross) -ℤ (side.cross -ℤ o)) _ _ (difference_within o side.cross here.own far.cross) within (difference_kept side.cross o far.cross here.own) kept
          ∙ more_first (side.cross -ℤ o) ((side.own -ℤ side.cross) -ℤ (side.cross -ℤ o)) _ _ turned apart;
      bend = twice_kept ((side.own -ℤ side.cross) -ℤ (side.cross -ℤ o)) _ within kept ∙ ap (λ z. pos 2 *ℤ z) apart;
    }
