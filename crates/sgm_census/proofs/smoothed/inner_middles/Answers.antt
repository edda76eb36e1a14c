use Rattle.std.proofs.Common.{◌≡◌, ◌+◌, ◌-◌, ◌*◌, ◌<◌, ◌++◌, ap, ◌∙◌, arith, get_or, length, slice_index}
use Rattle.std.proofs.lemmas.List.{get_or_append_left, get_or-append_right}
use Rattle.sgm_census.proofs.CodeLists.{part_at}
use Rattle.sgm_census.proofs.SmoothedRows.{middle_of-same}
use Rattle.sgm_census.proofs.smoothed.inner_middles.Goals as goal

pub returns : goal.returns
returns c = λ k h.
    let values = c.args.plain.values.now in
    let width = c.args.plain.width in
    let y = c.args.y in
    let len = width - 2 in
    let new = c.middles.new.into in
    let front = c.split_at_mut-rest.result.0.now in
    let after = c.split_at_mut-inner.result.1.now in
    let inside : k < length new = omega arith in
    let here : k + 1 - 1 ≡ k = omega arith in
    get_or-append_right front (new ++ after) 1 (k + 1) 0 c.split_at_mut-rest.ensures.front_len (omega arith)
    ∙ ap (λ j. get_or (new ++ after) j 0) here ∙ get_or_append_left new after 0 k inside
    ∙ c.middles.ensures k inside
    ∙ middle_of-same _ _ _ _ _ _ _ _ _ _
    (part_at values (y * width + 1) (y * width + 1 + len - (y * width + 1)) k 0 (omega arith) ∙ ap (slice_index values) (omega arith))
    (part_at values (y * width + 2) (y * width + 2 + len - (y * width + 2)) k 0 (omega arith) ∙ ap (slice_index values) (omega arith))
    (part_at values (y * width) (y * width + len - y * width) k 0 (omega arith))
    (part_at values ((y + 1) * width + 1) ((y + 1) * width + 1 + len - ((y + 1) * width + 1)) k 0 (omega arith) ∙ ap (slice_index values) (omega arith))
    (part_at values ((y - 1) * width + 1) ((y - 1) * width + 1 + len - ((y - 1) * width + 1)) k 0 (omega arith) ∙ ap (slice_index values) (omega arith))
