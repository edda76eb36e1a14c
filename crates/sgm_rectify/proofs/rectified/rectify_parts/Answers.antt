use Rattle.std.proofs.Common.{◌≡◌, ◌+◌, ◌-◌, ◌*◌, ◌/◌, ◌%◌, length, slice_index_or, None, ap, sym, ◌∙◌, arith}
use Rattle.std.specs.Prelude.{min}
use Rattle.sgm_base.specs.Sides.{Sides}
use Rattle.sgm_rectify.specs.Rectified.{rectified}
use Rattle.sgm_rectify.proofs.Rows.{all_rows, begins_whole, ends_whole}
use Rattle.sgm_rectify.proofs.rectified.rectify_parts.Goals as goal

pub for_each_chunk_mut-requires-clause-accepts : goal.for_each_chunk_mut-requires-clause-accepts
for_each_chunk_mut-requires-clause-accepts g c κs within start p chunk =
    let image = c.args.image.now in
    let rows = c.div_ceil-rows.result in
    let width : c.size.inside.width ≡ image.width = ap (λ (s : Sides). s.width) c.size.view_is ∙ c.size-size.ensures.width in
    let start_whole : start % image.width ≡ 0 = begins_whole start rows image.width (ap (λ n. start % (rows * n)) (sym width) ∙ chunk.start_is_multiple) in
    let size : rows * c.size.inside.width ≡ rows * image.width = ap (λ n. rows * n) width in
    let length_is = chunk.len ∙ ap (λ n. min n (length c.args.into.now - start)) size ∙ ap (λ n. min (rows * image.width) (n - start)) c.requires.whole in (
      c.requires.warp,
      (
        start_whole,
        (ends_whole start (length p.now) rows image.width image.height start_whole length_is, omega (arith, chunk.in_bounds, c.requires.whole)),
      ),
    )

pub returns : goal.returns
returns g c =
    let image = c.args.image.now in
    let warp = c.args.warp.now in
    let new = c.for_each_chunk_mut.new.s in
    all_rows image warp new (omega (arith, c.for_each_chunk_mut.auto.s, c.requires.whole))
    (λ k l.
    let at = (c.for_each_chunk_mut.ensures.by_index k None (omega (arith, l, c.for_each_chunk_mut.auto.s))).1 in
    let here : slice_index_or new k None ≡ rectified image warp ((at.start + at.offset) % image.width) ((at.start + at.offset) / image.width) =
    sym at.new_element ∙ at.call at.offset at.offset_in_chunk in
    here
    ∙ ap (λ n. rectified image warp (n % image.width) (n / image.width)) at.start_plus_offset)
