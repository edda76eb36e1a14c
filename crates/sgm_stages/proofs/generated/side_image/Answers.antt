use Rattle.std.proofs.Common.{arith, ap, ◌∙◌, length}
use Rattle.sgm_base.specs.Picture.{IsPicture, picture}
use Rattle.sgm_stages.proofs.PairLaws.{none_there, length-row_by_row}
use Rattle.sgm_stages.proofs.generated.side_image.Goals as goal

pub unreachable-requires : goal.unreachable-requires
unreachable-requires c =
    let whole : IsPicture (picture c.args.size.width c.args.size.height 255 c.in_ok-samples.samples.items) = record {
      width_in_range = c.pixels-count.ensures.width;
      height_in_range = c.pixels-count.ensures.height;
      full = ap length c.in_ok-samples.ensures.samples ∙ length-row_by_row c.args.size.width c.args.size.height _;
      maxval_in_range = omega arith;
      below = c.in_ok-samples.ensures.bytes;
    } in
    none_there _ c.in-None.is (c.make.ensures.exact.1 whole)
