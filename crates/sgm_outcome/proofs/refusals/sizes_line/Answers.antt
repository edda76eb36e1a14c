use Rattle.sgm_outcome.proofs.refusals.sizes_line.Goals as goal

pub returns : goal.returns
returns c =
    rw (
      c.text-5.ensures.bytes,
      c.number-4.ensures.bytes,
      c.text-4.ensures.bytes,
      c.number-3.ensures.bytes,
      c.text-3.ensures.bytes,
      c.number-2.ensures.bytes,
      c.text-2.ensures.bytes,
      c.number.ensures.bytes,
      c.text.ensures.bytes,
      c.new.ensures,
      ← c.left.view_is,
      ← c.right.view_is,
    )
