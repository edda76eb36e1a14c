use Rattle.sgm_outcome.proofs.refusals.inside_line.Goals as goal

pub returns : goal.returns
returns c =
    rw (
      c.text-4.ensures.bytes,
      c.number-3.ensures.bytes,
      c.text-3.ensures.bytes,
      c.number-2.ensures.bytes,
      c.text-2.ensures.bytes,
      c.number.ensures.bytes,
      c.text.ensures.bytes,
      c.new.ensures,
    )
