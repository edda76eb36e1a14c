use Rattle.sgm_outcome.proofs.write.usage_line.Goals as goal

pub returns-in-TooFew : goal.returns-in-TooFew
returns-in-TooFew c =
    rw (
      c.text-in-TooFew-3.ensures.bytes,
      c.number-in-TooFew.ensures.bytes,
      c.text-in-TooFew-2.ensures.bytes,
      c.number.ensures.bytes,
      c.text-in-TooFew.ensures.bytes,
      c.new-in-TooFew.ensures,
      c.in-TooFew.is,
    )

pub returns-in-RepeatedOption : goal.returns-in-RepeatedOption
returns-in-RepeatedOption c = rw (c.word_line-in-RepeatedOption.ensures, c.in-RepeatedOption.is)

pub returns-in-OutputIsInput : goal.returns-in-OutputIsInput
returns-in-OutputIsInput c = rw (c.word_line-in-OutputIsInput.ensures, c.in-OutputIsInput.is)
