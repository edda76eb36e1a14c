use Rattle.sgm_series.proofs.making.make_batch.Goals as goal

pub returns-in-Ok-make_pieces-clause-answers : goal.returns-in-Ok-make_pieces-clause-answers
returns-in-Ok-make_pieces-clause-answers g c = λ told. c.in-Ok-make_pieces.ensures.answers c.args.entries.now _ (c.in-Ok.ensures.inputs told) (c.in-Ok.ensures.answers told)
