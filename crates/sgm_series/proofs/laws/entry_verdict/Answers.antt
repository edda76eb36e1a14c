use Rattle.sgm_series.proofs.WordsOfEntries.{calls_by_words, calls_by_operands}
use Rattle.sgm_series.proofs.laws.entry_verdict.Goals as goal

pub returns : goal.returns
returns c = λ list bytes place entry held v none at. (calls_by_words list bytes place entry held v none at, calls_by_operands list bytes place entry held v none at)
