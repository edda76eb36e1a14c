use Rattle.sgm_grid.proofs.HeadLaws.{some_capped, capped_fits, lacks_number, lacks_word}
use Rattle.std.proofs.Common.{ap, sym, ◌∙◌, to_z, of_z, w64, ℤ}
use Rattle.sgm_text.specs.Words.{words_of}
use Rattle.sgm_grid.specs.Numbers.{number_of}
use Rattle.sgm_grid.proofs.head.split_number.Goals as goal

pub returns-clause-ok : goal.returns-clause-ok
returns-clause-ok c =
    let written = some_capped (number_of c.in-Some.word.now) c.in-Some-number.value (sym c.number.ensures ∙ c.in-Some-number.is) in
    record {
      word = c.in-Some.word.now;
      real = written.0;
      is = c.in-Some.ensures.words;
      writes = written.1;
      value_is = ap (λ (z : ℤ). to_z w64 (of_z w64 z)) written.2 ∙ capped_fits written.0;
    }

pub returns-in_default-clause-err : goal.returns-in_default-clause-err
returns-in_default-clause-err c = lacks_word c.args.at (words_of c.args.text.now) c.in_default.ensures.words

pub returns-in_default-number-clause-err : goal.returns-in_default-number-clause-err
returns-in_default-number-clause-err c =
    lacks_number c.in-Some.word.now c.args.at (words_of c.args.text.now) (words_of c.in-Some.text.now) c.in-Some.ensures.words (sym c.number.ensures ∙ c.in_default-number.is)
