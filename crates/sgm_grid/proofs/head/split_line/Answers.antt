use Rattle.std.proofs.Common.{◌≡◌, true, ◌+◌, rules}
use Rattle.std.specs.Str.{str_eq_ignore_ascii_case, str_to_ascii_lowercase}
use Rattle.std.proofs.lemmas.Slice.Eq.{bytes_eq-Decides}
use Rattle.std.proofs.lemmas.Result.{IfErr-weaker}
use Rattle.sgm_grid.specs.Head.{LacksLine, LacksNumber}
use Rattle.sgm_text.specs.Words.{words_of}
use Rattle.sgm_grid.proofs.HeadLaws.{lacks_line}
use Rattle.sgm_grid.proofs.head.split_line.Goals as goal

pub returns-clause-err : goal.returns-clause-err
returns-clause-err c =
    let word = c.in-Some.word.now in
    let name = c.args.name.now in
    let same : str_to_ascii_lowercase word ≡ str_to_ascii_lowercase name = c.if-not-eq_ignore_ascii_case.ensures.test.0 (search rules) in
    let is : str_eq_ignore_ascii_case word name ≡ true = (bytes_eq-Decides (str_to_ascii_lowercase word) (str_to_ascii_lowercase name)).1 same in
    IfErr-weaker c.split_number.result (λ fault. LacksNumber (c.args.at + 1) (words_of c.in-Some.text.now) fault) (λ fault. LacksLine name c.args.at (words_of c.args.text.now) fault)
    (λ fault lacks. lacks_line name word c.args.at (words_of c.args.text.now) (words_of c.in-Some.text.now) fault c.in-Some.ensures.words is lacks) c.split_number.ensures.err
