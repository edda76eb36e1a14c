use Rattle.std.proofs.Common.{◌∙◌, rules, tests, string_bytes}
use Rattle.std.proofs.lemmas.Iterator.{YieldsList-from_slice}
use Rattle.std.proofs.lemmas.Iterator.Adapters.{position_from-zero}
use Rattle.std.proofs.lemmas.Iterator.Search.{position_from_yields_List}
use Rattle.sgm_list.specs.Names.{is_written}
use Rattle.sgm_list.proofs.Found.{found_of}
use Rattle.sgm_list.proofs.names.first_written.Goals as goal

pub returns : goal.returns
returns c =
    let names = c.args.names.now in
    let out = c.args.out.now in
    position_from_yields_List (λ name. is_written out (string_bytes name)) _ _ c.position.result c.position.ensures.ran (YieldsList-from_slice names c.iter.ensures.rest) (λ x b q k. search (rules, tests))
    ∙ position_from-zero (λ name. is_written out (string_bytes name)) names
    ∙ found_of (is_written out) string_bytes names 0
