use Rattle.std.proofs.Common.{◌∙◌, ap, rules, List, String}
use Rattle.std.specs.declared.alloc.Global.{Global}
use Rattle.std.proofs.lemmas.Fn.{filter_same}
use Rattle.sgm_io.specs.Names.{is_among}
use Rattle.sgm_io.proofs.UnfinishedLaws.{is_among-filter}
use Rattle.sgm_io.proofs.unfinished.Unfinished.finish.Goals as goal

pub returns : goal.returns
returns c =
    ap (λ (names : List (String Global)). is_among names)
    (filter_same _ _ _ (λ x b f' k. search rules) _ _ c.retain.ensures.filtered)
    ∙ is_among-filter c.args.name.now c.args.self.now.names.items
