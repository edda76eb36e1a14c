use Rattle.std.proofs.Common.{◌∙◌, ap, List, String}
use Rattle.std.specs.declared.alloc.Global.{Global}
use Rattle.sgm_io.specs.Names.{is_among}
use Rattle.sgm_io.proofs.UnfinishedLaws.{is_among-push}
use Rattle.sgm_io.proofs.unfinished.Unfinished.begin.Goals as goal

pub returns : goal.returns
returns c =
    ap (λ (names : List (String Global)). is_among names) c.push_reserved.ensures.items
    ∙ is_among-push c.args.self.now.names.items c.args.name
