use Rattle.std.proofs.Common.{◌∙◌, ◌++◌, sym, ap, is_some, ℕ, List, Option}
use Rattle.sgm_list.proofs.ClashLaws.{ended_none, ended_some}
use Rattle.sgm_list.proofs.clash.Outs.is_ended.Goals as goal

pub returns-in-Some : goal.returns-in-Some
returns-in-Some c =
    let out = c.in-Some.out.now in
    let at = c.in-Some.ensures.cases in
    c.contains_key.ensures ∙ ap (λ (o : Option ℕ). is_some o) (c.args.self.now.first out)
    ∙ ended_some c.args.name.now out c.args.ending.now c.args.self.now.entries.now (at.1.1 ∙ ap (λ (o : List ℕ). o ++ c.args.ending.now) (sym at.2))

pub returns-in-None : goal.returns-in-None
returns-in-None c = ended_none c.args.name.now c.args.ending.now c.args.self.now.entries.now c.in-None.ensures.cases
