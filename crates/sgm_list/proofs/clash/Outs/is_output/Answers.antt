use Rattle.std.proofs.Common.{◌≡◌, ◌∙◌, sym, true}
use Rattle.sgm_list.specs.Clashes.{is_output}
use Rattle.sgm_list.proofs.ClashLaws.{first_ends, last_ends, second_ends}
use Rattle.sgm_list.proofs.clash.Outs.is_output.Goals as goal
use Rattle.sgm_list.proofs.clash.Outs.is_output.Goals.{then-is_ended, else-is_ended}

pub returns-then-is_ended-2 : goal.returns-then-is_ended-2
returns-then-is_ended-2 c =
    let entries = c.args.self.now.entries.now in
    let name = c.args.name.now in
    let yes : true ≡ is_output entries name = elim c.if-is_ended.branch [
      | then-is_ended w ↦ first_ends entries name (sym c.is_ended.ensures ∙ w.if-is_ended.true)
      | else-is_ended w ↦ second_ends entries name (sym w.is_ended-else-is_ended.ensures ∙ (sym w.value-is ∙ c.if-is_ended-2.true))
    ] in
    c.if-is_ended-2.true ∙ yes

pub returns-else-is_ended-2 : goal.returns-else-is_ended-2
returns-else-is_ended-2 c =
    let entries = c.args.self.now.entries.now in
    let name = c.args.name.now in
    elim c.if-is_ended.branch [
      | then-is_ended w ↦ absurd (cc (w.value-is, c.if-is_ended-2.false))
      | else-is_ended w ↦
          c.is_ended-else-is_ended-2.ensures
          ∙ last_ends entries name (sym c.is_ended.ensures ∙ w.if-is_ended.false) (sym w.is_ended-else-is_ended.ensures ∙ (sym w.value-is ∙ c.if-is_ended-2.false))
    ]
