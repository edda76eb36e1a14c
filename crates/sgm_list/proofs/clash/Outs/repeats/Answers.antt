use Rattle.std.proofs.Common.{◌∙◌, ap, sym}
use Rattle.std.specs.Str.{bytes_eq}
use Rattle.sgm_list.proofs.Found.{any_before, is_below}
use Rattle.sgm_list.proofs.clash.Outs.repeats.Goals as goal

pub returns-in-Some : goal.returns-in-Some
returns-in-Some c =
    ap (is_below c.args.place) (c.in-Some.ensures.value ∙ c.args.self.now.first c.args.out.now)
    ∙ sym (any_before (λ entry. bytes_eq c.args.out.now entry.out) c.args.self.now.entries.now c.args.place)

pub returns-in-None : goal.returns-in-None
returns-in-None c =
    ap (is_below c.args.place) (c.in-None.ensures.value ∙ c.args.self.now.first c.args.out.now)
    ∙ sym (any_before (λ entry. bytes_eq c.args.out.now entry.out) c.args.self.now.entries.now c.args.place)
