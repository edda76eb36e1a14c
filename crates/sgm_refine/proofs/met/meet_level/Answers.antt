use Rattle.std.proofs.Common.{◌≡◌, ◌∙◌, ap}
use Rattle.sgm_base.specs.Sides.{Sides}
use Rattle.sgm_energy.specs.declared.dir.Dir.TheVariants.{Right, Left}
use Rattle.sgm_refine.proofs.MetRows.{two_rows}
use Rattle.sgm_refine.proofs.met.meet_level.Goals as goal

pub returns : goal.returns
returns c =
    let wide : c.width.inside.width ≡ c.args.map.now.width = ap (λ (s : Sides). s.width) c.width.view_is ∙ c.size.ensures.width in
    two_rows c.args.map.now Right Left c.args.y c.meet_right.new.into c.meet_left.new.into
    (c.meet_right.auto.into ∙ c.split_at_mut-right.ensures.front_len ∙ wide) c.meet_right.ensures c.meet_left.ensures
