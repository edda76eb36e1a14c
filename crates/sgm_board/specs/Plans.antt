-- What the rule of a board reads of the board's plan.
use Rattle.sgm_board.specs.declared.view.About.{About}
use Rattle.sgm_board.specs.declared.rule.Plan.{Plan}

-- the scene and the cut are those of the parcel that the plan remembers
abbrev pub about_of : Plan → About
about_of plan = record { scene = plan.sample.value.scene; cut = plan.sample.value.cut }
