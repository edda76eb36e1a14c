use Rattle.std.proofs.Common.{false, cond, ltb, length, get_or, ap, ◌∙◌, arith, w16}
use lib.Lanes.{zip2, sel_l}
use Rattle.std.proofs.lemmas.Simd.{tops_compared, length-zip2, length-sel_l, get_or-sel_l, get_or-zip2}
use Rattle.sgm_lanes.proofs.Lanes.{lesser_is_min}
use Rattle.sgm_lanes.proofs.lane.lesser.Goals as goal

pub returns-clause-len : goal.returns-clause-len
returns-clause-len c =
    let a = c.args.a in
    let b = c.args.b in
    let long = length-zip2 ltb a b (omega arith) in
    ap (λ ms. length (sel_l ms a b)) (tops_compared w16 ltb a b) ∙ omega (arith, length-sel_l (zip2 ltb a b) a b (omega arith) (omega arith))

pub returns-clause-each : goal.returns-clause-each
returns-clause-each c i lt =
    let a = c.args.a in
    let b = c.args.b in
    let long = length-zip2 ltb a b (omega arith) in
    let is = ap (λ ms. get_or (sel_l ms a b) i 0) (tops_compared w16 ltb a b) in
    let picked = get_or-sel_l (zip2 ltb a b) a b i 0 (omega arith) (omega arith) (omega arith) in
    let test = ap (λ t. cond t (get_or a i 0) (get_or b i 0)) (get_or-zip2 ltb a b i 0 0 false (omega arith) (omega arith)) in
    is ∙ picked ∙ test ∙ lesser_is_min (get_or a i 0) (get_or b i 0)
