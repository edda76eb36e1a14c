use Rattle.std.proofs.Common.{◌≡◌, Some, ap, ◌∙◌, arith, option_map, subst, sym}
use Rattle.sgm_base.specs.Values.{value_at}
use Rattle.sgm_census.specs.Packed.{bits_of}
use Rattle.sgm_census.specs.Smoothing.{word_by}
use Rattle.sgm_census.specs.Windows.{WindowSides, IsWindow, greatest_of}
use Rattle.sgm_census.proofs.SmoothedCodes.{smoothed_code_at-void, word_by-code, word_by-small}
use Rattle.sgm_census.proofs.smoothed.coded.Goals as goal

pub returns-in_err-own-clause-code : goal.returns-in_err-own-clause-code
returns-in_err-own-clause-code c =
    ap (option_map (bits_of (greatest_of c.args.window))) c.from_residual.ensures ∙ sym (smoothed_code_at-void c.args.plane.now c.args.window c.args.x c.args.y (sym c.in_err-own.ensures))

pub returns-clause-code : goal.returns-clause-code
returns-clause-code c =
    let plane = c.args.plane.now in
    let window = c.args.window in
    let own = c.in_ok-own.own in
    let value : value_at plane c.args.x c.args.y ≡ Some own = sym c.in_ok-own.ensures in
    let range : IsWindow window.width window.height = subst (λ (v : WindowSides). IsWindow v.width v.height) c.window.view_is c.window.invariant in
    ap (λ k. Some (bits_of (greatest_of window) k)) (c.near_word.ensures ∙ ap (word_by plane window c.args.x c.args.y own) (c.requires.middle own value))
    ∙ word_by-code plane window c.args.x c.args.y own range value

pub returns-clause-within : goal.returns-clause-within
returns-clause-within c =
    let window = c.args.window in
    let range : IsWindow window.width window.height = subst (λ (v : WindowSides). IsWindow v.width v.height) c.window.view_is c.window.invariant in
    omega (arith, c.near_word.ensures, word_by-small c.args.plane.now window c.args.x c.args.y c.in_ok-own.own c.args.middle range)
