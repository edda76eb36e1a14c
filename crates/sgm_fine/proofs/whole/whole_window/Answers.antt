use Rattle.sgm_fine.specs.Samples.{Centre, centre}
use Rattle.sgm_fine.proofs.WholePlaces.{from_rows, places_whole, window_whole}
use Rattle.sgm_fine.proofs.whole.whole_window.Goals as goal

pub window_of-requires-clause-whole : goal.window_of-requires-clause-whole
window_of-requires-clause-whole c =
    let yes = c.if-is_whole.true in
    let is = c.is_whole.ensures in
    let rows = from_rows _ _ _ _ _ _ _ _ _ (c.requires.bands c.if-not-bands.false) (c.has_window.ensures.columns c.if-not-has_window.false) c.width.ensures.value (c.lies_inside.ensures c.if-not-lies_inside.false)
    c.gather_right.ensures.left c.gather_left.ensures.each c.gather_right.ensures.each in
    places_whole _ _ _ _ _ _ _ rows c.gather_right.ensures.padded (is.left yes) (is.first yes) (is.second yes) (is.third yes)

pub returns-then-is_whole-clause-holds : goal.returns-then-is_whole-clause-holds
returns-then-is_whole-clause-holds c = λ map h.
    let p : Centre = centre c.args.left.now c.args.right.now map c.args.at.first c.args.at.x c.args.at.y c.args.at.value in
    let yes = c.if-is_whole.true in
    let is = c.is_whole.ensures in
    let rows = from_rows _ _ _ _ _ _ _ _ _ (c.requires.bands c.if-not-bands.false) (c.has_window.ensures.columns c.if-not-has_window.false) c.width.ensures.value (c.lies_inside.ensures c.if-not-lies_inside.false)
    c.gather_right.ensures.left c.gather_left.ensures.each c.gather_right.ensures.each in
    let whole = places_whole _ _ _ _ _ _ _ rows c.gather_right.ensures.padded (is.left yes) (is.first yes) (is.second yes) (is.third yes) in
    window_whole c.window_of.result _ _ p _ rows h c.window_of.ensures.left whole c.window_of.ensures.rights
