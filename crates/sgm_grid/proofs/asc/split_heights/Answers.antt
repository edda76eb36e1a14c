use Rattle.std.proofs.Common.{◌≡◌, [], ◌∷◌, ◌++◌, length, arith, ap}
use Rattle.std.proofs.lemmas.List.{length_push}
use Rattle.sgm_text.specs.Words.{words_of}
use Rattle.sgm_grid.proofs.HeightLaws.{more_rest, more_whole}
use Rattle.sgm_grid.proofs.asc.split_heights.Goals as goal

pub loop-rest-preserved : goal.loop-rest-preserved
loop-rest-preserved c =
    let words = words_of c.args.text.now in
    let before = words_of c.loop-rest.rest.now in
    let rest = words_of c.in-Some.behind.now in
    let old = c.loop-rest.heights.items in
    let new = c.push.new.self.items in
    let cell = c.in-Some.height in
    let first = c.in-Some.ensures.height in
    let pushed : new ≡ old ++ cell ∷ [] = c.in_ok-push.ensures.items in
    let longer = ap length pushed in
    let shorter = c.in-Some.ensures.shorter in
    record {
      few = omega (arith, longer, length_push old cell, c.len.ensures);
      whole = more_whole c.args.most words before rest old new first.0 cell pushed (omega (arith, c.len.ensures)) first.1 first.2 c.loop-rest.invariant.whole;
      rest = more_rest words before rest old new first.0 cell pushed first.1 c.loop-rest.invariant.rest;
      within = omega (arith, longer, length_push old cell, shorter);
    }
