use Rattle.std.proofs.Common.{◌∙◌, rules}
use Rattle.std.proofs.lemmas.List.{length-set}
use Rattle.std.proofs.lemmas.Iterator.Adapters.{YieldsList-from_vec}
use Rattle.std.proofs.lemmas.Iterator.Consumers.{YieldsList-turn}
use Rattle.sgm_series.proofs.Placing.{placed}
use Rattle.sgm_series.proofs.making.place_pieces.Goals as goal

pub loop-piece-preserved-in-Some : goal.loop-piece-preserved-in-Some
loop-piece-preserved-in-Some c =
    let so = c.loop-piece.invariant in
    let stands = YieldsList-turn (YieldsList-from_vec {s = c.into_iter-piece-iterator.result} c.args.pieces.items (search rules) (search rules))
    c.loop-piece.yielded c.loop-piece.piece-iterator c.loop-piece.yielded_by c.next.result c.next.new.self c.in-Some.piece c.in-Some.is c.next.ensures.steps in
    record {
      next = search rules;
      finite = search rules;
      count = length-set c.loop-piece.answers _ c.into_made.result ∙ so.count;
      answers = λ entries held inputs at are was.
          placed entries held c.args.places.now inputs c.args.pieces.items _ c.in-Some.piece c.entry.result c.loop-piece.answers c.into_made.result at are c.requires.pieces stands c.entry.ensures c.into_made.ensures.right (so.answers entries held inputs at are was);
    }

pub loop-piece-preserved : goal.loop-piece-preserved
loop-piece-preserved c =
    let so = c.loop-piece.invariant in
    let stands = YieldsList-turn (YieldsList-from_vec {s = c.into_iter-piece-iterator.result} c.args.pieces.items (search rules) (search rules))
    c.loop-piece.yielded c.loop-piece.piece-iterator c.loop-piece.yielded_by c.next.result c.next.new.self c.in-Some.piece c.in-Some.is c.next.ensures.steps in
    record {
      next = search rules;
      finite = search rules;
      count = length-set c.loop-piece.answers _ c.into_made.result ∙ so.count;
      answers = λ entries held inputs at are was.
          placed entries held c.args.places.now inputs c.args.pieces.items _ c.in-Some.piece c.entry.result c.loop-piece.answers c.into_made.result at are c.requires.pieces stands c.entry.ensures c.into_made.ensures.right (so.answers entries held inputs at are was);
    }
