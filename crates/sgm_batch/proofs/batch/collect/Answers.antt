use Rattle.std.proofs.Common.{◌∙◌, ◌++◌, ◌∷◌, [], List, Option, Some, map, sym, ap, subst, arith}
use Rattle.std.specs.Vec.Iter.{into_iter_items}
use Rattle.std.proofs.lemmas.List.{map-append}
use Rattle.sgm_batch.specs.Pieces.{PieceParts}
use Rattle.sgm_batch.specs.Batches.{AreAll}
use Rattle.sgm_batch.proofs.Popping.{first_placed, rest_placed}
use Rattle.sgm_batch.proofs.batch.collect.Goals as goal

pub unreachable-requires : goal.unreachable-requires
unreachable-requires c =
    let left = subst (λ (xs : List (Option PieceParts)). AreAll xs) (c.in-Some.ensures.steps.0) c.loop-piece.invariant.left in
    let piece = first_placed c.in-Some.piece c.next.new.self.rest.items left in
    c.in_default.not-Some piece.0 piece.1

pub loop-piece-init : goal.loop-piece-init
loop-piece-init c = record {
  room = c.requires.room;
  so_far = ap (λ (xs : List PieceParts). map (λ x. Some x) xs) c.requires.empty;
  left = subst (λ (xs : List (Option PieceParts)). AreAll xs) (sym c.into_iter-piece-iterator.ensures.into_iter_gives.0) c.requires.all;
}

pub loop-piece-preserved : goal.loop-piece-preserved
loop-piece-preserved c =
    let at = c.loop-piece in
    let piece = c.in-Some-piece.piece in
    record {
      room = omega (arith, c.push_reserved.ensures.capacity, at.invariant.room);
      so_far =
          ap (λ (xs : List PieceParts). map (λ x. Some x) xs) c.push_reserved.ensures.items
          ∙ map-append (λ x. Some x) at.pieces.items (piece ∷ [])
          ∙ ap (λ (xs : List (Option PieceParts)). xs ++ Some piece ∷ []) at.invariant.so_far
          ∙ ap (λ (x : Option PieceParts). at.yielded ++ x ∷ []) (sym c.in-Some-piece.is);
      left = rest_placed c.in-Some.piece (into_iter_items c.next.new.self)
          (subst (λ (xs : List (Option PieceParts)). AreAll xs) c.in-Some.ensures.steps.0 at.invariant.left);
    }
