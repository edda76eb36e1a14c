use Rattle.std.proofs.Common.{◌≡◌, ◌*◌, ◌++◌, ◌∷◌, [], ◌∙◌, List, map, sym, ap, subst}
use Rattle.std.specs.Prelude.{All}
use Rattle.std.proofs.lemmas.List.{map-append}
use Rattle.std.proofs.lemmas.List.Elements.{All-push}
use Rattle.crossbeam_utils.specs.declared.cache_padded.CachePadded.{CachePadded}
use Rattle.sgm_board.specs.declared.pass.Pass.{Pass}
use Rattle.sgm_work.specs.declared.matching.Worker.{Worker}
use Rattle.sgm_work.specs.Crews.{pass_of, room_of}
use Rattle.sgm_work.proofs.matching.crew_of.Goals as goal

pub loop-pass-preserved : goal.loop-pass-preserved
loop-pass-preserved c =
    let crew = c.loop-pass.crew.items in
    let inv = c.loop-pass.invariant in
    let worker = c.new.result in
    let room = λ (w : CachePadded Worker). room_of w ≡ c.args.size.width * c.args.span.count in
    record {
      passes = ap (map pass_of) c.in_ok-push.ensures.items ∙ map-append pass_of crew (worker ∷ []) ∙ ap (λ (xs : List Pass). xs ++ pass_of worker ∷ []) inv.passes
          ∙ ap (λ (w : Worker). c.loop-pass.yielded ++ w.pass ∷ []) c.new.ensures;
      rooms = subst (All room) (sym c.in_ok-push.ensures.items) (All-push room crew worker inv.rooms (ap (λ (w : Worker). w.spare) c.new.ensures ∙ c.in_ok-spare.ensures));
    }
