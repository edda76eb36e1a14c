use Rattle.std.proofs.Common.{◌≡◌, ◌*◌, ◌∙◌, length, take, drop, ◌++◌, List, sym, ap, subst, arith}
use Rattle.std.specs.Prelude.{All, slice_index_or}
use Rattle.std.proofs.lemmas.Option.{slice_get-get_or}
use Rattle.crossbeam_utils.specs.declared.cache_padded.CachePadded.{CachePadded}
use Rattle.sgm_base.specs.Disparities.{Disparities}
use Rattle.sgm_strip.specs.Cuts.{CutParts}
use Rattle.sgm_strip.specs.Scenes.{SceneParts, row_length}
use Rattle.sgm_strip.specs.Parcels.{ParcelParts}
use Rattle.sgm_strip.specs.Fronts.{FrontParts}
use Rattle.sgm_board.specs.Boards.{parts_of, scene_of}
use Rattle.sgm_board.specs.Settled.{AreSettled}
use Rattle.sgm_work.specs.Finished.{AreFinished}
use Rattle.sgm_work.specs.declared.matching.Worker.{Worker}
use Rattle.sgm_work.specs.Crews.{AllCanWork, GathersFrom, pass_of}
use Rattle.sgm_work.proofs.Lists.{written_back}
use Rattle.sgm_work.proofs.Crews.{can_work, has_all, same_slice}
use Rattle.sgm_work.proofs.matching.match_all.Goals as goal

pub run_all-requires-clause-can_work : goal.run_all-requires-clause-can_work
run_all-requires-clause-can_work g c κs within =
    let ready = c.requires.ready in
    let board = c.in_ok-board.board in
    let scene = c.in_ok-board.ensures.board ready.0 ready.1 ready.2 in
    let first = c.index-first.result.now in
    let items = c.args.parcels.items in
    let strips = ready.2.strips in
    let here : first.scene ≡ ready.0 = ap (λ (p : ParcelParts). p.scene) c.index-first.ensures
    ∙ (strips.each 0 (slice_index_or items 0 first) (slice_get-get_or items 0 first (omega (arith, strips.all, strips.cut_kept.some)))).same_scene in
    let room : c.size-size.result.width * c.span-span.result.count ≡ row_length (scene_of board) = ap (λ w. w * c.span-span.result.count) c.size-size.ensures.width
    ∙ ap (λ (s : Disparities). first.scene.left.width * s.count) c.span-span.ensures ∙ ap row_length (here ∙ sym scene.0) in
    subst (AllCanWork board) (sym c.as_mut_slice.ensures.value)
    (can_work board c.in_ok-board.passes.items c.in_ok-crew.crew.items c.in_ok-board.ensures.new c.in_ok-crew.ensures.passes (c.size-size.result.width * c.span-span.result.count) c.in_ok-crew.ensures.rooms room)

pub close-parcels-requires-clause-all : goal.close-parcels-requires-clause-all
close-parcels-requires-clause-all g c =
    let whole = parts_of c.gather-pass.result.pass in
    let old = c.in_ok-crew.crew in
    let new = c.run_all.new.crew in
    let same : length new ≡ length old.items = c.run_all.ensures.count ∙ ap length c.as_mut_slice.ensures.value in
    has_all c.in_ok-board.board c.in_ok-board.passes.items old.items c.in_ok-board.ensures.new c.in_ok-crew.ensures.passes new whole
    (omega (arith, c.in_ok-board.passes.ok, c.in_ok-board.ensures.passes.0, c.in_ok-board.ensures.passes.1)) same (same_slice old.items new c.as_mut_slice.result.now c.as_mut_slice.ensures.value c.run_all.ensures.same)
    (subst (All (λ (worker : CachePadded Worker). GathersFrom (parts_of (pass_of worker)) whole)) (written_back old.len new old.items (omega (arith, same, old.ok))) c.gather-pass.ensures.all)

pub returns-clause-finished : goal.returns-clause-finished
returns-clause-finished g c scene cut ready =
    let made = c.in_ok-board.ensures.board scene cut ready in
    let closed = c.close-parcels.ensures.settled in
    let parcels = c.close-parcels.result.0 in
    let fronts = c.close-parcels.result.1 in
    let settled : AreSettled scene cut parcels.items fronts.items =
    subst (λ (s : SceneParts). AreSettled s cut parcels.items fronts.items) made.0 (subst (λ (x : CutParts). AreSettled (scene_of c.in_ok-board.board) x parcels.items fronts.items) made.1 closed) in
    let given : AreSettled scene cut c.as_mut_slice-2.result.now c.as_mut_slice-3.result.now =
    subst (λ (ps : List ParcelParts). AreSettled scene cut ps c.as_mut_slice-3.result.now) (sym c.as_mut_slice-2.ensures.value) (subst (λ (fs : List FrontParts). AreSettled scene cut parcels.items fs) (sym c.as_mut_slice-3.ensures.value) settled) in
    let done : AreFinished scene cut c.finish.new.parcels c.finish.new.fronts = c.finish.ensures.finished scene cut given in
    let all_fronts = take fronts.len (c.finish.new.fronts ++ drop (length c.finish.new.fronts) fronts.items) in
    let one : AreFinished scene cut c.finish.new.parcels all_fronts =
    subst (λ (fs : List FrontParts). AreFinished scene cut c.finish.new.parcels fs) (sym (written_back fronts.len c.finish.new.fronts fronts.items (omega (arith, done.six, settled.six, fronts.ok)))) done in
    subst (λ (ps : List ParcelParts). AreFinished scene cut ps all_fronts) (sym (written_back parcels.len c.finish.new.parcels parcels.items (omega (arith, done.strips.all, settled.strips.all, parcels.ok)))) one

pub returns-clause-complete : goal.returns-clause-complete
returns-clause-complete g c scene cut ready = let all = returns-clause-finished g c scene cut ready in record { cut = cut; strips = all.strips; complete = all.complete }
