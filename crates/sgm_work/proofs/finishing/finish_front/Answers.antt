use Rattle.std.proofs.Common.{◌≡◌, ◌<◌, ◌∙◌, length, ap, subst, arith}
use Rattle.std.specs.Prelude.{slice_index_or, true}
use Rattle.std.proofs.lemmas.List.{length_push}
use Rattle.std.proofs.lemmas.Option.{slice_get-get_or}
use Rattle.sgm_energy.specs.Dirs.{position_of, strip_at}
use Rattle.sgm_energy.proofs.DirLemmas.{position_inside}
use Rattle.sgm_strip.specs.Cuts.{CutParts}
use Rattle.sgm_strip.specs.Fronts.{FrontParts, visit_of}
use Rattle.sgm_strip.specs.Parcels.{ParcelParts, is_done, with_done}
use Rattle.sgm_strip.specs.Strips.{IsStripOf}
use Rattle.sgm_strip.proofs.Sets.{done_with}
use Rattle.sgm_work.specs.Left.{IsDoneFirst}
use Rattle.sgm_work.proofs.Handing.{done_more, goes_more, not_yet, others_more, strip_is, strips_set}
use Rattle.sgm_work.proofs.finishing.finish_front.Goals as goal

pub pass-requires-clause-left : goal.pass-requires-clause-left
pass-requires-clause-left c =
    let cut = c.args.front.now.cut in
    let dir = c.args.front.now.dir in
    let k = c.loop-position.position in
    let s = c.position-strip.result in
    let item = slice_index_or c.loop-position.parcels s c.index-parcels-strip.result in
    let h : k < cut.strips = omega (arith, c.requires.strips.all, c.loop-position-test.true) in
    let at : s ≡ position_of dir k cut.strips = c.position-strip.ensures ∙ ap (λ d. position_of d k (length c.args.parcels.now)) c.dir-dir.ensures.value ∙ ap (λ n. position_of dir k n) c.requires.strips.all in
    ap (λ d. is_done item.done d) c.loop-position.invariant.dir
    ∙ not_yet dir cut.strips k s c.index-parcels-strip.result c.loop-position.parcels c.loop-position.invariant.done c.loop-position.invariant.strips.all at h

pub loop-position-preserved : goal.loop-position-preserved
loop-position-preserved c =
    let inv = c.loop-position.invariant in
    let scene = c.args.front.now.scene in
    let cut = c.args.front.now.cut in
    let dir = c.args.front.now.dir in
    let k = c.loop-position.position in
    let s = c.position-strip.result in
    let item = slice_index_or c.loop-position.parcels s c.index-parcels-strip.result in
    let h : k < cut.strips = omega (arith, c.requires.strips.all, c.loop-position-test.true) in
    let at : s ≡ position_of dir k cut.strips = c.position-strip.ensures ∙ ap (λ d. position_of d k (length c.args.parcels.now)) c.dir-dir.ensures.value ∙ ap (λ n. position_of dir k n) c.requires.strips.all in
    let fits : s < cut.strips = omega (arith, at, position_inside dir k cut.strips h) in
    let is : IsStripOf scene cut s item = strip_is scene cut c.loop-position.parcels s c.index-parcels-strip.result inv.strips fits in
    let new = c.pass.new.parcel in
    let passed : IsStripOf scene cut s new = record {
      same_scene = ap (λ (p : ParcelParts). p.scene) c.pass.ensures.parcel ∙ is.same_scene;
      same_cut = ap (λ (p : ParcelParts). p.cut) c.pass.ensures.parcel ∙ is.same_cut;
      same_strip = ap (λ (p : ParcelParts). p.strip) c.pass.ensures.parcel ∙ is.same_strip;
    } in
    let visits = ap (λ (f : FrontParts). f.visits) c.pass.ensures.front in
    record {
      strips = strips_set scene cut c.loop-position.parcels s new inv.strips passed;
      scene = ap (λ (f : FrontParts). f.scene) c.pass.ensures.front ∙ inv.scene;
      cut = ap (λ (f : FrontParts). f.cut) c.pass.ensures.front ∙ inv.cut;
      dir = ap (λ (f : FrontParts). f.dir) c.pass.ensures.front ∙ inv.dir;
      kept = c.pass.ensures.front_kept;
      visits = ap length visits ∙ length_push c.loop-position.front.visits (visit_of item.strip 16) ∙ omega (arith, inv.visits);
      spare = c.pass.ensures.spare ∙ inv.spare;
      done = done_more dir cut.strips k s new c.loop-position.parcels inv.done inv.strips.all at h
          (subst (λ d. is_done new.done d ≡ true) inv.dir
          (done_with item.done new.done c.loop-position.front.dir
          (ap (λ (p : ParcelParts). p.done) c.pass.ensures.parcel)
          c.pass.ensures.parcel_kept.directions));
      others = others_more dir s item new c.args.parcels.now c.loop-position.parcels inv.others (slice_get-get_or c.loop-position.parcels s c.index-parcels-strip.result (omega (arith, inv.strips.all, fits)))
          (subst (λ d. new.done ≡ with_done item.done d) inv.dir (ap (λ (p : ParcelParts). p.done) c.pass.ensures.parcel));
      goes_on = goes_more 16 item.strip c.args.front.now c.loop-position.front c.pass.new.front inv.goes_on visits;
    }

pub returns-clause-front : goal.returns-clause-front
returns-clause-front c =
    let inv = c.loop-position.invariant in
    let dir = c.loop-position.front.dir in
    let end : c.loop-position.position ≡ c.args.front.now.cut.strips = omega (arith, c.requires.strips.all, c.loop-position-test.false, c.loop-position.auto.position-end, c.next-position.ensures.most) in
    record {
      same = record { same_scene = inv.scene; same_cut = inv.cut; same_dir = inv.dir };
      visited = record { all = inv.visits ∙ end; in_order = λ position visit at. inv.kept.in_order position visit at ∙ ap (λ (cut : CutParts). strip_at dir position cut.strips) inv.cut };
      goes_on = inv.goes_on;
    }

pub returns-clause-done : goal.returns-clause-done
returns-clause-done c =
    let end : c.loop-position.position ≡ c.args.front.now.cut.strips = omega (arith, c.requires.strips.all, c.loop-position-test.false, c.loop-position.auto.position-end, c.next-position.ensures.most) in
    subst (λ k. IsDoneFirst c.args.front.now.dir c.args.front.now.cut.strips k c.loop-position.parcels) end c.loop-position.invariant.done
