use Rattle.std.proofs.Common.{◌≡◌, ℕ, ◌+◌, [], ◌∷◌, ◌++◌, ◌∙◌, List, length, length-append, All, Some, sym, ap, subst, arith}
use Rattle.std.specs.Prelude.{slice_get}
use Rattle.sgm_strip.specs.Parcels.{IsOf, ParcelParts, level_done}
use Rattle.sgm_strip.specs.Strips.{IsStripOf}
use Rattle.sgm_board.proofs.Getting.{each-push, All-push}
use Rattle.sgm_board_tests.proofs.tests.making.parcels_of.Goals as goal

pub loop-strip-preserved : goal.loop-strip-preserved
loop-strip-preserved c =
    let old = c.loop-strip.parcels.items in
    let inv = c.loop-strip.invariant in
    let parcel = c.in_ok-parcel.parcel in
    let made = c.in_ok-parcel.ensures.made in
    let fits = IsStripOf c.args.scene.now c.args.cut in
    let is : fits c.loop-strip.strip parcel = record {
      same_scene = ap (λ (p : ParcelParts). p.scene) made;
      same_cut = ap (λ (p : ParcelParts). p.cut) made;
      same_strip = ap (λ (p : ParcelParts). p.strip) made;
    } in
    let items : c.push.new.self.items ≡ old ++ parcel ∷ [] = c.in_ok-push.ensures.items in
    record {
      all = ap length items ∙ (length-append old (parcel ∷ []) ∙ omega (arith, inv.all));
      each = subst (λ (v : List ParcelParts). (s : ℕ) (p : ParcelParts) → slice_get v s ≡ Some p → fits s p) (sym items) (each-push fits old parcel c.loop-strip.strip inv.all inv.each is);
      level = subst (All (λ p. p.done ≡ level_done)) (sym items) (All-push (λ p. p.done ≡ level_done) old parcel inv.level (ap (λ (p : ParcelParts). p.done) made));
      kind = subst (All (IsOf c.args.scene.now c.args.cut)) (sym items) (All-push (IsOf c.args.scene.now c.args.cut) old parcel inv.kind (is.same_scene, is.same_cut));
    }
