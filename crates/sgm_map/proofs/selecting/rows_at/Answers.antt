use Rattle.std.proofs.Common.{◌≡◌, ◌<◌, ◌∙◌, ℕ, List, length, get_or, Some, Result, Ok, Err, sym, ap, subst}
use Rattle.std.specs.Prelude.{IfOk, IfSome}
use Rattle.std.specs.Result.{result_ok}
use Rattle.std.proofs.lemmas.List.Elements.{All-get_or}
use Rattle.std.proofs.lemmas.Option.{slice_get-get_or}
use Rattle.sgm_base.specs.Values.{Values}
use Rattle.sgm_strip.specs.Cuts.{CutParts}
use Rattle.sgm_strip.specs.Parcels.{ParcelParts, IsComplete}
use Rattle.sgm_strip.specs.Scenes.{SceneParts, problem_of}
use Rattle.sgm_strip.specs.Strips.{AreComplete, AreStrips, IsStripOf}
use Rattle.sgm_select.specs.Selection.{disparities_of}
use Rattle.sgm_select.specs.Strips.{rows_of_strip}
use Rattle.sgm_map.specs.Selecting.{AreSelected}
use Rattle.sgm_map.proofs.selecting.rows_at.Goals as goal

strip_at : (scene : SceneParts) (cut : CutParts) (parcels : List ParcelParts) (strip : ℕ) (parcel : ParcelParts) → AreStrips scene cut parcels → strip < length parcels
    → parcel ≡ get_or parcels strip parcel → IsStripOf scene cut strip parcel
strip_at scene cut parcels strip parcel are inside is =
    are.each strip parcel (slice_get-get_or parcels strip parcel inside ∙ ap (λ (p : ParcelParts). Some p) (sym is))

-- of complete parcels each has the scene of them all
one_scene : (scene : SceneParts) (parcels : List ParcelParts) (strip : ℕ) (parcel : ParcelParts) → AreComplete scene parcels → strip < length parcels
    → parcel ≡ get_or parcels strip parcel → parcel.scene ≡ scene
one_scene scene parcels strip parcel all inside is = (strip_at scene all.cut parcels strip parcel all.strips inside is).same_scene

same_rows : (scene : SceneParts) (cut : CutParts) (left right : Values) (strip : ℕ) (parcel : ParcelParts) → IsStripOf scene cut strip parcel
    → rows_of_strip (disparities_of (problem_of parcel.scene) left right parcel.scene.span.first) parcel.cut parcel.strip ≡ rows_of_strip (disparities_of (problem_of scene) left right scene.span.first) cut strip
same_rows scene cut left right strip parcel is =
    ap (λ (s : SceneParts). rows_of_strip (disparities_of (problem_of s) left right s.span.first) parcel.cut parcel.strip) is.same_scene
    ∙ ap (λ (k : CutParts). rows_of_strip (disparities_of (problem_of scene) left right scene.span.first) k parcel.strip) is.same_cut
    ∙ ap (λ n. rows_of_strip (disparities_of (problem_of scene) left right scene.span.first) cut n) is.same_strip

if_ok_some : {V E : Type 0} {P Q : V → Type 0} (r : Result V E) → ((v : V) → P v → Q v) → IfOk r P → IfSome (result_ok r) Q
if_ok_some (Ok v) f h = f v h
if_ok_some (Err e) f h = tt

pub select_strip-requires-clause-left_width : goal.select_strip-requires-clause-left_width
select_strip-requires-clause-left_width c =
    c.args.planes.now.left_width
    ∙ sym (ap (λ (s : SceneParts). s.left.width) (one_scene c.args.planes.now.scene c.args.parcels.now c.args.strip c.index-parcels-strip.result c.requires.complete c.requires.strip c.index-parcels-strip.is))

pub select_strip-requires-clause-left_height : goal.select_strip-requires-clause-left_height
select_strip-requires-clause-left_height c =
    c.args.planes.now.left_height
    ∙ sym (ap (λ (s : SceneParts). s.left.height) (one_scene c.args.planes.now.scene c.args.parcels.now c.args.strip c.index-parcels-strip.result c.requires.complete c.requires.strip c.index-parcels-strip.is))

pub select_strip-requires-clause-right_width : goal.select_strip-requires-clause-right_width
select_strip-requires-clause-right_width c =
    c.args.planes.now.right_width
    ∙ sym (ap (λ (s : SceneParts). s.left.width) (one_scene c.args.planes.now.scene c.args.parcels.now c.args.strip c.index-parcels-strip.result c.requires.complete c.requires.strip c.index-parcels-strip.is))

pub select_strip-requires-clause-right_height : goal.select_strip-requires-clause-right_height
select_strip-requires-clause-right_height c =
    c.args.planes.now.right_height
    ∙ sym (ap (λ (s : SceneParts). s.left.height) (one_scene c.args.planes.now.scene c.args.parcels.now c.args.strip c.index-parcels-strip.result c.requires.complete c.requires.strip c.index-parcels-strip.is))

pub select_strip-requires-clause-complete : goal.select_strip-requires-clause-complete
select_strip-requires-clause-complete c =
    let parcel = c.index-parcels-strip.result in
    subst (λ (p : ParcelParts). IsComplete p.done) (sym c.index-parcels-strip.is)
    (All-get_or (λ (p : ParcelParts). IsComplete p.done) c.args.parcels.now c.args.strip parcel c.requires.strip c.requires.complete.complete)

pub returns : goal.returns
returns c =
    let planes = c.args.planes.now in
    let parcels = c.args.parcels.now in
    let parcel = c.index-parcels-strip.result in
    subst (λ o. IfSome o (λ v. AreSelected planes.scene planes.left planes.right parcels c.args.strip v.items)) (sym c.ok.ensures.value)
    (if_ok_some c.select_strip.result
    (λ v e. record {
      each = λ cut are.
          e ∙ same_rows planes.scene cut planes.left planes.right c.args.strip parcel (strip_at planes.scene cut parcels c.args.strip parcel are c.requires.strip c.index-parcels-strip.is);
    })
    c.select_strip.ensures.exact)
