use Rattle.std.proofs.Common.{◌≡◌, ℕ, ◌<◌, ◌≤◌, ◌+◌, ◌∙◌, length, get_or, Some, sym, ap, subst, inl, inr, arith, get_or-set_same, get_or-set_other}
use Rattle.std.specs.Prelude.{slice_get, slice_index_or}
use Rattle.std.proofs.lemmas.Bool.{cases_eq}
use Rattle.std.proofs.lemmas.Option.{slice_get-get_or}
use Rattle.sgm_strip.specs.Cuts.{CutParts}
use Rattle.sgm_strip.specs.Scenes.{row_length}
use Rattle.sgm_strip.specs.Fronts.{FrontParts}
use Rattle.sgm_work.specs.Finished.{GoesOnBy, HasVisitedAll}
use Rattle.sgm_work.proofs.Lists.{any_default, get_set, zip_places}
use Rattle.sgm_work.proofs.Ending.{done_first, finished, front_is, front_strips, settled_more}
use Rattle.sgm_work.proofs.finishing.finish.Goals as goal

pub finish_front-requires-clause-strips : goal.finish_front-requires-clause-strips
finish_front-requires-clause-strips c =
    let given = c.requires.settled in
    let k = c.loop-front.front-index in
    let now = c.loop-front.invariant.settled given.scene given.cut given.settled in
    front_strips given.scene given.cut c.loop-front.parcels c.loop-front.fronts now k _ (omega (arith, now.six, c.loop-front-test.true, c.loop-front.auto.fronts)) (slice_get-get_or c.loop-front.fronts k c.front-item.result (omega (arith, c.loop-front-test.true, c.loop-front.auto.fronts)))

pub finish_front-requires-clause-done : goal.finish_front-requires-clause-done
finish_front-requires-clause-done c =
    let given = c.requires.settled in
    let k = c.loop-front.front-index in
    let now = c.loop-front.invariant.settled given.scene given.cut given.settled in
    done_first given.scene given.cut c.loop-front.parcels c.loop-front.fronts now k _ (omega (arith, now.six, c.loop-front-test.true, c.loop-front.auto.fronts)) (slice_get-get_or c.loop-front.fronts k c.front-item.result (omega (arith, c.loop-front-test.true, c.loop-front.auto.fronts)))

pub finish_front-requires-clause-spare : goal.finish_front-requires-clause-spare
finish_front-requires-clause-spare c =
    let given = c.requires.settled in
    let k = c.loop-front.front-index in
    let now = c.loop-front.invariant.settled given.scene given.cut given.settled in
    let is = front_is given.scene given.cut c.loop-front.parcels c.loop-front.fronts now k _ (omega (arith, now.six, c.loop-front-test.true, c.loop-front.auto.fronts)) (slice_get-get_or c.loop-front.fronts k c.front-item.result (omega (arith, c.loop-front-test.true, c.loop-front.auto.fronts))) in
    c.loop-front.invariant.spare ∙ given.fits ∙ ap row_length (sym is.same_scene)

pub loop-front-preserved : goal.loop-front-preserved
loop-front-preserved c =
    let inv = c.loop-front.invariant in
    let k = c.loop-front.front-index in
    let fronts = c.loop-front.fronts in
    let old = slice_index_or fronts k c.front-item.result in
    let new = c.finish_front.new.front in
    let did = c.finish_front.ensures in
    let inside : k < length fronts = omega (arith, c.loop-front-test.true, c.loop-front.auto.fronts) in
    let at : slice_get fronts k ≡ Some old = slice_get-get_or fronts k c.front-item.result inside in
    record {
      spare = did.spare ∙ inv.spare;
      settled = λ scene cut was. let now = inv.settled scene cut was in
          settled_more scene cut c.loop-front.parcels fronts now k old new c.finish_front.new.parcels (omega (arith, now.six, inside)) at did.strips did.done did.others did.front.same.same_scene did.front.same.same_cut did.front.same.same_dir did.front.visited;
      visited = λ scene cut was j front hj e. let now = inv.settled scene cut was in elim (get_set fronts k new j front e) [
        | inl same ↦ subst (HasVisitedAll cut) (sym same.1) (subst (λ (x : CutParts). HasVisitedAll x new) (front_is scene cut c.loop-front.parcels fronts now k old (omega (arith, now.six, inside)) at).same_cut did.front.visited)
        | inr other ↦ inv.visited scene cut was j front (omega (arith, other.0)) other.1
      ];
      goes_on = λ j d hj. elim (cases_eq j k) [
        | inl same ↦ (let here : slice_index_or c.args.fronts.now j d ≡ old = sym (inv.rest j d (omega (arith, same))) ∙ ap (λ n. get_or fronts n d) same ∙ any_default fronts k d c.front-item.result inside in
            subst (λ (x : FrontParts). GoesOnBy 16 (slice_index_or c.args.fronts.now j d) x) (sym (ap (λ n. get_or (Rattle.std.proofs.Common.set fronts k new) n d) same ∙ get_or-set_same fronts k new d inside))
            (subst (λ (x : FrontParts). GoesOnBy 16 x new) (sym here) did.front.goes_on))
        | inr other ↦ subst (λ (x : FrontParts). GoesOnBy 16 (slice_index_or c.args.fronts.now j d) x) (sym (get_or-set_other fronts k j new d other)) (inv.goes_on j d (omega (arith, other)))
      ];
      rest = λ j d hj. get_or-set_other fronts k j new d (λ e. omega arith) ∙ inv.rest j d (omega arith);
    }

pub returns-clause-finished : goal.returns-clause-finished
returns-clause-finished c scene cut was =
    let inv = c.loop-front.invariant in
    finished scene cut c.loop-front.parcels c.loop-front.fronts (inv.settled scene cut was)
    (λ k d h. inv.visited scene cut was k (get_or c.loop-front.fronts k d) (omega (arith, h, c.loop-front-test.false, c.loop-front.auto.fronts)) (slice_get-get_or c.loop-front.fronts k d h))

pub returns-clause-complete : goal.returns-clause-complete
returns-clause-complete c scene cut was = let all = returns-clause-finished c scene cut was in record { cut = cut; strips = all.strips; complete = all.complete }

pub returns-clause-goes_on : goal.returns-clause-goes_on
returns-clause-goes_on c =
    zip_places (GoesOnBy 16) c.args.fronts.now c.loop-front.fronts (sym c.loop-front.auto.fronts)
    (λ k d e h. subst (λ (x : FrontParts). GoesOnBy 16 (get_or c.args.fronts.now k d) x) (any_default c.loop-front.fronts k d e (omega (arith, h, c.loop-front.auto.fronts)))
    (c.loop-front.invariant.goes_on k d (omega (arith, h, c.loop-front-test.false, c.loop-front.auto.fronts))))
