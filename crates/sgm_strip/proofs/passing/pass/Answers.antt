use Rattle.std.proofs.Common.{◌≡◌, ◌≤◌, ◌∙◌, ◌+◌, ◌-◌, ◌*◌, ◌++◌, ◌∷◌, [], List, length, true, not, ◌==◌, vec_len, slice_set, sym, ap, subst, arith}
use Rattle.std.specs.Prelude.{All}
use Rattle.std.proofs.lemmas.List.{with_items_is}
use Rattle.sgm_base.specs.declared.limits.TheConstants.{MAX_COST}
use Rattle.sgm_base.specs.Disparities.{Disparities}
use Rattle.sgm_base.specs.Values.{Values}
use Rattle.sgm_energy.specs.Energies.{path_value, sum_done}
use Rattle.sgm_energy.specs.Pens.{penalties_of}
use Rattle.sgm_energy.specs.Rows.{HoldsRow}
use Rattle.sgm_strip.specs.Cuts.{rows_of}
use Rattle.sgm_strip.specs.Scenes.{problem_of, row_length}
use Rattle.sgm_strip.specs.Parcels.{ParcelParts, IsParcel, is_done, parcel_of, with_done}
use Rattle.sgm_strip.specs.Fronts.{IsFront, front_parts, visit_of}
use Rattle.sgm_strip.specs.Passing.{visited}
use Rattle.sgm_strip.specs.Volumes.{HoldsRows}
use Rattle.sgm_strip.specs.declared.front.Visit.{Visit}
use Rattle.sgm_strip.proofs.Passed.{entered, front_here, met, parcel_here, parcel_rows}
use Rattle.sgm_strip.proofs.Passed.{passed_front, passed_parcel, room, rows_inside, whole_rows}
use Rattle.sgm_strip.proofs.passing.pass.Goals as goal

pub invariant_of-strip : goal.invariant_of-strip
invariant_of-strip c =
    let p = c.parcel.inside in
    let scene = p.scene.value in
    let kp = c.parcel.invariant.0 in
    let count : c.span.inside.count ≡ scene.span.count =
    ap (λ (s : Disparities). s.count) (c.span.view_is ∙ c.span-span.ensures) ∙ ap (λ (q : ParcelParts). q.scene.span.count) (sym c.parcel.view_is) in
    let wide : p.guide.width ≡ scene.left.width = ap (λ (v : Values). v.width) c.parcel.invariant.1.same_guide ∙ kp.scene_kept.guide_width in
    let row : p.guide.width * c.span.inside.count ≡ row_length scene = ap (λ w. w * c.span.inside.count) wide ∙ ap (λ n. scene.left.width * n) count in
    let long : length c.deref.result.now ≡ rows_of p.cut p.strip * row_length scene = ap length c.deref.ensures.value ∙ kp.costs_held.whole in
    record {
      count_range = (omega (arith, count, kp.scene_kept.count_in_range), omega (arith, count, kp.scene_kept.count_in_range));
      some = omega (arith, wide, kp.scene_kept.left_kept.width_in_range);
      rows = whole_rows (length c.deref.result.now) (rows_of p.cut p.strip) (p.guide.width * c.span.inside.count) (row_length scene) long row;
      inside = omega (
        arith,
        parcel_rows scene p.cut p.strip p.done p.costs.items p.sums.items kp (p.guide.width * c.span.inside.count) (length c.deref.result.now) row (ap length c.deref.ensures.value),
        rows_inside scene p.cut p.strip p.done p.costs.items p.sums.items kp,
        c.first.ensures.row,
        ap (λ (v : Values). v.height) c.parcel.invariant.1.same_guide,
        kp.scene_kept.guide_height,
      );
      low = subst (All (λ v. v ≤ MAX_COST)) (sym c.deref.ensures.value) kp.costs_low;
    }

pub pass_rows-requires-clause-room : goal.pass_rows-requires-clause-room
pass_rows-requires-clause-room c i h =
    let p = c.parcel.inside in
    let f = c.front.inside in
    let m =
    met f.scene.value p.scene.value f.cut p.cut p.strip p.done p.costs.items c.deref.result.now
    p.sums.items c.as_mut_slice-3.result.now f.dir f.row.items c.as_mut_slice.result.now
    f.visits.items c.args.parcel.now c.args.front.now c.parcel.view_is c.front.view_is
    c.requires.next c.requires.left c.parcel.invariant.0 c.front.invariant.0
    c.deref.ensures.value c.as_mut_slice-3.ensures.value c.as_mut_slice.ensures.value in
    omega (
      arith,
      room p.scene.value p.cut p.strip p.done c.deref.result.now c.as_mut_slice-3.result.now
          m.parcel f.dir m.left i h,
    )

pub invariant_of-parcel : goal.invariant_of-parcel
invariant_of-parcel c =
    let p = c.parcel.inside in
    let f = c.front.inside in
    let scene = p.scene.value in
    let m =
    met f.scene.value scene f.cut p.cut p.strip p.done p.costs.items c.deref.result.now
    p.sums.items c.as_mut_slice-3.result.now f.dir f.row.items c.as_mut_slice.result.now
    f.visits.items c.args.parcel.now c.args.front.now c.parcel.view_is c.front.view_is
    c.requires.next c.requires.left c.parcel.invariant.0 c.front.invariant.0
    c.deref.ensures.value c.as_mut_slice-3.ensures.value c.as_mut_slice.ensures.value in
    let count : c.span.inside.count ≡ scene.span.count =
    ap (λ (s : Disparities). s.count) (c.span.view_is ∙ c.span-span.ensures)
    ∙ ap (λ (q : ParcelParts). q.scene.span.count) (sym c.parcel.view_is) in
    let none : vec_len f.visits ≡ length f.visits.items = omega arith in
    let e =
    entered scene p.cut p.strip p.done c.deref.result.now c.as_mut_slice-3.result.now f.dir
    c.as_mut_slice.result.now f.visits.items c.first.result (penalties_of p.pen) p.guide
    c.span.inside.count (not c.is_empty.result) m c.first.ensures.row
    c.parcel.invariant.1.same_penalties c.parcel.invariant.1.same_guide count
    (ap not (c.is_empty.ensures ∙ ap (λ n. n == 0) none)) in
    let new = c.pass_rows.new.sums in
    let top = c.first.ensures.row in
    let g = problem_of scene in
    let rows = rows_of p.cut p.strip in
    let before =
    subst (λ t. HoldsRows g t rows (sum_done (is_done p.done) g) c.as_mut_slice-3.result.now)
    (sym top) m.parcel.sums_held in
    let held =
    subst
    (λ t. HoldsRows g t rows
    (λ q d. sum_done (is_done p.done) g q d + path_value g f.dir q d) new) top
    (c.pass_rows.ensures.sums g rows (sum_done (is_done p.done) g) e.suits e.some e.comes before) in
    let made : IsParcel (parcel_of scene p.cut p.strip (with_done p.done f.dir) c.deref.result.now new) =
    passed_parcel scene p.cut p.strip p.done c.deref.result.now c.as_mut_slice-3.result.now m.parcel
    f.dir new m.left held in (
      parcel_here scene p.cut p.strip _ (with_done p.done f.dir) p.costs.items c.deref.result.now _
          new (ap (λ n. slice_set p.done n true) (sym c.place.ensures.value)) c.deref.ensures.value
          (sym (with_items_is p.sums new
          (omega (arith, c.pass_rows.auto.sums, c.as_mut_slice-3.ensures.len)))) made,
      c.parcel.invariant.1,
    )

pub invariant_of-front : goal.invariant_of-front
invariant_of-front c =
    let p = c.parcel.inside in
    let f = c.front.inside in
    let scene = p.scene.value in
    let row = c.as_mut_slice.result.now in
    let m =
    met f.scene.value scene f.cut p.cut p.strip p.done p.costs.items c.deref.result.now
    p.sums.items c.as_mut_slice-3.result.now f.dir f.row.items row f.visits.items
    c.args.parcel.now c.args.front.now c.parcel.view_is c.front.view_is
    c.requires.next c.requires.left c.parcel.invariant.0 c.front.invariant.0
    c.deref.ensures.value c.as_mut_slice-3.ensures.value c.as_mut_slice.ensures.value in
    let count : c.span.inside.count ≡ scene.span.count =
    ap (λ (s : Disparities). s.count) (c.span.view_is ∙ c.span-span.ensures)
    ∙ ap (λ (q : ParcelParts). q.scene.span.count) (sym c.parcel.view_is) in
    let none : vec_len f.visits ≡ length f.visits.items = omega arith in
    let e =
    entered scene p.cut p.strip p.done c.deref.result.now c.as_mut_slice-3.result.now f.dir
    row f.visits.items c.first.result (penalties_of p.pen) p.guide
    c.span.inside.count (not c.is_empty.result) m c.first.ensures.row
    c.parcel.invariant.1.same_penalties c.parcel.invariant.1.same_guide count
    (ap not (c.is_empty.ensures ∙ ap (λ n. n == 0) none)) in
    let new = c.pass_rows.new.last in
    let g = problem_of scene in
    let rows = rows_of p.cut p.strip in
    let visits : List Visit = f.visits.items ++ visit_of p.strip c.args.worker ∷ [] in
    let held =
    subst (λ t. HoldsRow g (t + visited f.dir rows (rows - 1)) (path_value g f.dir) new)
    c.first.ensures.row (c.pass_rows.ensures.last g rows e.suits e.some e.comes) in
    let made : IsFront (front_parts scene p.cut f.dir new visits) =
    passed_front scene p.cut p.strip p.done c.deref.result.now c.as_mut_slice-3.result.now m.parcel
    f.dir row f.visits.items m.front m.next c.args.worker new c.pass_rows.auto.last
    c.pass_rows.ensures.bound held in (
      subst (λ r. IsFront (front_parts f.scene.value f.cut f.dir r c.push_reserved.new.self.items))
          (sym (with_items_is f.row new
          (omega (arith, c.pass_rows.auto.last, c.as_mut_slice.ensures.len))))
          (subst (λ v. IsFront (front_parts f.scene.value f.cut f.dir new v))
          (sym c.push_reserved.ensures.items)
          (front_here f.scene.value scene f.cut p.cut f.dir new visits
          (sym m.same_scene) (sym m.same_cut) made)),
      omega (arith, c.push_reserved.ensures.capacity, c.front.invariant.1),
    )

pub returns-clause-parcel_kept : goal.returns-clause-parcel_kept
returns-clause-parcel_kept c = (invariant_of-parcel c).0

pub returns-clause-front_kept : goal.returns-clause-front_kept
returns-clause-front_kept c = (invariant_of-front c).0
