use Rattle.std.proofs.Common.{◌≡◌, ℕ, ◌*◌, ◌/◌, ◌∙◌, ◌++◌, ◌∷◌, [], Option, None, map, option_map, take, get_or, sym, ap, subst}
use Rattle.std.proofs.lemmas.List.{length-map, map_push, take_more, take_all}
use Rattle.std.proofs.lemmas.Result.{IfOk-from_err}
use Rattle.sgm_base.specs.Values.{AtMost, IsValues, values_of}
use Rattle.sgm_energy.specs.Pens.{guide_of}
use Rattle.sgm_strip.proofs.guide.Guide.make.Goals as goal

pub grey-requires-clause-value : goal.grey-requires-clause-value
grey-requires-clause-value c =
    subst (AtMost c.args.maxval) (sym c.entries-entry-items.ensures) c.requires.values c.loop-entry.entry-index None c.loop-entry-test.true

pub loop-entry-preserved : goal.loop-entry-preserved
loop-entry-preserved c =
    let xs = c.entries-entry-items.result.now in
    let i = c.loop-entry.entry-index in
    let f : Option ℕ → Option ℕ = option_map (λ v. 255 * v / c.args.maxval) in
    c.in_ok-push.ensures.items
    ∙ ap (λ e. c.loop-entry.entries.items ++ e ∷ []) c.grey.ensures
    ∙ ap (λ es. es ++ f (get_or xs i None) ∷ []) c.loop-entry.invariant
    ∙ sym (ap (map f) (take_more xs i None c.loop-entry-test.true) ∙ map_push f (take i xs) (get_or xs i None))

-- the entries once all are made
entries_are : (c : goal.In_ok-entries-2) → c.loop-entry.entries.items ≡ map (option_map (λ v. 255 * v / c.args.maxval)) c.args.plane.now.entries
entries_are c =
    let f : Option ℕ → Option ℕ = option_map (λ v. 255 * v / c.args.maxval) in
    c.loop-entry.invariant ∙ ap (map f) (take_all c.loop-entry.entry-index c.entries-entry-items.result.now c.loop-entry-test.false ∙ c.entries-entry-items.ensures)

pub returns : goal.returns
returns c =
    let width = c.size-size.result.width in
    let height = c.size-size.result.height in
    let guide = guide_of c.args.plane.now c.args.maxval in
    ap (λ v. values_of width height v.items) c.in_ok-entries-2.ensures.ok
    ∙ ap (λ es. values_of width height es) (entries_are c)
    ∙ ap (λ w. values_of w height guide.entries) c.size-size.ensures.width
    ∙ ap (λ h. values_of guide.width h guide.entries) c.size-size.ensures.height

pub invariant_of-result : goal.invariant_of-result
invariant_of-result c =
    let plane = c.args.plane.now in
    let kept = c.size-size.ensures.kept in
    let made : IsValues (guide_of plane c.args.maxval) = record {
      width_in_range = kept.width_in_range;
      height_in_range = kept.height_in_range;
      full = length-map plane.entries (option_map (λ v. 255 * v / c.args.maxval)) ∙ kept.full;
    } in
    subst IsValues (sym (returns c)) made

pub returns-in_err-push : goal.returns-in_err-push
returns-in_err-push c = IfOk-from_err _ _ c.from_residual-in_err-push.ensures.0

pub returns-in_err-entries-2 : goal.returns-in_err-entries-2
returns-in_err-entries-2 c = IfOk-from_err _ _ c.from_residual-in_err-entries-2.ensures.0
