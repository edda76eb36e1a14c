use Rattle.std.proofs.Common.{rules, ◌≡◌, ℤ, ◌≤ℤ◌, Bool, true, false, if◌then◌else◌, Ok, Err, w64, sym, ap, ◌∙◌, subst}
use Rattle.std.specs.Result.{result_err}
use Rattle.std.proofs.lemmas.Int.{to_z-of_z}
use Rattle.std.proofs.lemmas.Result.{err_from_is_err_and}
use Rattle.serde_json.specs.Data.{Data}
use Rattle.serde_json.specs.View.{view}
use Rattle.sgm_calib.specs.declared.keys.CalibFault.{CalibFault}
use Rattle.sgm_calib.specs.declared.keys.CalibFault.TheVariants.{Range}
use Rattle.sgm_calib.specs.declared.place.Place.{Place}
use Rattle.sgm_calib.specs.Rows.{Row, whole, key_at, least, greatest, is_in_range, meant}
use Rattle.sgm_calib.specs.Checks.{typed_in, or_out_of_range, number_in}
use Rattle.sgm_calib.proofs.Numbers.{from_to}
use Rattle.sgm_calib.proofs.checks.odd_or_whole.Goals as goal

untyped : (place : Place) (d : Data) (row : Row) (fault : CalibFault) → Err fault ≡ typed_in whole place d row → Err fault ≡ number_in place d row
unfolding number_in
untyped place d row fault typed = ap (or_out_of_range (Range (key_at place row)) (is_in_range row.form place d)) typed

inside : (place : Place) (d : Data) (row : Row) (z : ℤ) → Ok z ≡ typed_in whole place d row → is_in_range row.form place d z ≡ true → Ok z ≡ number_in place d row
unfolding number_in
inside place d row z typed range =
    sym (ap (λ (b : Bool). if b then Ok z else Err (Range (key_at place row))) range)
    ∙ ap (or_out_of_range (Range (key_at place row)) (is_in_range row.form place d)) typed

outside : (place : Place) (d : Data) (row : Row) (z : ℤ) → Ok z ≡ typed_in whole place d row → is_in_range row.form place d z ≡ false → Err (Range (key_at place row)) ≡ number_in place d row
unfolding number_in
outside place d row z typed range =
    sym (ap (λ (b : Bool). if b then Ok z else Err (Range (key_at place row))) range)
    ∙ ap (or_out_of_range (Range (key_at place row)) (is_in_range row.form place d)) typed

pub returns-in_err-whole-clause-exact : goal.returns-in_err-whole-clause-exact
returns-in_err-whole-clause-exact c =
    let p = err_from_is_err_and c.from_residual.result c.from_residual.ensures.1 in
    rw (p.1, p.2) (untyped c.args.place (view c.args.object.now) (meant c.args.row.now) _ c.in_err-whole.ensures.exact)

pub returns-then-is_in_range-clause-exact : goal.returns-then-is_in_range-clause-exact
returns-then-is_in_range-clause-exact c =
    let d = view c.args.object.now in
    let row = meant c.args.row.now in
    let z = c.in_ok-whole.whole in
    let kept = to_z-of_z w64 z (search rules) in
    ap (λ (n : ℤ). Ok n) kept
    ∙ inside c.args.place d row z c.in_ok-whole.ensures.exact (ap (is_in_range row.form c.args.place d) (sym kept) ∙ sym c.is_in_range.ensures ∙ c.if-is_in_range.true)

pub returns-then-is_in_range-clause-low : goal.returns-then-is_in_range-clause-low
returns-then-is_in_range-clause-low c =
    let d = view c.args.object.now in
    let row = meant c.args.row.now in
    let z = c.in_ok-whole.whole in
    let kept = to_z-of_z w64 z (search rules) in
    let exact = inside c.args.place d row z c.in_ok-whole.ensures.exact (ap (is_in_range row.form c.args.place d) (sym kept) ∙ sym c.is_in_range.ensures ∙ c.if-is_in_range.true) in
    subst (λ (n : ℤ). least row.form d ≤ℤ n) (c.in_ok-whole.ensures.value ∙ sym kept) (from_to c.args.place d row (ap result_err (sym exact))).0

pub returns-then-is_in_range-clause-high : goal.returns-then-is_in_range-clause-high
returns-then-is_in_range-clause-high c =
    let d = view c.args.object.now in
    let row = meant c.args.row.now in
    let z = c.in_ok-whole.whole in
    let kept = to_z-of_z w64 z (search rules) in
    let exact = inside c.args.place d row z c.in_ok-whole.ensures.exact (ap (is_in_range row.form c.args.place d) (sym kept) ∙ sym c.is_in_range.ensures ∙ c.if-is_in_range.true) in
    subst (λ (n : ℤ). n ≤ℤ greatest row.form c.args.place d) (c.in_ok-whole.ensures.value ∙ sym kept) (from_to c.args.place d row (ap result_err (sym exact))).1

pub returns-else-is_in_range-clause-exact : goal.returns-else-is_in_range-clause-exact
returns-else-is_in_range-clause-exact c =
    let d = view c.args.object.now in
    let row = meant c.args.row.now in
    let z = c.in_ok-whole.whole in
    let kept = to_z-of_z w64 z (search rules) in
    ap (λ k. Err (Range k)) c.key_at.ensures
    ∙ outside c.args.place d row z c.in_ok-whole.ensures.exact (ap (is_in_range row.form c.args.place d) (sym kept) ∙ sym c.is_in_range.ensures ∙ c.if-is_in_range.false)
