use Rattle.std.proofs.Common.{◌≡◌, ℕ, ◌+◌, ◌-◌, ◌*◌, ◌<◌, ◌≤◌, ◌∙◌, length, take, drop, ap, sym, subst, arith}
use Rattle.std.proofs.lemmas.Nat.{row_fits}
use Rattle.sgm_energy.specs.Energies.{sum_done}
use Rattle.sgm_energy.specs.Rows.{HoldsRow}
use Rattle.sgm_strip.specs.Cuts.{first_row, rows_of}
use Rattle.sgm_strip.specs.Scenes.{problem_of, row_length}
use Rattle.sgm_strip.specs.Parcels.{ParcelParts, IsParcel, is_done}
use Rattle.sgm_strip.proofs.Rows.{row_holds}
use Rattle.sgm_strip.proofs.parcel.Parcel.sums_row.Goals as goal

-- where the row ends, for a parcel by another name
row_ends : (p q : ParcelParts) (y first n : ℕ) → p ≡ q → IsParcel p → first ≡ first_row p.cut p.strip → n ≡ row_length q.scene → first_row q.cut q.strip ≤ y → y < first_row q.cut q.strip + rows_of q.cut q.strip → (y - first) * n + n ≤ length p.sums
row_ends p q y first n e kept ef en after before =
    let rows = rows_of p.cut p.strip in
    let top : first ≡ first_row q.cut q.strip = ef ∙ ap (λ (s : ParcelParts). first_row s.cut s.strip) e in
    let same : rows ≡ rows_of q.cut q.strip = ap (λ (s : ParcelParts). rows_of s.cut s.strip) e in
    let wide : row_length p.scene ≡ n = ap (λ (s : ParcelParts). row_length s.scene) e ∙ sym en in
    omega (arith, row_fits (y - first) n rows n (omega arith) (omega arith), kept.sums_held.whole ∙ ap (λ m. rows * m) wide)

pub overflow_mul-at : goal.overflow_mul-at
overflow_mul-at c =
    let sums = c.self.inside.sums in
    omega (arith, sums.ok, sums.small, row_ends _ c.args.self.now c.args.y c.first.result c.row_length-row.result c.self.view_is c.self.invariant.0 c.first.ensures.row c.row_length-row.ensures c.requires.after_top c.requires.before_end)

pub overflow_add-result : goal.overflow_add-result
overflow_add-result c =
    let sums = c.self.inside.sums in
    omega (arith, sums.ok, sums.small, row_ends _ c.args.self.now c.args.y c.first.result c.row_length-row.result c.self.view_is c.self.invariant.0 c.first.ensures.row c.row_length-row.ensures c.requires.after_top c.requires.before_end)

pub offset_bounds-deref-at : goal.offset_bounds-deref-at
offset_bounds-deref-at c =
    let sums = c.self.inside.sums in
    omega (arith, sums.ok, sums.small, row_ends _ c.args.self.now c.args.y c.first.result c.row_length-row.result c.self.view_is c.self.invariant.0 c.first.ensures.row c.row_length-row.ensures c.requires.after_top c.requires.before_end)

pub slice_bounds-result-end : goal.slice_bounds-result-end
slice_bounds-result-end c =
    omega (arith, c.deref.ensures.len, c.self.inside.sums.ok, row_ends _ c.args.self.now c.args.y c.first.result c.row_length-row.result c.self.view_is c.self.invariant.0 c.first.ensures.row c.row_length-row.ensures c.requires.after_top c.requires.before_end)

pub returns : goal.returns
returns c =
    let p = c.args.self.now in
    let g = problem_of p.scene in
    let kept : IsParcel p = subst IsParcel c.self.view_is c.self.invariant.0 in
    let r : ℕ = c.args.y - c.first.result in
    let n : ℕ = c.row_length-row.result in
    let top : c.first.result ≡ first_row p.cut p.strip = c.first.ensures.row ∙ ap (λ (q : ParcelParts). first_row q.cut q.strip) c.self.view_is in
    let items : c.deref.result.now ≡ p.sums = c.deref.ensures.value ∙ ap (λ (q : ParcelParts). q.sums) c.self.view_is in
    let y : first_row p.cut p.strip + r ≡ c.args.y = omega (arith, top) in
    subst (λ z. HoldsRow g z (sum_done (is_done p.done) g) (take (r * n + n - r * n) (drop (r * n) c.deref.result.now))) y
    (subst (λ v. HoldsRow g (first_row p.cut p.strip + r) (sum_done (is_done p.done) g) (take (r * n + n - r * n) (drop (r * n) v))) (sym items)
    (row_holds g (first_row p.cut p.strip) (rows_of p.cut p.strip) (sum_done (is_done p.done) g) p.sums n r (sym c.row_length-row.ensures) kept.sums_held (omega (arith, top))))
