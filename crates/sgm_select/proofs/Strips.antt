-- Disparities that are found strip by strip.
use Rattle.std.proofs.Common.{◌≡◌, ℕ, ◌+◌, ◌-◌, ◌*◌, ◌/◌, ◌%◌, ◌<◌, ◌≤◌, ◌++◌, Bool, List, length, take, drop, get_or, map, Option, Some, None, sym, ap, subst, ◌∙◌, arith, ℤ, ◌∷◌, [], Result, Ok, Err, inl, inr}
use Rattle.std.specs.Prelude.{IfOk, slice_get}
use Rattle.std.proofs.lemmas.Bool.{cases_lt}
use Rattle.std.proofs.lemmas.List.{ext_get_or, get_or-take, get_or-drop, length-take, length-drop, take_all, length-map, length_push, map-append, get_or_append_left, get_or_push}
use Rattle.std.proofs.Math.Seq.{take-add}
use Rattle.std.proofs.lemmas.Nat.{mod_below, div_below, mul-le}
use Rattle.std.proofs.lemmas.Option.{slice_get-get_or, slice_get_within, get_or_from_slice_get}
use Rattle.sgm_base.specs.Values.{AtMost, Values, row_by_row, values_of}
use Rattle.sgm_census.proofs.CodeLists.{get_or-row_by_row, length-row_by_row}
use Rattle.sgm_energy.proofs.SumLemmas.{done_all}
use Rattle.sgm_energy.specs.Energies.{path_sum, sum_done}
use Rattle.sgm_energy.specs.Rays.{Problem, pixel_at}
use Rattle.sgm_energy.specs.Rows.{HoldsRow}
use Rattle.sgm_strip.proofs.CutLemmas.{first_end, first_more, first_top}
use Rattle.sgm_strip.specs.Cuts.{CutParts, first_row}
use Rattle.sgm_strip.specs.Parcels.{ParcelParts, IsComplete, is_done}
use Rattle.sgm_strip.specs.Scenes.{SceneParts, problem_of}
use Rattle.sgm_strip.specs.Strips.{AreStrips, IsStripOf}
use Rattle.sgm_select.specs.Selection.{disparities_of, disparity}
use Rattle.sgm_select.specs.Strips.{AreRowsOf, HoldsFrom, rows_between, rows_of_strip}

-- the sums of a complete parcel are those of all directions
pub complete_row : (g : Problem) (done : List Bool) (y : ℕ) (sums : List ℕ) → IsComplete done → HoldsRow g y (sum_done (is_done done) g) sums → HoldsRow g y (path_sum g) sums
complete_row g done y sums all h = record {
  whole = h.whole;
  each = λ x d hx hd. h.each x d hx hd ∙ done_all (is_done done) g (pixel_at x y) d all;
}

-- what stands at a place among the strips is the strip of its number
pub strip_there : (scene : SceneParts) (cut : CutParts) (parcels : List ParcelParts) (k : ℕ) (parcel : ParcelParts) → AreStrips scene cut parcels → k < length parcels → parcel ≡ get_or parcels k parcel → IsStripOf scene cut k parcel
strip_there scene cut parcels k parcel strips h is = strips.each k parcel (slice_get-get_or parcels k parcel h ∙ ap (λ p. Some p) (sym is))

-- ---- the rows of a strip

times_more : (a n w : ℕ) → (a + n) * w ≡ a * w + n * w
times_more a n w = omega arith

within : (a n h w : ℕ) → a + n ≤ h → a * w + n * w ≤ w * h
within a n h w l = let e : (a + n) * w ≤ h * w = mul-le (a + n) w h w l (omega arith) in omega (arith, e)

-- entries that hold what f gives for the pixels of so many rows are those rows of the map
pub rows_held : (w height : ℕ) (f : ℕ → ℕ → Option ℕ) (top n : ℕ) (entries : List (Option ℕ)) → 0 < w → top + n ≤ height → length entries ≡ n * w
    → ((x r : ℕ) → x < w → r < n → get_or entries (r * w + x) None ≡ f x (top + r)) → entries ≡ rows_between (values_of w height (row_by_row w height f)) top (top + n)
rows_held w height f top n entries some low full h =
    let all = row_by_row w height f in
    let room : top * w + n * w ≤ length all = omega (arith, length-row_by_row w height f, within top n height w low) in
    let long : length (take (n * w) (drop (top * w) all)) ≡ n * w = length-take (n * w) (drop (top * w) all) ∙ omega (arith, length-drop (top * w) all, room) in
    let same : entries ≡ take (n * w) (drop (top * w) all) =
    ext_get_or None entries (take (n * w) (drop (top * w) all)) (full ∙ sym long)
    (λ i l.
    let inside : i < n * w = omega (arith, full) in
    let x = i % w in
    let r = i / w in
    let at : i ≡ r * w + x = omega arith in
    let hx : x < w = mod_below i w some in
    let hr : r < n = div_below i w n some inside in
    let far : top * w + i ≡ (top + r) * w + x = omega (arith, at, times_more top r w) in
    ap (λ j. get_or entries j None) at ∙ h x r hx hr
    ∙ sym (get_or-take (n * w) (drop (top * w) all) i None inside ∙ get_or-drop (top * w) all i None ∙ ap (λ j. get_or all j None) far
    ∙ get_or-row_by_row w height f x (top + r) None hx (omega arith))) in
    let more : top + n - top ≡ n = omega arith in
    same ∙ ap (λ k. take (k * w) (drop (top * w) all)) (sym more)

-- those that hold the disparities
pub rows_exact : (g : Problem) (left right : Values) (first : ℤ) (top n : ℕ) (entries : List (Option ℕ)) → 0 < g.width → top + n ≤ g.height → length entries ≡ n * g.width → HoldsFrom g left right first top n entries
    → entries ≡ rows_between (disparities_of g left right first) top (top + n)
rows_exact g left right first top n entries some low full h =
    rows_held g.width g.height (λ x y. disparity g left right first (pixel_at x y)) top n entries some low full h

-- ---- one strip after the other

-- the rows above a strip and then its own are the rows above the next
pub rows_more : (whole : Values) (a b : ℕ) → a ≤ b → take (a * whole.width) whole.entries ++ rows_between whole a b ≡ take (b * whole.width) whole.entries
rows_more whole a b h =
    let w = whole.width in
    let n : ℕ = b - a in
    let up : a + n ≡ b = omega arith in
    sym (take-add (a * w) (n * w) whole.entries) ∙ ap (λ k. take k whole.entries) (sym (times_more a n w) ∙ ap (λ k. k * w) up)

pub strip_more : (whole : Values) (cut : CutParts) (strips : List (List (Option ℕ))) (k : ℕ) (rows : List (Option ℕ)) → AreRowsOf whole cut strips → rows ≡ rows_of_strip whole cut k
    → take (first_row cut k * whole.width) whole.entries ++ rows ≡ take (first_row cut (k + 1) * whole.width) whole.entries
strip_more whole cut strips k rows are is =
    ap (λ r. take (first_row cut k * whole.width) whole.entries ++ r) is
    ∙ rows_more whole (first_row cut k) (first_row cut (k + 1)) (omega (arith, first_more cut k are.cut_kept))

-- after all strips there are all rows
pub all_rows : (whole : Values) (cut : CutParts) (strips : List (List (Option ℕ))) (k : ℕ) → AreRowsOf whole cut strips → k ≡ length strips → take (first_row cut k * whole.width) whole.entries ≡ whole.entries
all_rows whole cut strips k are end =
    let last : first_row cut k ≡ whole.height = ap (first_row cut) (end ∙ are.all) ∙ first_end cut are.cut_kept ∙ are.same_height in
    ap (λ n. take (n * whole.width) whole.entries) last ∙ take_all (whole.height * whole.width) whole.entries (omega (arith, are.full))

pub no_rows : (whole : Values) (cut : CutParts) (strips : List (List (Option ℕ))) → AreRowsOf whole cut strips → take (first_row cut 0 * whole.width) whole.entries ≡ []
no_rows whole cut strips are =
    let zero_rows : 0 * whole.width ≡ 0 = omega arith in
    ap (λ n. take n whole.entries) (ap (λ n. n * whole.width) (first_top cut are.cut_kept) ∙ zero_rows)

-- ---- the lists of all strips

-- what is said of each list, by its number, is said with one more at the end
pub each_more : {V : Type 0} (f : V → List (Option ℕ)) (P : ℕ → List (Option ℕ) → Type 0) (vs : List V) (v : V)
    → ((k : ℕ) (rows : List (Option ℕ)) → slice_get (map f vs) k ≡ Some rows → P k rows) → P (length vs) (f v)
    → (k : ℕ) (rows : List (Option ℕ)) → slice_get (map f (vs ++ v ∷ [])) k ≡ Some rows → P k rows
each_more f P vs v each last k rows e =
    let old = map f vs in
    let more : slice_get (old ++ f v ∷ []) k ≡ Some rows = ap (λ xs. slice_get xs k) (sym (map-append f vs (v ∷ []))) ∙ e in
    let there : get_or (old ++ f v ∷ []) k rows ≡ rows = get_or_from_slice_get (old ++ f v ∷ []) k rows rows more in
    let inside : k < length old + 1 = omega (arith, slice_get_within (old ++ f v ∷ []) k rows more, length_push old (f v)) in
    elim (cases_lt k (length old)) [
      | inl l ↦ each k rows (slice_get-get_or old k rows l ∙ ap (λ r. Some r) (sym (get_or_append_left old (f v ∷ []) rows k l) ∙ there))
      | inr l ↦ (let here : length old ≡ k = omega arith in
          let at : length vs ≡ k = sym (length-map vs f) ∙ here in
          let same : f v ≡ rows = sym (get_or_push old (f v) rows k here) ∙ there in
          subst (λ r. P k r) same (subst (λ n. P n (f v)) at last))
    ]

-- the number of lists
pub full_map : (g : Problem) (left right : Values) (first : ℤ) → length (disparities_of g left right first).entries ≡ g.width * g.height
full_map g left right first = length-row_by_row g.width g.height (λ x y. disparity g left right first (pixel_at x y))

pub low_from : {E : Type 0} (r : Result Values E) (whole : Values) (most : ℕ) → IfOk r (λ m. m ≡ whole) → AtMost most whole.entries → IfOk r (λ m. AtMost most m.entries)
low_from (Ok m) whole most e low = subst (λ (v : Values). AtMost most v.entries) (sym e) low
low_from (Err error) whole most e low = tt

-- the rows of a strip of this scene are those of the map
pub strip_of_scene : (scene : SceneParts) (cut : CutParts) (k : ℕ) (parcel : ParcelParts) (left right : Values) (rows : List (Option ℕ)) → IsStripOf scene cut k parcel
    → rows ≡ rows_of_strip (disparities_of (problem_of parcel.scene) left right parcel.scene.span.first) parcel.cut parcel.strip
    → rows ≡ rows_of_strip (disparities_of (problem_of scene) left right scene.span.first) cut k
strip_of_scene scene cut k parcel left right rows is e =
    e ∙ ap (λ (s : SceneParts). rows_of_strip (disparities_of (problem_of s) left right s.span.first) parcel.cut parcel.strip) is.same_scene
    ∙ ap (λ c. rows_of_strip (disparities_of (problem_of scene) left right scene.span.first) c parcel.strip) is.same_cut
    ∙ ap (λ n. rows_of_strip (disparities_of (problem_of scene) left right scene.span.first) cut n) is.same_strip

-- the same of any map of a scene
pub strip_of_map : (whole : SceneParts → Values) (scene : SceneParts) (cut : CutParts) (k : ℕ) (parcel : ParcelParts) (rows : List (Option ℕ)) → IsStripOf scene cut k parcel
    → rows ≡ rows_of_strip (whole parcel.scene) parcel.cut parcel.strip → rows ≡ rows_of_strip (whole scene) cut k
strip_of_map whole scene cut k parcel rows is e =
    e ∙ ap (λ (s : SceneParts). rows_of_strip (whole s) parcel.cut parcel.strip) is.same_scene
    ∙ ap (λ c. rows_of_strip (whole scene) c parcel.strip) is.same_cut ∙ ap (λ n. rows_of_strip (whole scene) cut n) is.same_strip
