-- What a front and a parcel keep when the front is passed on through the parcel's strip.
use Rattle.std.proofs.Common.{◌≡◌, ℕ, ◌+◌, ◌-◌, ◌*◌, ◌/◌, ◌%◌, ◌<◌, ◌≤◌, ◌==◌, Bool, true, false, not, List, [], ◌∷◌, ◌++◌, length, get_or, slice_index, replicate, Some, None, refl, sym, ap, ◌∙◌, subst, inl, inr, arith, eq-eqb, ne_eqb}
use Rattle.std.specs.Prelude.{All, slice_get}
use Rattle.std.proofs.lemmas.Bool.{cases_eq, cases_lt}
use Rattle.std.proofs.lemmas.List.{length_push, length-set, length-replicate, get_or_append_left, get_or_push}
use Rattle.std.proofs.lemmas.List.Elements.{All-replicate}
use Rattle.std.proofs.lemmas.Nat.{div-mul-add, mul-le}
use Rattle.std.proofs.lemmas.Option.{slice_get-get_or, slice_get_within, get_or_from_slice_get}
use Rattle.std.proofs.Math.Nat.{mul-mod_left}
use Rattle.sgm_base.specs.declared.limits.TheConstants.{MAX_COST, MAX_PATH_VALUE, MAX_SUM}
use Rattle.sgm_base.specs.Values.{Values}
use Rattle.sgm_energy.specs.declared.dir.Dir.{Dir}
use Rattle.sgm_energy.specs.declared.dir.Dir.TheVariants.{Right, Left}
use Rattle.sgm_energy.specs.Dirs.{is_level, number_of, position_of, strip_at}
use Rattle.sgm_energy.specs.Rays.{Pixel, row_before}
use Rattle.sgm_energy.specs.Energies.{path_value, sum_done}
use Rattle.sgm_energy.specs.Pens.{Penalties}
use Rattle.sgm_energy.specs.Rows.{HoldsRow}
use Rattle.sgm_energy.proofs.DirLemmas.{position_inside, strip_there}
use Rattle.sgm_strip.specs.Cuts.{CutParts, IsCut, first_row, rows_of, last_row}
use Rattle.sgm_strip.specs.Scenes.{SceneParts, IsScene, problem_of, row_length}
use Rattle.sgm_strip.specs.Volumes.{HoldsRows}
use Rattle.sgm_strip.specs.Parcels.{ParcelParts, IsParcel}
use Rattle.sgm_strip.specs.Parcels.{is_done, level_done, parcel_of, with_done}
use Rattle.sgm_strip.specs.Fronts.{FrontParts, ComesNextTo, IsFront, front_parts, visit_of}
use Rattle.sgm_strip.specs.Passing.{ComesBefore, SuitsRows, visited}
use Rattle.sgm_strip.specs.declared.front.Visit.{Visit}
use Rattle.sgm_strip.proofs.CutLemmas.{first_more, first_within}
use Rattle.sgm_strip.proofs.Entering.{entry, entry_first, entry_next, leaving}
use Rattle.sgm_strip.proofs.Rows.{rows_same}
use Rattle.sgm_strip.proofs.Sets.{done_still, level_sum}
use Rattle.sgm_strip.proofs.Sums.{room_left, with_more}

-- a row of a scene is not empty, and whole pixels
pub row_some : (scene : SceneParts) → IsScene scene → 0 < row_length scene
row_some scene k =
    omega (arith, mul-le 1 1 scene.left.width scene.span.count (omega (arith, k.left_kept.width_in_range)) (omega (arith, k.count_in_range)))

pub whole_pixels : (n width count : ℕ) → n ≡ width * count → n % count ≡ 0
whole_pixels n width count e = ap (λ m. m % count) e ∙ mul-mod_left width count

-- how many pixels they are
pub pixels : (n width count : ℕ) → n ≡ width * count → 0 < count → width ≡ n / count
pixels n width count e h = sym (ap (λ m. m / count) (omega (arith, e)) ∙ div-mul-add width count 0 h)

pub whole_rows : (n rows row length : ℕ) → n ≡ rows * length → row ≡ length → n % row ≡ 0
whole_rows n rows row length e er = ap (λ m. n % m) er ∙ ap (λ m. m % length) e ∙ mul-mod_left rows length

-- a front that has no visit
pub new_front : (scene : SceneParts) (cut : CutParts) (dir : Dir) (row : List ℕ) (visits : List Visit) → IsScene scene → IsCut cut → cut.height ≡ scene.left.height → is_level dir ≡ false
    → row ≡ replicate (row_length scene) 0 → visits ≡ [] → IsFront (front_parts scene cut dir row visits)
new_front scene cut dir row visits ks kc high across zeros none =
    let low : All (λ v. v ≤ MAX_PATH_VALUE) row =
    subst (All (λ v. v ≤ MAX_PATH_VALUE)) (sym zeros) (All-replicate (λ v. v ≤ MAX_PATH_VALUE) (row_length scene) 0 (omega arith)) in
    let empty : length visits ≡ 0 = ap length none in
    record {
      scene_kept = ks;
      cut_kept = kc;
      same_height = high;
      across = across;
      whole = ap length zeros ∙ length-replicate (row_length scene) 0;
      row_low = low;
      few = omega (arith, empty);
      in_order = λ k visit e. absurd (omega (arith, empty, slice_get_within visits k visit e));
      last_held = λ visit e. absurd (omega (arith, empty, slice_get_within visits (length visits - 1) visit e));
    }

-- a parcel in which the level directions are done
pub new_parcel : (scene : SceneParts) (cut : CutParts) (strip top rows : ℕ) (costs sums : List ℕ) → IsScene scene → IsCut cut → cut.height ≡ scene.left.height → strip < cut.strips → top ≡ first_row cut strip → rows ≡ rows_of cut strip
    → All (λ c. c ≤ MAX_COST) costs → HoldsRows (problem_of scene) top rows (problem_of scene).cost costs
    → HoldsRows (problem_of scene) top rows (λ p d. path_value (problem_of scene) Right p d + path_value (problem_of scene) Left p d) sums → IsParcel (parcel_of scene cut strip level_done costs sums)
new_parcel scene cut strip top rows costs sums ks kc high inside et er low hc hs =
    let g = problem_of scene in
    let f : Pixel → ℕ → ℕ = λ p d. path_value g Right p d + path_value g Left p d in
    let placed : (h : Pixel → ℕ → ℕ) (v : List ℕ) → HoldsRows g top rows h v → HoldsRows g (first_row cut strip) (rows_of cut strip) h v =
    λ h v k. subst (λ t. HoldsRows g t (rows_of cut strip) h v) et (subst (λ r. HoldsRows g top r h v) er k) in
    record {
      scene_kept = ks;
      cut_kept = kc;
      same_height = high;
      inside = inside;
      directions = refl;
      right_done = refl;
      left_done = refl;
      costs_low = low;
      costs_held = placed g.cost costs hc;
      sums_held = rows_same g (first_row cut strip) (rows_of cut strip) f (sum_done (is_done level_done) g) sums (λ p d. level_sum g p d) (placed f sums hs);
    }

-- a front by other names of its scene and cut
pub front_here : (scene scene' : SceneParts) (cut cut' : CutParts) (dir : Dir) (row : List ℕ) (visits : List Visit) → scene' ≡ scene → cut' ≡ cut → IsFront (front_parts scene' cut' dir row visits) → IsFront (front_parts scene cut dir row visits)
front_here scene scene' cut cut' dir row visits es ec k =
    subst (λ c. IsFront (front_parts scene c dir row visits)) ec (subst (λ s. IsFront (front_parts s cut' dir row visits)) es k)

-- a parcel by other names of its parts
pub parcel_here : (scene : SceneParts) (cut : CutParts) (strip : ℕ) (done done' : List Bool) (costs costs' sums sums' : List ℕ) → done' ≡ done → costs' ≡ costs → sums' ≡ sums
    → IsParcel (parcel_of scene cut strip done' costs' sums') → IsParcel (parcel_of scene cut strip done costs sums)
parcel_here scene cut strip done done' costs costs' sums sums' ed ec es k =
    subst (λ x. IsParcel (parcel_of scene cut strip x costs sums)) ed (subst (λ v. IsParcel (parcel_of scene cut strip done' v sums)) ec (subst (λ v. IsParcel (parcel_of scene cut strip done' costs' v)) es k))

module _ (scene : SceneParts) (cut : CutParts) (strip : ℕ) (done : List Bool) (costs sums : List ℕ) (kp : IsParcel (parcel_of scene cut strip done costs sums)) where
  abbrev top : ℕ
  top = first_row cut strip

  abbrev rows : ℕ
  rows = rows_of cut strip

  pub some_rows : 0 < rows
  some_rows = omega (arith, first_more cut strip kp.cut_kept)

  pub rows_inside : top + rows ≤ scene.left.height
  rows_inside = omega (arith, first_more cut strip kp.cut_kept, first_within cut (strip + 1) kp.cut_kept (omega (arith, kp.inside)), kp.same_height)

  -- how many rows its costs are
  pub parcel_rows : (row n : ℕ) → row ≡ row_length scene → n ≡ length costs → n / row ≡ rows
  parcel_rows row n er en =
      let some : 0 < row = omega (arith, er, row_some scene kp.scene_kept) in
      let whole : n ≡ rows * row + 0 = omega (arith, en, kp.costs_held.whole, ap (λ k. rows * k) er) in
      ap (λ m. m / row) whole ∙ div-mul-add rows row 0 some

  suits_scene : (count row : ℕ) → count ≡ scene.span.count → row ≡ row_length scene → SuitsRows (problem_of scene) top rows scene.penalties scene.guide count row costs
  suits_scene count row ec er = record {
    same_count = sym ec;
    same_row = sym er;
    same_p1 = refl;
    same_far = λ _ _. refl;
    same_width = sym kp.scene_kept.guide_width;
    same_height = sym kp.scene_kept.guide_height;
    inside = rows_inside;
    holds = kp.costs_held;
  }

  pub suits : (first : ℕ) (penalties : Penalties) (guide : Values) (count row : ℕ) → first ≡ top → penalties ≡ scene.penalties → guide ≡ scene.guide → count ≡ scene.span.count → row ≡ row_length scene
      → SuitsRows (problem_of scene) first rows penalties guide count row costs
  suits first penalties guide count row et ep eg ec er =
      subst (λ t. SuitsRows (problem_of scene) t rows penalties guide count row costs) (sym et)
      (subst (λ ps. SuitsRows (problem_of scene) top rows ps guide count row costs) (sym ep)
      (subst (λ vs. SuitsRows (problem_of scene) top rows scene.penalties vs count row costs) (sym eg) (suits_scene count row ec er)))

  pub room : (dir : Dir) → is_done done dir ≡ false → (k : ℕ) → k < length sums → slice_index sums k + MAX_PATH_VALUE ≤ MAX_SUM
  room dir left = room_left scene done dir top rows sums kp.scene_kept left rows_inside kp.sums_held

  -- the parcel with the direction
  pub passed_parcel : (dir : Dir) (sums' : List ℕ) → is_done done dir ≡ false → HoldsRows (problem_of scene) top rows (λ p d. sum_done (is_done done) (problem_of scene) p d + path_value (problem_of scene) dir p d) sums'
      → IsParcel (parcel_of scene cut strip (with_done done dir) costs sums')
  passed_parcel dir sums' left h = record {
    scene_kept = kp.scene_kept;
    cut_kept = kp.cut_kept;
    same_height = kp.same_height;
    inside = kp.inside;
    directions = length-set done (number_of dir) true ∙ kp.directions;
    right_done = done_still done dir Right kp.directions kp.right_done;
    left_done = done_still done dir Left kp.directions kp.left_done;
    costs_low = kp.costs_low;
    costs_held = kp.costs_held;
    sums_held = with_more (problem_of scene) done dir top rows sums' kp.directions left h;
  }

  module _ (dir : Dir) (row : List ℕ) (visits : List Visit) (kf : IsFront (front_parts scene cut dir row visits)) (next : length visits ≡ position_of dir strip cut.strips) where
    -- where a strip was visited, the front has the row before the strip, and otherwise there is none
    comes_in : (begun : Bool) → begun ≡ not (length visits == 0) → ComesBefore (problem_of scene) dir (entry cut dir strip) begun row
    comes_in begun eb = elim (cases_eq (length visits) 0) [
      | inl none ↦ (let e : begun ≡ false = eb ∙ ap not (eq-eqb (length visits) 0 none) in
          subst (λ b. ComesBefore (problem_of scene) dir (entry cut dir strip) b row) (sym e)
          (subst (λ h. row_before dir h (entry cut dir strip) ≡ None) kp.same_height
          (entry_first cut dir strip kp.cut_kept kf.across kp.inside (sym next ∙ none))))
      | inr some ↦ (let e : begun ≡ true = eb ∙ ap not (ne_eqb (length visits) 0 some) in
          let last : ℕ = length visits - 1 in
          let visit : Visit = get_or visits last (visit_of 0 0) in
          let there : slice_get visits last ≡ Some visit = slice_get-get_or visits last (visit_of 0 0) (omega arith) in
          let it : visit.strip ≡ strip_at dir last cut.strips = kf.in_order last visit there in
          let came : row_before dir cut.height (entry cut dir strip) ≡ Some (last_row cut dir visit.strip) =
          entry_next cut dir strip last kp.cut_kept kf.across kp.inside (omega (arith, next)) ∙ ap (λ s. Some (last_row cut dir s)) (sym it) in
          subst (λ b. ComesBefore (problem_of scene) dir (entry cut dir strip) b row) (sym e)
          (record {
            row = last_row cut dir visit.strip;
            comes_from = subst (λ h. row_before dir h (entry cut dir strip) ≡ Some (last_row cut dir visit.strip)) kp.same_height came;
            holds = kf.last_held visit there;
          }))
    ]

    pub comes : (first : ℕ) (begun : Bool) → first ≡ top → begun ≡ not (length visits == 0) → ComesBefore (problem_of scene) dir (first + visited dir rows 0) begun row
    comes first begun et eb = subst (λ t. ComesBefore (problem_of scene) dir (t + visited dir rows 0) begun row) (sym et) (comes_in begun eb)

    pub room_for_visit : length visits < cut.strips
    room_for_visit = omega (arith, next, position_inside dir strip cut.strips kp.inside)

    push_cases : (k worker : ℕ) (visit : Visit) → slice_get (visits ++ visit_of strip worker ∷ []) k ≡ Some visit → visit.strip ≡ strip_at dir k cut.strips
    push_cases k worker visit e =
        let all : List Visit = visits ++ visit_of strip worker ∷ [] in
        let inside : k < length visits + 1 = omega (arith, slice_get_within all k visit e, length_push visits (visit_of strip worker)) in
        let is : get_or all k visit ≡ visit = get_or_from_slice_get all k visit visit e in
        elim (cases_lt k (length visits)) [
          | inl l ↦ kf.in_order k visit (slice_get-get_or visits k visit l ∙ ap (λ v. Some v) (sym (get_or_append_left visits (visit_of strip worker ∷ []) visit k l) ∙ is))
          | inr l ↦ (let here : length visits ≡ k = omega arith in
              let same : visit ≡ visit_of strip worker = sym is ∙ get_or_push visits (visit_of strip worker) visit k here in
              ap (λ (v : Visit). v.strip) same ∙ sym (ap (λ p. strip_at dir p cut.strips) (sym here ∙ next) ∙ strip_there dir strip cut.strips kp.inside))
        ]

    -- the front with the visit
    pub passed_front : (worker : ℕ) (row' : List ℕ) → length row' ≡ length row → All (λ v. v ≤ MAX_PATH_VALUE) row' → HoldsRow (problem_of scene) (top + visited dir rows (rows - 1)) (path_value (problem_of scene) dir) row'
        → IsFront (front_parts scene cut dir row' (visits ++ visit_of strip worker ∷ []))
    passed_front worker row' e low held =
        let all : List Visit = visits ++ visit_of strip worker ∷ [] in
        let long : length all ≡ length visits + 1 = omega (arith, length_push visits (visit_of strip worker)) in
        record {
          scene_kept = kf.scene_kept;
          cut_kept = kf.cut_kept;
          same_height = kf.same_height;
          across = kf.across;
          whole = e ∙ kf.whole;
          row_low = low;
          few = omega (arith, long, room_for_visit);
          in_order = λ k visit s. push_cases k worker visit s;
          last_held = λ visit s.
              let at : length visits ≡ length all - 1 = omega (arith, long) in
              let is : visit ≡ visit_of strip worker = sym (get_or_from_slice_get all (length all - 1) visit visit s) ∙ get_or_push visits (visit_of strip worker) visit (length all - 1) at in
              subst (λ y. HoldsRow (problem_of scene) y (path_value (problem_of scene) dir) row') (leaving cut dir strip kp.cut_kept ∙ ap (λ (v : Visit). last_row cut dir v.strip) (sym is)) held;
        }

-- a front and the parcel whose strip it comes to next, by the lists that are worked on and by the
-- parcel's scene and cut
pub record Met (scene scene' : SceneParts) (cut cut' : CutParts) (strip : ℕ) (done : List Bool)
    (costs sums : List ℕ) (dir : Dir) (row : List ℕ) (visits : List Visit) : Type 0 where
  pub same_scene : scene' ≡ scene
  pub same_cut : cut' ≡ cut
  pub parcel : IsParcel (parcel_of scene cut strip done costs sums)
  pub front : IsFront (front_parts scene cut dir row visits)
  pub next : length visits ≡ position_of dir strip cut.strips
  pub left : is_done done dir ≡ false

pub met : (scene' scene : SceneParts) (cut' cut : CutParts) (strip : ℕ) (done : List Bool)
    (costs' costs sums' sums : List ℕ) (dir : Dir) (row' row : List ℕ) (visits : List Visit)
    (parcel : ParcelParts) (front : FrontParts)
    → parcel_of scene cut strip done costs' sums' ≡ parcel
    → front_parts scene' cut' dir row' visits ≡ front
    → ComesNextTo front parcel → is_done parcel.done front.dir ≡ false
    → IsParcel (parcel_of scene cut strip done costs' sums')
    → IsFront (front_parts scene' cut' dir row' visits)
    → costs ≡ costs' → sums ≡ sums' → row ≡ row'
    → Met scene scene' cut cut' strip done costs sums dir row visits
met scene' scene cut' cut strip done costs' costs sums' sums dir row' row visits parcel front
    ep ef n l kp kf ec es er =
    let f : FrontParts = front_parts scene' cut' dir row' visits in
    let here : ComesNextTo f (parcel_of scene cut strip done costs' sums') =
    subst (λ q. ComesNextTo f q) (sym ep) (subst (λ g. ComesNextTo g parcel) (sym ef) n) in
    record {
      same_scene = here.same_scene;
      same_cut = here.same_cut;
      parcel = parcel_here scene cut strip done done costs costs' sums sums' refl (sym ec) (sym es)
          kp;
      front = subst (λ r. IsFront (front_parts scene cut dir r visits)) (sym er)
          (front_here scene scene' cut cut' dir row' visits here.same_scene here.same_cut kf);
      next = here.position;
      left = subst (λ (q : ParcelParts). is_done q.done dir ≡ false) (sym ep)
          (subst (λ (g : FrontParts). is_done parcel.done g.dir ≡ false) (sym ef) l);
    }

-- what passing the rows of the strip asks for
pub record Entered (scene : SceneParts) (cut : CutParts) (strip : ℕ) (costs : List ℕ) (dir : Dir)
    (row : List ℕ) (first : ℕ) (penalties : Penalties) (guide : Values) (count : ℕ)
    (begun : Bool) : Type 0 where
  pub some : 0 < rows_of cut strip
  pub suits : SuitsRows (problem_of scene) first (rows_of cut strip) penalties guide count
      (length row) costs
  pub comes : ComesBefore (problem_of scene) dir (first + visited dir (rows_of cut strip) 0) begun
      row

pub entered : (scene : SceneParts) (cut : CutParts) (strip : ℕ) (done : List Bool)
    (costs sums : List ℕ) (dir : Dir) (row : List ℕ) (visits : List Visit)
    (first : ℕ) (penalties : Penalties) (guide : Values) (count : ℕ) (begun : Bool)
    {scene' : SceneParts} {cut' : CutParts}
    → Met scene scene' cut cut' strip done costs sums dir row visits
    → first ≡ first_row cut strip → penalties ≡ scene.penalties → guide ≡ scene.guide
    → count ≡ scene.span.count → begun ≡ not (length visits == 0)
    → Entered scene cut strip costs dir row first penalties guide count begun
entered scene cut strip done costs sums dir row visits first penalties guide count begun
    m et ep eg en eb = record {
      some = some_rows scene cut strip done costs sums m.parcel;
      suits = suits scene cut strip done costs sums m.parcel first penalties guide count (length row)
          et ep eg en m.front.whole;
      comes = comes scene cut strip done costs sums m.parcel dir row visits m.front m.next first begun
          et eb;
    }
