-- A front that goes on, one position after the other.
use Rattle.std.proofs.Common.{◌≡◌, ◌≢◌, ℕ, ◌+◌, ◌<◌, List, [], ◌∷◌, ◌++◌, length, get_or, set, true, false, Some, refl, sym, ap, subst, ◌∙◌, inl, inr, arith, append_assoc, append-nil, get_or-set_other}
use Rattle.std.specs.Prelude.{slice_get}
use Rattle.std.proofs.lemmas.Bool.{cases_lt, lt-ltb, le-ltb}
use Rattle.std.proofs.lemmas.List.{length-set}
use Rattle.std.proofs.lemmas.List.Elements.{All-push}
use Rattle.std.proofs.lemmas.Option.{slice_get-get_or}
use Rattle.sgm_energy.specs.declared.dir.Dir.{Dir}
use Rattle.sgm_energy.specs.Dirs.{number_of, position_of}
use Rattle.sgm_energy.proofs.DirLemmas.{position_inside, strip_there}
use Rattle.sgm_strip.specs.Cuts.{CutParts}
use Rattle.sgm_strip.specs.Scenes.{SceneParts}
use Rattle.sgm_strip.specs.Parcels.{ParcelParts, is_done, with_done}
use Rattle.sgm_strip.specs.Fronts.{FrontParts, visit_of}
use Rattle.sgm_strip.specs.Strips.{AreStrips, IsStripOf}
use Rattle.sgm_strip.specs.declared.front.Visit.{Visit}
use Rattle.sgm_work.specs.Finished.{GoesOnBy}
use Rattle.sgm_work.specs.Left.{IsDoneFirst, KeepsOthers}
use Rattle.sgm_work.proofs.Lists.{get_set}

pub position_back : (dir : Dir) (s strips : ℕ) → s < strips → position_of dir (position_of dir s strips) strips ≡ s
position_back dir s strips h = strip_there dir s strips h

-- ---- one strip among all

pub strip_is : (scene : SceneParts) (cut : CutParts) (parcels : List ParcelParts) (s : ℕ) (d : ParcelParts) → AreStrips scene cut parcels → s < cut.strips → IsStripOf scene cut s (get_or parcels s d)
strip_is scene cut parcels s d strips h = strips.each s (get_or parcels s d) (slice_get-get_or parcels s d (omega (arith, strips.all)))

-- the strip at a position is next
pub is_next : (scene : SceneParts) (cut : CutParts) (dir : Dir) (k s : ℕ) (parcel : ParcelParts) → IsStripOf scene cut s parcel → s ≡ position_of dir k cut.strips → k < cut.strips → k ≡ position_of dir parcel.strip parcel.cut.strips
is_next scene cut dir k s parcel is es h =
    sym (ap (λ n. position_of dir n parcel.cut.strips) (is.same_strip ∙ es) ∙ ap (λ (c : CutParts). position_of dir (position_of dir k cut.strips) c.strips) is.same_cut ∙ position_back dir k cut.strips h)

-- and so the direction is not done in it
pub not_yet : (dir : Dir) (strips k s : ℕ) (d : ParcelParts) (parcels : List ParcelParts) → IsDoneFirst dir strips k parcels → length parcels ≡ strips → s ≡ position_of dir k strips → k < strips → is_done (get_or parcels s d).done dir ≡ false
not_yet dir strips k s d parcels first all es h =
    let inside : s < strips = omega (arith, es, position_inside dir k strips h) in
    first s (get_or parcels s d) (slice_get-get_or parcels s d (omega (arith, all)))
    ∙ le-ltb (position_of dir s strips) k (omega (arith, ap (λ n. position_of dir n strips) es ∙ position_back dir k strips h))

-- ---- one strip more

pub strips_set : (scene : SceneParts) (cut : CutParts) (parcels : List ParcelParts) (s : ℕ) (parcel : ParcelParts) → AreStrips scene cut parcels → IsStripOf scene cut s parcel → AreStrips scene cut (set parcels s parcel)
strips_set scene cut parcels s parcel strips is = record {
  cut_kept = strips.cut_kept;
  same_height = strips.same_height;
  all = length-set parcels s parcel ∙ strips.all;
  each = λ j found e. elim (get_set parcels s parcel j found e) [
    | inl same ↦ subst (λ p. IsStripOf scene cut j p) (sym same.1) (subst (λ n. IsStripOf scene cut n parcel) (sym same.0) is)
    | inr other ↦ strips.each j found other.1
  ];
}

pub done_more : (dir : Dir) (strips k s : ℕ) (parcel : ParcelParts) (parcels : List ParcelParts) → IsDoneFirst dir strips k parcels → length parcels ≡ strips → s ≡ position_of dir k strips → k < strips → is_done parcel.done dir ≡ true
    → IsDoneFirst dir strips (k + 1) (set parcels s parcel)
done_more dir strips k s parcel parcels first all es h done j found e = elim (get_set parcels s parcel j found e) [
  | inl same ↦ (let back : position_of dir j strips ≡ k = ap (λ n. position_of dir n strips) (same.0 ∙ es) ∙ position_back dir k strips h in
      ap (λ (p : ParcelParts). is_done p.done dir) same.1 ∙ done ∙ sym (lt-ltb (position_of dir j strips) (k + 1) (omega (arith, back))))
  | inr other ↦ (let inside : j < strips = omega (arith, all, Rattle.std.proofs.lemmas.Option.slice_get_within parcels j found other.1) in
      let apart : position_of dir j strips ≢ k = λ e. other.0 (sym (position_back dir j strips inside) ∙ ap (λ n. position_of dir n strips) e ∙ sym es) in
      first j found other.1 ∙ elim (cases_lt (position_of dir j strips) k) [
        | inl l ↦ lt-ltb (position_of dir j strips) k l ∙ sym (lt-ltb (position_of dir j strips) (k + 1) (omega arith))
        | inr l ↦ le-ltb (position_of dir j strips) k l ∙ sym (le-ltb (position_of dir j strips) (k + 1) (omega (arith, apart)))
      ])
]

pub others_none : (dir : Dir) (parcels : List ParcelParts) → KeepsOthers dir parcels parcels
others_none dir parcels strip before after other ne e e' = let same : Some before ≡ Some after = sym e ∙ e' in let here : before ≡ after = cc in ap (λ (p : ParcelParts). is_done p.done other) (sym here)

pub others_more : (dir : Dir) (s : ℕ) (item parcel : ParcelParts) (old new : List ParcelParts) → KeepsOthers dir old new → slice_get new s ≡ Some item → parcel.done ≡ with_done item.done dir → KeepsOthers dir old (set new s parcel)
others_more dir s item parcel old new keeps there added strip before after other ne e e' = elim (get_set new s parcel strip after e') [
  | inl same ↦ ap (λ (p : ParcelParts). is_done p.done other) same.1 ∙ ap (λ done. is_done done other) added ∙ get_or-set_other item.done (number_of dir) (number_of other) true false ne
      ∙ keeps strip before item other ne e (ap (λ n. slice_get new n) same.0 ∙ there)
  | inr apart ↦ keeps strip before after other ne e apart.1
]

-- ---- the visits

pub goes_none : (worker : ℕ) (front : FrontParts) → GoesOnBy worker front front
goes_none worker front = record { later = []; added = sym (append-nil front.visits); own = λ k d h. absurd (omega arith) }

pub goes_more : (worker strip : ℕ) (old front new : FrontParts) → GoesOnBy worker old front → new.visits ≡ front.visits ++ visit_of strip worker ∷ [] → GoesOnBy worker old new
goes_more worker strip old front new goes e = record {
  later = goes.later ++ visit_of strip worker ∷ [];
  added = e ∙ ap (λ (v : List Visit). v ++ visit_of strip worker ∷ []) goes.added ∙ append_assoc old.visits goes.later (visit_of strip worker ∷ []);
  own = All-push (λ visit. visit.worker ≡ worker) goes.later (visit_of strip worker) goes.own refl;
}
