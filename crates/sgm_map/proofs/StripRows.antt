-- The disparities of all strips, each found by itself.
use Rattle.std.proofs.Common.{◌≡◌, ℕ, ◌*◌, Bool, true, false, List, length, map, Option, Some, None, refl, sym, ap, subst, ◌∙◌}
use Rattle.std.specs.Prelude.{option_map, slice_get}
use Rattle.std.proofs.lemmas.List.{length-map}
use Rattle.std.proofs.lemmas.Option.{slice_get-map}
use Rattle.sgm_base.specs.Disparities.{Disparities}
use Rattle.sgm_base.specs.Values.{Values}
use Rattle.sgm_census.proofs.CodeLists.{length-row_by_row}
use Rattle.sgm_strip.specs.Cuts.{CutParts, IsCut}
use Rattle.sgm_strip.specs.Parcels.{ParcelParts}
use Rattle.sgm_strip.specs.Scenes.{SceneParts, problem_of}
use Rattle.sgm_strip.specs.Strips.{AreStrips}
use Rattle.sgm_select.specs.Selection.{disparities_of}
use Rattle.sgm_select.specs.Strips.{AreRowsOf, rows_of_strip}
use Rattle.sgm_select.proofs.Strips.{full_map}
use Rattle.sgm_fine.specs.Making.{made_finer}
use Rattle.sgm_map.specs.Fining.{made, made_at}
use Rattle.sgm_map.specs.declared.fining.Step.{Step}
use Rattle.sgm_map.specs.declared.fining.Step.TheVariants.{Finer, Mean}

-- what is said of each value that f gives
from_option : {V X : Type 0} (f : V → X) (P : X → Type 0) (o : Option V) (x : X) → ((v : V) → o ≡ Some v → P (f v)) → option_map f o ≡ Some x → P x
from_option f P None x h e = absurd (cc)
from_option f P (Some v) x h e = let same : f v ≡ x = cc in subst P same (h v refl)

each_mapped : {V X : Type 0} (f : V → X) (P : ℕ → X → Type 0) (vs : List V) → ((k : ℕ) (v : V) → slice_get vs k ≡ Some v → P k (f v))
    → (k : ℕ) (x : X) → slice_get (map f vs) k ≡ Some x → P k x
each_mapped f P vs each k x e = from_option f (P k) (slice_get vs k) x (each k) (sym (slice_get-map f vs k) ∙ e)

-- what was found of each strip are the rows of a map's strips
pub rows_found : {V : Type 0} (items : V → List (Option ℕ)) (whole : Values) (cut : CutParts) (all : List V)
    → IsCut cut → cut.height ≡ whole.height → length whole.entries ≡ whole.width * whole.height → length all ≡ cut.strips
    → ((k : ℕ) (v : V) → slice_get all k ≡ Some v → items v ≡ rows_of_strip whole cut k)
    → AreRowsOf whole cut (map items all)
rows_found items whole cut all kept high full count each = record {
  cut_kept = kept;
  same_height = high;
  full = full;
  all = length-map all items ∙ count;
  each = each_mapped items (λ k rows. rows ≡ rows_of_strip whole cut k) all each;
}

-- the map of a scene
abbrev pub map_of : SceneParts → Values → Values → Values
map_of scene left right = disparities_of (problem_of scene) left right scene.span.first

-- what was found of each parcel are the rows of its strips
pub are_rows : {V : Type 0} (items : V → List (Option ℕ)) (scene : SceneParts) (cut : CutParts) (left right : Values) (parcels : List ParcelParts) (all : List V)
    → AreStrips scene cut parcels → length all ≡ length parcels
    → ((k : ℕ) (v : V) → slice_get all k ≡ Some v → items v ≡ rows_of_strip (map_of scene left right) cut k)
    → AreRowsOf (map_of scene left right) cut (map items all)
are_rows items scene cut left right parcels all strips count each = record {
  cut_kept = strips.cut_kept;
  same_height = strips.same_height;
  full = full_map (problem_of scene) left right scene.span.first;
  all = length-map all items ∙ count ∙ strips.all;
  each = each_mapped items (λ k rows. rows ≡ rows_of_strip (map_of scene left right) cut k) all each;
}

-- ---- the map of a step

pub full_made : (step : Step) (left right whole : Values) (span : Disparities) → length (made step left right whole span).entries ≡ whole.width * whole.height
full_made step left right whole span = length-row_by_row whole.width whole.height (λ x y. made_at step left right whole span x y)

-- one step after the other
pub made_both : (fine : Bool) (left right whole finer m : Values) (span : Disparities) → fine ≡ true → finer ≡ made Finer left right whole span
    → m ≡ made Mean left right finer span → m ≡ made_finer fine left right whole span
made_both true left right whole finer m span h e f = f ∙ ap (λ v. made Mean left right v span) e
made_both false left right whole finer m span h e f = absurd (cc)
