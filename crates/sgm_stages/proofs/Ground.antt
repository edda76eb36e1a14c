-- Two grids on the same ground, and the texts that they call for, from one step to the next.
use Rattle.std.proofs.Common.{◌≡◌, ◌∙◌, ℕ, ℤ, pos, ap, refl, true, false, Bool, if◌then◌else◌, Option, Some, None, Result, Ok}
use Rattle.std.specs.Option.{option_or}
use Rattle.std.specs.Ordering.{int_eq}
use Rattle.std.proofs.lemmas.Bool.Decides.{Decides-int_eq}
use Rattle.sgm_grid.specs.Cells.{Cells}
use Rattle.sgm_grid.specs.declared.asc_fault.AscFault.{AscFault}
use Rattle.sgm_grid.specs.declared.grid_spec.GridSpec.{GridSpec}
use Rattle.sgm_words.specs.declared.files.Input.TheVariants as input
use Rattle.sgm_outcome.specs.declared.outcome.Refusal.{Refusal}
use Rattle.sgm_outcome.specs.declared.outcome.Refusal.TheVariants.{Asc}
use Rattle.sgm_stages.specs.Changing.{GridTexts, change_for, differ_at, grid_texts_of, ground_refusal}
use Rattle.sgm_stages.specs.Judge.{StopsFor}
use Rattle.sgm_stages.specs.Refusals.{or_refused, ◌>>=◌, unless}
use Rattle.sgm_stages.specs.declared.stops.TextsError.{TextsError}
use Rattle.sgm_stages.proofs.Steps.{goes_on, stops_on, stops_along}

-- ---- the ground

both_none : (a b : Option Refusal) → option_or a b ≡ None → (a ≡ None) × (b ≡ None)
both_none None b e = (refl, e)
both_none (Some x) b e = absurd (cc)

none_if : (b : Bool) (refusal : Refusal) → (if b then None else Some refusal) ≡ None → b ≡ true
none_if true refusal e = refl
none_if false refusal e = absurd (cc)

-- numbers that aren't refused are the same
same_at : (at : ℕ) (earlier later : ℤ) → differ_at at earlier later ≡ None → earlier ≡ later
same_at at earlier later e = (Decides-int_eq earlier later).0 (none_if (int_eq earlier later) _ e)

same_count : (at : ℕ) (earlier later : ℕ) → differ_at at (pos earlier) (pos later) ≡ None → earlier ≡ later
same_count at earlier later e = let same : pos earlier ≡ pos later = same_at at (pos earlier) (pos later) e in cc

same_parts : (a b : GridSpec) → a.west ≡ b.west → a.south ≡ b.south → a.cell ≡ b.cell → a.cols ≡ b.cols → a.rows ≡ b.rows → a ≡ b
same_parts a b west south cell cols rows =
    ap (λ z. let s : GridSpec = record { west = z; south = a.south; cell = a.cell; cols = a.cols; rows = a.rows } in s) west
    ∙ ap (λ z. let s : GridSpec = record { west = b.west; south = z; cell = a.cell; cols = a.cols; rows = a.rows } in s) south
    ∙ ap (λ z. let s : GridSpec = record { west = b.west; south = b.south; cell = z; cols = a.cols; rows = a.rows } in s) cell
    ∙ ap (λ n. let s : GridSpec = record { west = b.west; south = b.south; cell = b.cell; cols = n; rows = a.rows } in s) cols
    ∙ ap (λ n. let s : GridSpec = record { west = b.west; south = b.south; cell = b.cell; cols = b.cols; rows = n } in s) rows

-- grids that aren't refused lie on the same ground
pub same_ground : (earlier later : GridSpec) → ground_refusal earlier later ≡ None → earlier ≡ later
unfolding ground_refusal
same_ground a b e =
    let cols = both_none (differ_at 1 (pos a.cols) (pos b.cols)) _ e in
    let rows = both_none (differ_at 3 (pos a.rows) (pos b.rows)) _ cols.1 in
    let west = both_none (differ_at 5 a.west b.west) _ rows.1 in
    let south = both_none (differ_at 7 a.south b.south) _ west.1 in
    same_parts a b (same_at 5 a.west b.west west.0) (same_at 7 a.south b.south south.0) (same_at 9 a.cell b.cell south.1) (same_count 1 a.cols b.cols cols.0) (same_count 3 a.rows b.rows rows.0)

-- ---- what comes after each step

abbrev pub after_later : Cells → Cells → Result GridTexts Refusal
after_later a b = unless (ground_refusal a.spec b.spec) (grid_texts_of a b)

abbrev after_earlier : Result Cells AscFault → Cells → Result GridTexts Refusal
after_earlier later a = or_refused (Asc input.Later) later >>= after_later a

to_later : (earlier later : Result Cells AscFault) (a : Cells) → or_refused (Asc input.Earlier) earlier ≡ Ok a → change_for earlier later ≡ after_earlier later a
unfolding change_for
to_later earlier later a is = goes_on (or_refused (Asc input.Earlier) earlier) (after_earlier later) a is

pub to_ground : (earlier later : Result Cells AscFault) (a b : Cells) → or_refused (Asc input.Earlier) earlier ≡ Ok a → or_refused (Asc input.Later) later ≡ Ok b → change_for earlier later ≡ after_later a b
to_ground earlier later a b is_earlier is_later = to_later earlier later a is_earlier ∙ goes_on (or_refused (Asc input.Later) later) (after_later a) b is_later

-- ---- the texts, or the stop of a step

pub stop_earlier : (earlier later : Result Cells AscFault) (stop : TextsError) → StopsFor (or_refused (Asc input.Earlier) earlier) stop → StopsFor (change_for earlier later) stop
unfolding change_for
stop_earlier earlier later stop is = stops_on (or_refused (Asc input.Earlier) earlier) (after_earlier later) stop is

pub stop_later : (earlier later : Result Cells AscFault) (stop : TextsError) (a : Cells) → or_refused (Asc input.Earlier) earlier ≡ Ok a → StopsFor (or_refused (Asc input.Later) later) stop → StopsFor (change_for earlier later) stop
stop_later earlier later stop a is_earlier is = stops_along _ _ stop (to_later earlier later a is_earlier) (stops_on (or_refused (Asc input.Later) later) (after_later a) stop is)

-- what two grids call for, from the refusal of their ground on
pub on_ground : (a b : Cells) (found : Option Refusal) → ground_refusal a.spec b.spec ≡ found → after_later a b ≡ unless found (grid_texts_of a b)
on_ground a b found is = ap (λ o. unless o (grid_texts_of a b)) is
