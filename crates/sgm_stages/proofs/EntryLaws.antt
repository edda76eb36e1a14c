-- The entries of a list, one after the other.
use Rattle.std.proofs.Common.{◌≡◌, ◌∙◌, refl, sym, ap, subst, ℕ, suc, ◌+◌, ◌<◌, arith, List, [], ◌∷◌, ◌++◌, append_assoc, add-one, length, drop, fold, slice_get, None, Some, Result, Ok, Err, Bool, true, false, if◌then◌else◌, String, Global}
use Rattle.std.proofs.lemmas.List.Sums.{fold-append}
use Rattle.std.proofs.lemmas.Option.{get_or_from_slice_get}
use Rattle.std.proofs.Math.Seq.{drop-cons}
use Rattle.sgm_grid.specs.Cells.{Cells, IsGridSpec}
use Rattle.sgm_grid.specs.declared.asc_fault.AscFault.{AscFault}
use Rattle.sgm_grid.specs.declared.grid_spec.GridSpec.{GridSpec}
use Rattle.sgm_io.specs.Held.{Held}
use Rattle.sgm_merge.specs.Fits.{fits}
use Rattle.sgm_merge.specs.Merged.{merged}
use Rattle.sgm_merge.specs.Merging.{Merging, grid_in, no_entries, with_entry}
use Rattle.sgm_merge.proofs.Entries.{entries_are_merged}
use Rattle.sgm_outcome.specs.declared.outcome.Outcome.{Outcome}
use Rattle.sgm_outcome.specs.declared.outcome.Refusal.{Refusal}
use Rattle.sgm_outcome.specs.declared.outcome.Refusal.TheVariants as refusal
use Rattle.sgm_words.specs.Operands.{FileNames, IsInputName, bytes_of, of_merge}
use Rattle.sgm_words.specs.declared.files.Input.TheVariants as input
use Rattle.sgm_stages.specs.Ends.{NoneBefore, ShownBy}
use Rattle.sgm_stages.specs.Entries.{NoneEver}
use Rattle.sgm_stages.specs.Judge.{StopsFor}
use Rattle.sgm_stages.specs.Merging.{MergePlan, MergedTexts, cells_refusal, entry_for, merged_texts_of}
use Rattle.sgm_stages.specs.Outputs.{merge_files_of}
use Rattle.sgm_stages.specs.Refusals.{or_refused, unless}
use Rattle.sgm_stages.specs.Verdict.{Verdict, files, entry_fetched, entries_fetched, merged_by}
use Rattle.sgm_stages.specs.declared.stops.TextsError.{TextsError}
use Rattle.sgm_stages.proofs.Steps.{goes_on, stops_on, shown_along}
use Rattle.sgm_stages.proofs.VerdictLaws.{never_merged, none_entries}

-- names of files of which any may be that of an entry
abbrev pub no_words : FileNames
no_words = of_merge (record { list = []; calib = []; out = [] }) None

-- ---- one entry is judged

abbrev on_cells : GridSpec → ℕ → Cells → Result Cells Refusal
on_cells spec k entry = unless (cells_refusal spec k entry.spec) entry

pub to_cells : (spec : GridSpec) (k : ℕ) (reading : Result Cells AscFault) (entry : Cells) → or_refused (refusal.Asc (input.Grid k)) reading ≡ Ok entry → entry_for spec k reading ≡ on_cells spec k entry
unfolding entry_for
to_cells spec k reading entry is = goes_on (or_refused (refusal.Asc (input.Grid k)) reading) (on_cells spec k) entry is

pub stop_reading : (spec : GridSpec) (k : ℕ) (reading : Result Cells AscFault) (stop : TextsError) → StopsFor (or_refused (refusal.Asc (input.Grid k)) reading) stop → StopsFor (entry_for spec k reading) stop
unfolding entry_for
stop_reading spec k reading stop is = stops_on (or_refused (refusal.Asc (input.Grid k)) reading) (on_cells spec k) stop is

pub given_on_cells : (spec : GridSpec) (k : ℕ) (reading : Result Cells AscFault) (entry : Cells) → or_refused (refusal.Asc (input.Grid k)) reading ≡ Ok entry → fits spec entry.spec ≡ true → entry_for spec k reading ≡ Ok entry
given_on_cells spec k reading entry is on =
    to_cells spec k reading entry is ∙ ap (λ (b : Bool). unless (if b then None else Some (refusal.NotOnCells k)) entry) on

pub refused_off_cells : (spec : GridSpec) (k : ℕ) (reading : Result Cells AscFault) (entry : Cells) → or_refused (refusal.Asc (input.Grid k)) reading ≡ Ok entry → fits spec entry.spec ≡ false
    → entry_for spec k reading ≡ Err (refusal.NotOnCells k)
refused_off_cells spec k reading entry is off =
    to_cells spec k reading entry is ∙ ap (λ (b : Bool). unless (if b then None else Some (refusal.NotOnCells k)) entry) off

-- ---- one entry after the other

-- the first n entries were added: they are these, and the verdict goes on with the others
pub record AreAdded (start now : Merging) (names : List (List ℕ)) (held : Held) (n : ℕ) : Type 0 where
  pub entries : List Cells
  pub added : now ≡ fold with_entry start entries
  pub goes_on : (next : List Cells → Verdict) → entries_fetched start.spec 0 names held next ≡ entries_fetched start.spec n (drop n names) held (λ later. next (entries ++ later))

pub none_added : (start : Merging) (names : List (List ℕ)) (held : Held) → AreAdded start start names held 0
none_added start names held = record { entries = []; added = refl; goes_on = λ next. refl }

-- the entries from the n-th on begin with that
pub at_name : (spec : GridSpec) (names : List (List ℕ)) (n : ℕ) (name : List ℕ) (held : Held) (next : List Cells → Verdict) → n < length names → slice_get names n ≡ Some name
    → entries_fetched spec n (drop n names) held next ≡ entry_fetched spec n (held name) (λ entry. entries_fetched spec (n + 1) (drop (n + 1) names) held (λ later. next (entry ∷ later)))
at_name spec names n name held next lt is =
    let first : drop n names ≡ name ∷ drop (n + 1) names = drop-cons names n name lt ∙ ap (λ (x : List ℕ). x ∷ drop (suc n) names) (get_or_from_slice_get names n name name is) ∙ ap (λ (m : ℕ). name ∷ drop m names) (sym (add-one n)) in
    ap (λ (ns : List (List ℕ)). entries_fetched spec n ns held next) first

-- one entry more
pub one_added : (start now new : Merging) (names : List (List ℕ)) (held : Held) (n : ℕ) (name : List ℕ) (entry : Cells) → n < length names → slice_get names n ≡ Some name → now.spec ≡ start.spec
    → AreAdded start now names held n → new ≡ with_entry now entry → ((next : Cells → Verdict) → entry_fetched now.spec n (held name) next ≡ next entry) → AreAdded start new names held (n + 1)
one_added start now new names held n name entry lt is same before adds goes = record {
  entries = before.entries ++ entry ∷ [];
  added = adds ∙ ap (λ (m : Merging). with_entry m entry) before.added ∙ sym (fold-append with_entry start before.entries (entry ∷ []));
  goes_on = λ next.
      let rest : List Cells → Verdict = λ later. next (before.entries ++ later) in
      let after : Cells → Verdict = λ e. entries_fetched start.spec (n + 1) (drop (n + 1) names) held (λ later. rest (e ∷ later)) in
      let P : GridSpec → Type 0 = λ s. entry_fetched s n (held name) after ≡ after entry in
      before.goes_on next
      ∙ at_name start.spec names n name held rest lt is
      ∙ subst P same (goes after)
      ∙ ap (λ (f : List Cells → Verdict). entries_fetched start.spec (n + 1) (drop (n + 1) names) held f)
      (λ i later. next (sym (append_assoc before.entries (entry ∷ []) later) i));
}

-- the outcome of an entry is shown by the verdict
pub one_shown : (start now : Merging) (names : List (List ℕ)) (held : Held) (n : ℕ) (name : List ℕ) (outcome : Outcome) → n < length names → slice_get names n ≡ Some name → now.spec ≡ start.spec
    → AreAdded start now names held n → ((next : Cells → Verdict) → ((entry : Cells) → NoneBefore (n + 7) (next entry)) → ShownBy (entry_fetched now.spec n (held name) next) outcome)
    → (next : List Cells → Verdict) → NoneEver next → ShownBy (entries_fetched start.spec 0 names held next) outcome
one_shown start now names held n name outcome lt is same before shows next none =
    let rest : List Cells → Verdict = λ later. next (before.entries ++ later) in
    let after : Cells → Verdict = λ e. entries_fetched start.spec (n + 1) (drop (n + 1) names) held (λ later. rest (e ∷ later)) in
    let P : GridSpec → Type 0 = λ s. ShownBy (entry_fetched s n (held name) after) outcome in
    shown_along _ _ _ (before.goes_on next ∙ at_name start.spec names n name held rest lt is)
    (subst P same (shows after (λ e. none_entries (n + 7) (n + 1) start.spec (drop (n + 1) names) held (λ later. rest (e ∷ later)) (omega arith) (λ later. none (n + 7) (before.entries ++ e ∷ later)))))

-- ---- the texts of all entries

pub entries_made : (plan : MergePlan) (names items : List (String Global)) (held : Held) (start done : Merging) (entries : List Cells) (grid : Cells) (made : MergedTexts) (out : List ℕ) → names ≡ items
    → plan.names ≡ bytes_of items → IsGridSpec plan.spec → start ≡ no_entries plan.calib.gridding.keep plan.spec → done ≡ fold with_entry start entries
    → ((next : List Cells → Verdict) → entries_fetched start.spec 0 (bytes_of names) held next ≡ next entries)
    → grid ≡ grid_in done → made ≡ merged_texts_of plan.calib grid
    → entries_fetched plan.spec 0 plan.names held (merged_by out plan) ≡ files (merge_files_of out made) made.summary
entries_made plan names items held start done entries grid made out same are ranges begins folds goes is makes =
    let keep = plan.calib.gridding.keep in
    let P : Merging → Type 0 = λ m. entries_fetched m.spec 0 (bytes_of names) held (merged_by out plan) ≡ merged_by out plan entries in
    let grids : grid ≡ merged keep plan.spec entries =
    is ∙ ap (λ (m : Merging). grid_in m) folds ∙ ap (λ (m : Merging). grid_in (fold with_entry m entries)) begins ∙ entries_are_merged keep plan.spec entries ranges in
    ap (λ (ns : List (List ℕ)). entries_fetched plan.spec 0 ns held (merged_by out plan)) (are ∙ sym (ap (λ (ns : List (String Global)). bytes_of ns) same))
    ∙ subst P begins (goes (merged_by out plan))
    ∙ ap (λ (t : MergedTexts). files (merge_files_of out t) t.summary) (sym (makes ∙ ap (λ (g : Cells). merged_texts_of plan.calib g) grids))

pub entries_shown : (plan : MergePlan) (names : List (List ℕ)) (held : Held) (start : Merging) (outcome : Outcome) (out : List ℕ) → start ≡ no_entries plan.calib.gridding.keep plan.spec
    → ((next : List Cells → Verdict) → NoneEver next → ShownBy (entries_fetched start.spec 0 names held next) outcome)
    → ShownBy (entries_fetched plan.spec 0 names held (merged_by out plan)) outcome
entries_shown plan names held start outcome out begins shows =
    let P : Merging → Type 0 = λ m. ShownBy (entries_fetched m.spec 0 names held (merged_by out plan)) outcome in
    subst P begins (shows (merged_by out plan) (never_merged out plan))

-- names that are known of some words are of those that they are
pub names_along : (names items : List (String Global)) (known : FileNames) → names ≡ items → ((k : ℕ) (name : List ℕ) → slice_get (bytes_of items) k ≡ Some name → IsInputName known (input.Grid k) name)
    → (k : ℕ) (name : List ℕ) → slice_get (bytes_of names) k ≡ Some name → IsInputName known (input.Grid k) name
names_along names items known same are k name at = are k name (sym (ap (λ (ns : List (String Global)). slice_get (bytes_of ns) k) same) ∙ at)
