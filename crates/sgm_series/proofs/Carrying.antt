-- From the list and its entries to the plan.
use Rattle.std.proofs.Common.{◌≡◌, inl, ℕ, zero, suc, arith, List, [], refl, sym, subst, Option, take, length, Result, Ok, append-nil, Bool, true}
use Rattle.sgm_io.specs.Held.{Held}
use Rattle.sgm_list.specs.Entries.{EntryNames, entries_of}
use Rattle.sgm_list.specs.declared.fault.ListFault.{ListFault}
use Rattle.sgm_io.specs.Counts.{Counts}
use Rattle.sgm_stages.specs.Ends.{Faults, faults, SameFaults}
use Rattle.sgm_stages.specs.Verdict.{Verdict}
use Rattle.sgm_series.specs.Words.{ListWords, series_words}
use Rattle.sgm_series.specs.Counted.{SeriesCounts}
use Rattle.sgm_series.specs.Ends.{HadTurns, SeriesOut}
use Rattle.sgm_series.specs.Plans.{Plan, series, AreVerdicts, EntriesCallFor, ListCallsFor, ReadCallsFor, SeriesCallsFor}
use Rattle.sgm_series.specs.Received.{IsWhole, Received}
use Rattle.sgm_series.specs.Stands.{SeriesPut, IsListed, IsListOutcome, outcome_for}
use Rattle.sgm_series.specs.Turns.{lines_for}
use Rattle.sgm_series.specs.declared.words.SeriesUsage.{SeriesUsage}
use Rattle.sgm_series.specs.declared.outcome.SeriesOutcome.{SeriesOutcome}
use Rattle.sgm_series.specs.declared.outcome.SeriesOutcome.TheVariants.{Done, Usage, RefusedList, SomeRefused, ListUnread, ReadFault, WriteFault, NoMemory}

-- words that were read call for what the list calls for
pub list_calls : (words : List (List ℕ)) (w : ListWords) (held : Held) (p : Plan) → series_words words ≡ Ok w → SeriesCallsFor words held p → ListCallsFor w.list (held w.list) held p
list_calls words w held p is calls =
    let P : Result ListWords SeriesUsage → Type 0 = λ r. ReadCallsFor r held p in subst P is calls

-- the entries of a list without a fault are those of the plan
pub entries_call : (list : List ℕ) (held : Held) (entries : List EntryNames) (p : Plan) → IsListed list held entries → ListCallsFor list (held list) held p →
    (vs : List Verdict) × AreVerdicts entries held vs × (p ≡ series entries vs)
entries_call list held entries p listed calls =
    let P : Option (List ℕ) → Type 0 = λ h. ListCallsFor list h held p in
    let Q : Option ListFault → Type 0 = λ f. EntriesCallFor f (entries_of listed.bytes) held p in
    let R : List EntryNames → Type 0 = λ es. (vs : List Verdict) × AreVerdicts es held vs × (p ≡ series es vs) in
    subst R (sym listed.are) (subst Q listed.no_fault (subst P listed.held_are calls))

-- where all entries had their turns
pub all_counts : (list : List ℕ) (refused : ℕ) (before now : Faults) → SameFaults before now → SeriesCounts list (outcome_for refused) before now
all_counts list zero before now same = same
all_counts list (suc more) before now same = same

-- ---- over what was held before the list was fetched

pub verdicts_along : (entries : List EntryNames) (old now : Held) (vs : List Verdict) → now ≡ old → AreVerdicts entries old vs → AreVerdicts entries now vs
verdicts_along entries old now vs same are = let P : Held → Type 0 = λ h. AreVerdicts entries h vs in subst P (sym same) are

pub put_along : (outcome : SeriesOutcome) (turns : ℕ) (vs : List Verdict) (old now new : Held) → now ≡ old → SeriesPut outcome turns vs now new → SeriesPut outcome turns vs old new
put_along outcome turns vs old now new same put = let P : Held → Type 0 = λ h. SeriesPut outcome turns vs h new in subst P same put

pub counts_along : (P : Faults → Faults → Type 0) (before mid now : Faults) → SameFaults before mid → P mid now → P before now
counts_along P before mid now same p =
    let Q : Counts → Type 0 = λ x. P (faults x mid.writes mid.out) now in
    let R : Counts → Type 0 = λ x. P (faults before.reads x mid.out) now in
    let S : ℕ → Type 0 = λ x. P (faults before.reads before.writes x) now in
    subst S same.out (subst R same.writes (subst Q same.reads p))

pub list_along : (list name : List ℕ) (outcome : SeriesOutcome) (before now : Faults) → list ≡ name → SeriesCounts name outcome before now → SeriesCounts list outcome before now
list_along list name outcome before now is counts = let P : List ℕ → Type 0 = λ n. SeriesCounts n outcome before now in subst P (sym is) counts

-- ---- where a series ended before its first entry

pub none_received : (whole : Bool) (err : List ℕ) → whole ≡ true → Received whole [] err err
none_received whole err is = subst (λ (b : Bool). Received b [] err err) (sym is) (sym (append-nil err))

pub whole_at_first : (whole : Bool) (count : ℕ) → whole ≡ true → IsWhole whole count count
whole_at_first whole count is = subst (λ (b : Bool). IsWhole b count count) (sym is) refl

pub list_stands : (outcome : SeriesOutcome) (vs : List Verdict) (old now : Held) (out err : List ℕ) (whole : Bool) → IsListOutcome outcome → now ≡ old → whole ≡ true
    → HadTurns outcome (length vs) 0 × SeriesPut outcome 0 vs old now × SeriesOut outcome 0 vs out out × Received whole (lines_for (take 0 vs)) err err
list_stands (RefusedList fault) vs old now out err whole kind same is = (refl, same, refl, none_received whole err is)
list_stands ListUnread vs old now out err whole kind same is = (refl, same, refl, none_received whole err is)
list_stands NoMemory vs old now out err whole kind same is = (omega arith, inl same, sym (append-nil out), none_received whole err is)
list_stands Done vs old now out err whole kind same is = absurd kind
list_stands (Usage fault) vs old now out err whole kind same is = absurd kind
list_stands (SomeRefused refused) vs old now out err whole kind same is = absurd kind
list_stands (ReadFault entry input) vs old now out err whole kind same is = absurd kind
list_stands (WriteFault entry output) vs old now out err whole kind same is = absurd kind
