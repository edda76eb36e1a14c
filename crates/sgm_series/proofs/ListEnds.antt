-- What follows from a list's fault, or from its having none.
use Rattle.std.proofs.Common.{◌≡◌, ℕ, ◌<◌, ◌≤◌, List, length, Bool, true, false, cond, Option, Some, None, Err, refl, ap, arith}
use Rattle.std.specs.Prelude.{nat_lt}
use Rattle.std.specs.Option.{option_or}
use Rattle.std.proofs.lemmas.Bool.{lt-ltb}
use Rattle.sgm_io.specs.Counts.{Counts}
use Rattle.sgm_io.specs.Fetch.{FetchReads, FetchWrites, Fetches, IsAbove}
use Rattle.sgm_io.specs.declared.shelf.FetchError.{FetchError}
use Rattle.sgm_io.specs.declared.shelf.FetchError.TheVariants as fetch
use Rattle.sgm_list.specs.declared.fault.ListError.{ListError}
use Rattle.sgm_list.specs.declared.fault.ListError.TheVariants as list_error
use Rattle.sgm_list.specs.declared.fault.ListFault.{ListFault}
use Rattle.sgm_list.specs.declared.fault.ListFault.TheVariants.{TooLong, TooMany}
use Rattle.sgm_base.specs.declared.limits.TheConstants.{MAX_LIST_BYTES}
use Rattle.sgm_list.specs.declared.limits.TheConstants.{MAX_ENTRIES}
use Rattle.sgm_list.specs.Entries.{entries_of}
use Rattle.sgm_list.specs.Faults.{IsFault, clash_fault, count_fault, length_fault, line_fault, list_fault, text_fault}
use Rattle.sgm_stages.specs.Ends.{Faults, SameFaults, faults}
use Rattle.sgm_series.specs.Counted.{SeriesCounts}
use Rattle.sgm_series.specs.Stands.{IsListEnd, IsListOutcome, unfetched_outcome, unlisted_outcome}

none_left : {X : Type 0} (a b : Option X) → option_or a b ≡ None → a ≡ None
none_left None b e = refl
none_left (Some x) b e = absurd (cc)

none_right : {X : Type 0} (a b : Option X) → option_or a b ≡ None → b ≡ None
none_right None b e = e
none_right (Some x) b e = absurd (cc)

counted : (list bytes : List ℕ) → list_fault list bytes ≡ None → option_or (count_fault bytes) (clash_fault list bytes) ≡ None
unfolding list_fault
counted list bytes none =
    let a = option_or (count_fault bytes) (clash_fault list bytes) in
    let b = option_or (line_fault bytes) a in
    let c = option_or (text_fault bytes) b in
    none_right (line_fault bytes) a (none_right (text_fault bytes) b (none_right (length_fault bytes) c none))

few_of : (n : ℕ) (fault : ListFault) (b : Bool) → b ≡ nat_lt MAX_ENTRIES n → cond b (Some fault) None ≡ None → n ≤ MAX_ENTRIES
few_of n fault true is e = absurd (cc)
few_of n fault false is e = grind arith

-- a list without a fault has at most so many entries
pub few : (list bytes : List ℕ) → list_fault list bytes ≡ None → length (entries_of bytes) ≤ MAX_ENTRIES
few list bytes none =
    few_of (length (entries_of bytes)) (TooMany (length (entries_of bytes))) (nat_lt MAX_ENTRIES (length (entries_of bytes))) refl
    (none_left (count_fault bytes) (clash_fault list bytes) (counted list bytes none))

-- one that is longer than it may be has that fault
pub too_long : (list bytes : List ℕ) → MAX_LIST_BYTES < length bytes → list_fault list bytes ≡ Some TooLong
unfolding list_fault
too_long list bytes long =
    ap (λ (b : Bool). option_or (cond b (Some TooLong) None) (option_or (text_fault bytes) (option_or (line_fault bytes) (option_or (count_fault bytes) (clash_fault list bytes)))))
    (lt-ltb MAX_LIST_BYTES (length bytes) long)

long_end : (list : List ℕ) (held : Option (List ℕ)) → IsAbove MAX_LIST_BYTES held → (bytes : List ℕ) × (held ≡ Some bytes) × (list_fault list bytes ≡ Some TooLong)
long_end list None above = absurd above
long_end list (Some bytes) above = (bytes, refl, too_long list bytes above)

-- ---- a list that wasn't fetched

pub unfetched_end : (list : List ℕ) (held : Option (List ℕ)) (into : List ℕ) (error : FetchError) → Fetches MAX_LIST_BYTES held (Err error) into → IsListEnd held list (unfetched_outcome error)
unfetched_end list held into fetch.Failed fetches = tt
unfetched_end list held into fetch.TooLong fetches = long_end list held fetches
unfetched_end list held into fetch.NoMemory fetches = tt

pub unfetched_kind : (error : FetchError) → IsListOutcome (unfetched_outcome error)
unfetched_kind fetch.Failed = tt
unfetched_kind fetch.TooLong = tt
unfetched_kind fetch.NoMemory = tt

pub unfetched_counts : (list : List ℕ) (error : FetchError) (reads writes reads' writes' : Counts) (out : ℕ) → FetchReads list (Err error) reads reads' → FetchWrites (Err error) writes writes'
    → SeriesCounts list (unfetched_outcome error) (faults reads writes out) (faults reads' writes' out)
unfetched_counts list fetch.Failed reads writes reads' writes' out rose fell = record { reads = rose; writes = fell; out = refl }
unfetched_counts list fetch.TooLong reads writes reads' writes' out r w = record { reads = r; writes = w; out = refl }
unfetched_counts list fetch.NoMemory reads writes reads' writes' out r w = record { reads = r; writes = w; out = refl }

-- ---- one without entries

pub unlisted_end : (list bytes : List ℕ) (held : Option (List ℕ)) (error : ListError) → held ≡ Some bytes → IsFault (list_fault list bytes) error → IsListEnd held list (unlisted_outcome error)
unlisted_end list bytes held (list_error.Fault fault) is of = (bytes, is, of)
unlisted_end list bytes held list_error.NoMemory is of = tt

pub unlisted_kind : (error : ListError) → IsListOutcome (unlisted_outcome error)
unlisted_kind (list_error.Fault fault) = tt
unlisted_kind list_error.NoMemory = tt

pub unlisted_counts : (list : List ℕ) (error : ListError) (before now : Faults) → SameFaults before now → SeriesCounts list (unlisted_outcome error) before now
unlisted_counts list (list_error.Fault fault) before now same = same
unlisted_counts list list_error.NoMemory before now same = same
