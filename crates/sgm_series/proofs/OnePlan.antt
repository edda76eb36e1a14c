-- The words call for some plan, and for only one.
use Rattle.std.proofs.Common.{◌≡◌, ℕ, zero, suc, List, [], ◌∷◌, length, Option, Some, None, Result, Ok, Err, refl, sym, ap, subst, ◌∙◌, arith}
use Rattle.std.specs.Prelude.{slice_get}
use Rattle.sgm_io.specs.Held.{Held, HoldsBytes}
use Rattle.sgm_list.specs.Entries.{EntryNames, entries_of}
use Rattle.sgm_list.specs.Faults.{list_fault}
use Rattle.sgm_list.specs.declared.fault.ListFault.{ListFault}
use Rattle.sgm_stages.specs.Verdict.{Verdict}
use Rattle.sgm_app.proofs.OneVerdict.{verdict_some, verdict_one}
use Rattle.sgm_series.specs.EntryWords.{match_words}
use Rattle.sgm_series.specs.Words.{ListWords, series_words}
use Rattle.sgm_series.specs.Plans.{Plan, usage, no_list, faulty, series, EntryCallsFor, AreVerdicts, EntriesCallFor, ListCallsFor, ReadCallsFor, SeriesCallsFor}
use Rattle.sgm_series.specs.declared.words.SeriesUsage.{SeriesUsage}
use Rattle.sgm_series.proofs.WordsOfEntries.{calls_by_words, calls_by_operands}

-- ---- some plan

-- each entry calls for a verdict
abbrev EachSome : List EntryNames → Held → Type 0
EachSome entries held = (place : ℕ) (entry : EntryNames) → slice_get entries place ≡ Some entry → (v : Verdict) × EntryCallsFor entry held v

verdicts_some : (entries : List EntryNames) (held : Held) → EachSome entries held → (verdicts : List Verdict) × AreVerdicts entries held verdicts
verdicts_some [] held some = ([], record { count = refl; each = λ place entry v at of. absurd (cc) })
verdicts_some (first ∷ entries) held some =
    let here = some 0 first refl in let rest = verdicts_some entries held (λ place. some (suc place)) in
    (here.0 ∷ rest.0, record { count = ap (λ (n : ℕ). suc n) rest.1.count; each = by_place here.0 rest.0 here.1 rest.1.each })
  where
    by_place : (v : Verdict) (verdicts : List Verdict) → EntryCallsFor first held v
        → ((place : ℕ) (entry : EntryNames) (w : Verdict) → slice_get entries place ≡ Some entry → slice_get verdicts place ≡ Some w → EntryCallsFor entry held w)
        → (place : ℕ) (entry : EntryNames) (w : Verdict) → slice_get (first ∷ entries) place ≡ Some entry → slice_get (v ∷ verdicts) place ≡ Some w → EntryCallsFor entry held w
    by_place v verdicts here later zero entry w at of =
        let same : first ≡ entry = cc in let also : v ≡ w = cc in
        let E : EntryNames → Type 0 = λ e. EntryCallsFor e held w in let V : Verdict → Type 0 = λ x. EntryCallsFor first held x in
        subst E same (subst V also here)
    by_place v verdicts here later (suc place) entry w at of = later place entry w at of

entries_some : (fault : Option ListFault) (entries : List EntryNames) (held : Held) → (fault ≡ None → EachSome entries held) → (plan : Plan) × EntriesCallFor fault entries held plan
entries_some (Some fault) entries held some = (faulty fault, refl)
entries_some None entries held some = let found = verdicts_some entries held (some refl) in (series entries found.0, (found.0, found.1, refl))

list_some : (list : List ℕ) (bytes : Option (List ℕ)) (held : Held) → HoldsBytes held → (plan : Plan) × ListCallsFor list bytes held plan
list_some list None held are = (no_list, refl)
list_some list (Some bytes) held are = entries_some (list_fault list bytes) (entries_of bytes) held (λ none place entry at.
    let found = verdict_some (match_words entry) held are in
    (found.0, calls_by_operands list bytes place entry held found.0 none at found.1))

read_some : (read : Result ListWords SeriesUsage) (held : Held) → HoldsBytes held → (plan : Plan) × ReadCallsFor read held plan
read_some (Err fault) held are = (usage fault, refl)
read_some (Ok words) held are = list_some words.list (held words.list) held are

pub plan_some : (words : List (List ℕ)) (held : Held) → HoldsBytes held → (plan : Plan) × SeriesCallsFor words held plan
plan_some words held are = read_some (series_words words) held are

-- ---- only one

-- each entry calls for one verdict at most
abbrev EachOne : List EntryNames → Held → Type 0
EachOne entries held = (place : ℕ) (entry : EntryNames) (v w : Verdict) → slice_get entries place ≡ Some entry → EntryCallsFor entry held v → EntryCallsFor entry held w → v ≡ w

abbrev Each : List EntryNames → Held → List Verdict → Type 0
Each entries held verdicts = (place : ℕ) (entry : EntryNames) (v : Verdict) → slice_get entries place ≡ Some entry → slice_get verdicts place ≡ Some v → EntryCallsFor entry held v

verdicts_one : (entries : List EntryNames) (held : Held) (one other : List Verdict) → EachOne entries held → length one ≡ length entries → length other ≡ length entries → Each entries held one → Each entries held other → one ≡ other
verdicts_one [] held [] [] only m n a b = refl
verdicts_one [] held [] (w ∷ other) only m n a b = absurd (omega (arith, n))
verdicts_one [] held (v ∷ one) other only m n a b = absurd (omega (arith, m))
verdicts_one (entry ∷ entries) held [] other only m n a b = absurd (omega (arith, m))
verdicts_one (entry ∷ entries) held (v ∷ one) [] only m n a b = absurd (omega (arith, n))
verdicts_one (entry ∷ entries) held (v ∷ one) (w ∷ other) only m n a b =
    let first : v ≡ w = only 0 entry v w refl (a 0 entry v refl refl) (b 0 entry w refl refl) in
    let rest : one ≡ other = verdicts_one entries held one other (λ place. only (suc place)) (omega (arith, m)) (omega (arith, n)) (λ place. a (suc place)) (λ place. b (suc place)) in
    ap (λ (x : Verdict). x ∷ one) first ∙ ap (λ (xs : List Verdict). w ∷ xs) rest

entries_one : (fault : Option ListFault) (entries : List EntryNames) (held : Held) (one other : Plan) → (fault ≡ None → EachOne entries held) → EntriesCallFor fault entries held one → EntriesCallFor fault entries held other → one ≡ other
entries_one (Some fault) entries held one other only a b = a ∙ sym b
entries_one None entries held one other only (vs, are, is) (ws, also, so) =
    is ∙ ap (λ (xs : List Verdict). series entries xs) (verdicts_one entries held vs ws (only refl) are.count also.count are.each also.each) ∙ sym so

list_one : (list : List ℕ) (bytes : Option (List ℕ)) (held : Held) (one other : Plan) → ListCallsFor list bytes held one → ListCallsFor list bytes held other → one ≡ other
list_one list None held one other a b = a ∙ sym b
list_one list (Some bytes) held one other a b = entries_one (list_fault list bytes) (entries_of bytes) held one other only a b
  where
    only : list_fault list bytes ≡ None → EachOne (entries_of bytes) held
    only none place entry v w at p q =
        verdict_one (match_words entry) held v w (calls_by_words list bytes place entry held v none at p) (calls_by_words list bytes place entry held w none at q)

read_one : (read : Result ListWords SeriesUsage) (held : Held) (one other : Plan) → ReadCallsFor read held one → ReadCallsFor read held other → one ≡ other
read_one (Err fault) held one other a b = a ∙ sym b
read_one (Ok words) held one other a b = list_one words.list (held words.list) held one other a b

pub plan_one : (words : List (List ℕ)) (held : Held) (one other : Plan) → SeriesCallsFor words held one → SeriesCallsFor words held other → one ≡ other
plan_one words held one other a b = read_one (series_words words) held one other a b
