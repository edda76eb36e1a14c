-- The absent input of a verdict is the first of those that are asked for that isn't held.
use Rattle.std.proofs.Common.{◌≡◌, ◌≢◌, ℕ, zero, suc, ◌+◌, ◌<◌, List, [], ◌∷◌, refl, sym, ap, subst, ◌∙◌, arith, Option, None, Some, Result, Ok, Err, Bool, true, false, length, nat_lt, slice_get, if◌then◌else◌}
use Rattle.sgm_io.specs.Held.{Held}
use Rattle.sgm_calib.specs.Calibration.{Calibration}
use Rattle.sgm_calib.specs.declared.keys.CalibFault.{CalibFault}
use Rattle.sgm_grid.specs.Cells.{Cells}
use Rattle.sgm_grid.specs.declared.grid_spec.GridSpec.{GridSpec}
use Rattle.sgm_words.specs.Operands.{Operands, ChangeOperands, MergeOperands, FileNames, of_match, of_trace, of_change, of_merge, is_plain, is_plain_word, IsPairInput, IsChangeInput, IsMergeInput, IsInputName}
use Rattle.sgm_words.specs.declared.files.Input.{Input}
use Rattle.sgm_words.specs.declared.files.Input.TheVariants as input
use Rattle.sgm_outcome.specs.declared.outcome.Refusal.{Refusal}
use Rattle.sgm_outcome.specs.declared.outcome.Refusal.TheVariants.{TooLong}
use Rattle.sgm_stages.specs.Ends.{order_of, names_listed}
use Rattle.sgm_stages.specs.Merging.{MergePlan, entry_for}
use Rattle.sgm_stages.specs.Readings.{grid_reading}
use Rattle.sgm_stages.specs.Verdict.{Verdict, absent, refused, fetched, calib_fetched, most_bytes, pair_fetched, grids_fetched, merge_fetched, entries_fetched, merged_by, plan_carried_out, plan_of, unless_refused}
use Rattle.sgm_stages.proofs.Planning.{names_planned}
use Rattle.sgm_stages.proofs.VerdictLaws.{IsPresent, present_merged}

-- a step that fetches an input ends in an absent one: this one is, or it is held and a later one is
pub data FetchAbsent (i : Input) (held : Option (List ℕ)) (next : Verdict) (which : Input) : Type 0 where
  here : held ≡ None → i ≡ which → FetchAbsent i held next which
  later : (bytes : List ℕ) → held ≡ Some bytes → next ≡ absent which → FetchAbsent i held next which

fetch_absent : (i : Input) (held : Option (List ℕ)) (next : Verdict) (which : Input) → fetched i held next ≡ absent which → FetchAbsent i held next which
fetch_absent i None next which e = let same : i ≡ which = cc in here refl same
fetch_absent i (Some bytes) next which e = elim (nat_lt (most_bytes i) (length bytes)) as (λ t. (if t then refused (TooLong i) else next) ≡ absent which → FetchAbsent i (Some bytes) next which) [
  | true ↦ λ bad. absurd (cc)
  | false ↦ λ on. later bytes refl on
] e

-- the name of the input that a verdict calls absent isn't held, and those of earlier inputs are
pub record IsFirstAbsent (names : FileNames) (held : Held) (which : Input) : Type 0 where
  pub asks : (name : List ℕ) × IsInputName names which name
  pub none : (name : List ℕ) → IsInputName names which name → held name ≡ None
  pub some : (at : Input) (name : List ℕ) → order_of at < order_of which → IsInputName names at name → held name ≢ None

none_differs : {A : Type 0} (o : Option A) (x : A) → o ≡ Some x → o ≢ None
none_differs o x e n = absurd (cc)

-- ---- the order of the inputs

input_at : ℕ → Input
input_at zero = input.List
input_at (suc zero) = input.Left
input_at (suc (suc zero)) = input.Right
input_at (suc (suc (suc zero))) = input.Calibration
input_at (suc (suc (suc (suc zero)))) = input.Earlier
input_at (suc (suc (suc (suc (suc zero))))) = input.Later
input_at (suc (suc (suc (suc (suc (suc zero)))))) = input.Later
input_at (suc (suc (suc (suc (suc (suc (suc k))))))) = input.Grid k

at_order : (i : Input) → input_at (order_of i) ≡ i
unfolding input_at
at_order input.List = refl
at_order input.Left = refl
at_order input.Right = refl
at_order input.Calibration = refl
at_order input.Earlier = refl
at_order input.Later = refl
at_order (input.Grid k) = ap input_at (let e : k + 7 ≡ suc (suc (suc (suc (suc (suc (suc k)))))) = omega arith in e)

pub same_order : (a b : Input) → order_of a ≡ order_of b → a ≡ b
same_order a b e = sym (at_order a) ∙ ap input_at e ∙ at_order b

-- ---- a match or a trace

at_left : (asked : Operands) (held : Held) → held asked.left ≡ None → IsFirstAbsent (of_match asked) held input.Left
at_left asked held none = record {
  asks = (asked.left, refl);
  none = λ name is. ap (λ (n : List ℕ). held n) is ∙ none;
  some = λ at name lt is. some at name lt is;
} where
  some : (at : Input) (name : List ℕ) → order_of at < 1 → IsPairInput asked at name → held name ≢ None
  some input.List name lt is = absurd is
  some input.Left name lt is = absurd (omega arith)
  some input.Right name lt is = absurd (omega arith)
  some input.Calibration name lt is = absurd (omega arith)
  some input.Earlier name lt is = absurd is
  some input.Later name lt is = absurd is
  some (input.Grid k) name lt is = absurd is

at_right : (asked : Operands) (held : Held) (l : List ℕ) → held asked.left ≡ Some l → held asked.right ≡ None → IsFirstAbsent (of_match asked) held input.Right
at_right asked held l left none = record {
  asks = (asked.right, refl);
  none = λ name is. ap (λ (n : List ℕ). held n) is ∙ none;
  some = λ at name lt is. some at name lt is;
} where
  some : (at : Input) (name : List ℕ) → order_of at < 2 → IsPairInput asked at name → held name ≢ None
  some input.List name lt is = absurd is
  some input.Left name lt is = none_differs (held name) l (ap (λ (n : List ℕ). held n) is ∙ left)
  some input.Right name lt is = absurd (omega arith)
  some input.Calibration name lt is = absurd (omega arith)
  some input.Earlier name lt is = absurd is
  some input.Later name lt is = absurd is
  some (input.Grid k) name lt is = absurd is

at_calib : (asked : Operands) (held : Held) (l r : List ℕ) → is_plain asked ≡ false → held asked.left ≡ Some l → held asked.right ≡ Some r → held asked.calib ≡ None → IsFirstAbsent (of_match asked) held input.Calibration
at_calib asked held l r own left right none = record {
  asks = (asked.calib, (own, refl));
  none = λ name is. ap (λ (n : List ℕ). held n) is.1 ∙ none;
  some = λ at name lt is. some at name lt is;
} where
  some : (at : Input) (name : List ℕ) → order_of at < 3 → IsPairInput asked at name → held name ≢ None
  some input.List name lt is = absurd is
  some input.Left name lt is = none_differs (held name) l (ap (λ (n : List ℕ). held n) is ∙ left)
  some input.Right name lt is = none_differs (held name) r (ap (λ (n : List ℕ). held n) is ∙ right)
  some input.Calibration name lt is = absurd (omega arith)
  some input.Earlier name lt is = absurd is
  some input.Later name lt is = absurd is
  some (input.Grid k) name lt is = absurd is

-- the absent input of a match is the first that isn't held
pub first_absent : (asked : Operands) (held : Held) (next : Verdict) (which : Input) → IsPresent next → pair_fetched asked held next ≡ absent which → IsFirstAbsent (of_match asked) held which
unfolding pair_fetched
first_absent asked held next which none e =
    let third = calib_fetched (is_plain asked) (held asked.calib) next in
    let second = fetched input.Right (held asked.right) third in
    let P : Input → Type 0 = λ i. IsFirstAbsent (of_match asked) held i in
    elim (fetch_absent input.Left (held asked.left) second which e) [
      | here gone is ↦ subst P is (at_left asked held gone)
      | later l left e' ↦ elim (fetch_absent input.Right (held asked.right) third which e') [
        | here gone is ↦ subst P is (at_right asked held l left gone)
        | later r' right e'' ↦ third_absent asked held next which l r' none left right (is_plain asked) refl e''
      ]
    ]
  where
    third_absent : (asked : Operands) (held : Held) (next : Verdict) (which : Input) (l r' : List ℕ) → IsPresent next → held asked.left ≡ Some l → held asked.right ≡ Some r' → (plain : Bool) → is_plain asked ≡ plain
        → calib_fetched plain (held asked.calib) next ≡ absent which → IsFirstAbsent (of_match asked) held which
    third_absent asked held next which l r' none left right true own e = absurd (none which e)
    third_absent asked held next which l r' none left right false own e = elim (fetch_absent input.Calibration (held asked.calib) next which e) [
      | here gone is ↦ let P : Input → Type 0 = λ i. IsFirstAbsent (of_match asked) held i in subst P is (at_calib asked held l r' own left right gone)
      | later bytes there e' ↦ absurd (none which e')
    ]

-- a trace asks for the same inputs
pub of_a_trace : (asked : Operands) (held : Held) (which : Input) → IsFirstAbsent (of_match asked) held which → IsFirstAbsent (of_trace asked) held which
of_a_trace asked held which is = record { asks = is.asks; none = is.none; some = is.some }

-- ---- a change

at_earlier : (asked : ChangeOperands) (held : Held) → held asked.earlier ≡ None → IsFirstAbsent (of_change asked) held input.Earlier
at_earlier asked held none = record {
  asks = (asked.earlier, refl);
  none = λ name is. ap (λ (n : List ℕ). held n) is ∙ none;
  some = λ at name lt is. some at name lt is;
} where
  some : (at : Input) (name : List ℕ) → order_of at < 4 → IsChangeInput asked at name → held name ≢ None
  some input.List name lt is = absurd is
  some input.Left name lt is = absurd is
  some input.Right name lt is = absurd is
  some input.Calibration name lt is = absurd is
  some input.Earlier name lt is = absurd (omega arith)
  some input.Later name lt is = absurd (omega arith)
  some (input.Grid k) name lt is = absurd is

at_later : (asked : ChangeOperands) (held : Held) (e : List ℕ) → held asked.earlier ≡ Some e → held asked.later ≡ None → IsFirstAbsent (of_change asked) held input.Later
at_later asked held e earlier none = record {
  asks = (asked.later, refl);
  none = λ name is. ap (λ (n : List ℕ). held n) is ∙ none;
  some = λ at name lt is. some at name lt is;
} where
  some : (at : Input) (name : List ℕ) → order_of at < 5 → IsChangeInput asked at name → held name ≢ None
  some input.List name lt is = absurd is
  some input.Left name lt is = absurd is
  some input.Right name lt is = absurd is
  some input.Calibration name lt is = absurd is
  some input.Earlier name lt is = none_differs (held name) e (ap (λ (n : List ℕ). held n) is ∙ earlier)
  some input.Later name lt is = absurd (omega arith)
  some (input.Grid k) name lt is = absurd is

-- the absent grid of a change is the first that isn't held
pub first_absent_grid : (asked : ChangeOperands) (held : Held) (next : Verdict) (which : Input) → IsPresent next → grids_fetched asked held next ≡ absent which → IsFirstAbsent (of_change asked) held which
unfolding grids_fetched
first_absent_grid asked held next which none e =
    let second = fetched input.Later (held asked.later) next in
    let P : Input → Type 0 = λ i. IsFirstAbsent (of_change asked) held i in
    elim (fetch_absent input.Earlier (held asked.earlier) second which e) [
      | here gone is ↦ subst P is (at_earlier asked held gone)
      | later l earlier e' ↦ elim (fetch_absent input.Later (held asked.later) next which e') [
        | here gone is ↦ subst P is (at_later asked held l earlier gone)
        | later r there e'' ↦ absurd (none which e'')
      ]
    ]

-- ---- a merge

-- the first of these names that isn't held, the first of which has the number k, is that of the absent entry
pub record IsAbsentEntry (names : List (List ℕ)) (held : Held) (k : ℕ) (which : Input) : Type 0 where
  pub place : ℕ
  pub name : List ℕ
  pub is : input.Grid (k + place) ≡ which
  pub there : slice_get names place ≡ Some name
  pub none : held name ≡ None
  pub some : (earlier : ℕ) (other : List ℕ) → earlier < place → slice_get names earlier ≡ Some other → held other ≢ None

entry_here : (name : List ℕ) (names : List (List ℕ)) (held : Held) (k : ℕ) (which : Input) → held name ≡ None → input.Grid k ≡ which → IsAbsentEntry (name ∷ names) held k which
entry_here name names held k which none is = record {
  place = 0;
  name = name;
  is = ap (λ (n : ℕ). input.Grid n) (let e : k + 0 ≡ k = omega arith in e) ∙ is;
  there = refl;
  none = none;
  some = λ earlier other lt there. absurd (omega arith);
}

entry_later : (name : List ℕ) (names : List (List ℕ)) (held : Held) (k : ℕ) (which : Input) (bytes : List ℕ) → held name ≡ Some bytes → IsAbsentEntry names held (k + 1) which → IsAbsentEntry (name ∷ names) held k which
entry_later name names held k which bytes there one = record {
  place = suc one.place;
  name = one.name;
  is = ap (λ (n : ℕ). input.Grid n) (let e : k + suc one.place ≡ (k + 1) + one.place = omega arith in e) ∙ one.is;
  there = one.there;
  none = one.none;
  some = some;
} where
  some : (earlier : ℕ) (other : List ℕ) → earlier < suc one.place → slice_get (name ∷ names) earlier ≡ Some other → held other ≢ None
  some zero other lt is = let same : name ≡ other = cc in none_differs (held other) bytes (ap (λ (n : List ℕ). held n) (sym same) ∙ there)
  some (suc earlier) other lt is = one.some earlier other (omega (arith, lt)) is

unless_absent : {T : Type 0} (wanted : Result T Refusal) (next : T → Verdict) (which : Input) → unless_refused wanted next ≡ absent which → (x : T) × (next x ≡ absent which)
unless_absent (Ok x) next which e = (x, e)
unless_absent (Err refusal) next which e = absurd (cc)

absent_entry : (spec : GridSpec) (k : ℕ) (names : List (List ℕ)) (held : Held) (next : List Cells → Verdict) (which : Input) → ((entries : List Cells) → IsPresent (next entries))
    → entries_fetched spec k names held next ≡ absent which → IsAbsentEntry names held k which
absent_entry spec k [] held next which none e = absurd (none [] which e)
absent_entry spec k (name ∷ names) held next which none e =
    elim (fetch_absent (input.Grid k) (held name) _ which e) [
      | here gone is ↦ entry_here name names held k which gone is
      | later bytes there e' ↦
          let one = unless_absent (entry_for spec k (grid_reading (held name))) _ which e' in
          entry_later name names held k which bytes there
          (absent_entry spec (k + 1) names held (λ entries. next (one.0 ∷ entries)) which (λ entries. none (one.0 ∷ entries)) one.1)
    ]

at_list : (asked : MergeOperands) (held : Held) → held asked.list ≡ None → IsFirstAbsent (of_merge asked (Some (names_listed asked held))) held input.List
at_list asked held none = record {
  asks = (asked.list, refl);
  none = λ name is. ap (λ (n : List ℕ). held n) is ∙ none;
  some = λ at name lt is. absurd (omega arith);
}

at_merge_calib : (asked : MergeOperands) (held : Held) (l : List ℕ) → is_plain_word asked.calib ≡ false → held asked.list ≡ Some l → held asked.calib ≡ None → IsFirstAbsent (of_merge asked (Some (names_listed asked held))) held input.Calibration
at_merge_calib asked held l own list none = record {
  asks = (asked.calib, (own, refl));
  none = λ name is. ap (λ (n : List ℕ). held n) is.1 ∙ none;
  some = λ at name lt is. some at name lt is;
} where
  some : (at : Input) (name : List ℕ) → order_of at < 3 → IsMergeInput asked (Some (names_listed asked held)) at name → held name ≢ None
  some input.List name lt is = none_differs (held name) l (ap (λ (n : List ℕ). held n) is ∙ list)
  some input.Left name lt is = absurd is
  some input.Right name lt is = absurd is
  some input.Calibration name lt is = absurd (omega arith)
  some input.Earlier name lt is = absurd is
  some input.Later name lt is = absurd is
  some (input.Grid k) name lt is = absurd (omega arith)

-- the calibration is the plain one, or it is held
abbrev HasOwn : MergeOperands → Held → Type 0
HasOwn asked held = is_plain_word asked.calib ≡ false → held asked.calib ≢ None

at_entry : (asked : MergeOperands) (held : Held) (l : List ℕ) (which : Input) → held asked.list ≡ Some l → HasOwn asked held → IsAbsentEntry (names_listed asked held) held 0 which
    → IsFirstAbsent (of_merge asked (Some (names_listed asked held))) held which
at_entry asked held l which list own one = let P : Input → Type 0 = λ i. IsFirstAbsent (of_merge asked (Some (names_listed asked held))) held i in subst P (ap (λ (n : ℕ). input.Grid n) (let e : one.place ≡ 0 + one.place = omega arith in e) ∙ one.is) is_first
  where
    some : (at : Input) (name : List ℕ) → order_of at < one.place + 7 → IsMergeInput asked (Some (names_listed asked held)) at name → held name ≢ None
    some input.List name lt is = none_differs (held name) l (ap (λ (n : List ℕ). held n) is ∙ list)
    some input.Left name lt is = absurd is
    some input.Right name lt is = absurd is
    some input.Calibration name lt is = let P : List ℕ → Type 0 = λ n. held n ≢ None in subst P (sym is.1) (own is.0)
    some input.Earlier name lt is = absurd is
    some input.Later name lt is = absurd is
    some (input.Grid k) name lt is = one.some k name (omega (arith, lt)) is

    is_first : IsFirstAbsent (of_merge asked (Some (names_listed asked held))) held (input.Grid one.place)
    is_first = record {
      asks = (one.name, one.there);
      none = λ name is. let same : one.name ≡ name = cc (one.there, is) in ap (λ (n : List ℕ). held n) (sym same) ∙ one.none;
      some = some;
    }

-- the absent input of a merge is the first that isn't held
pub first_absent_entry : (asked : MergeOperands) (held : Held) (calib : Result Calibration CalibFault) (which : Input) → merge_fetched asked held (plan_carried_out asked.out held (plan_of asked held calib)) ≡ absent which
    → IsFirstAbsent (of_merge asked (Some (names_listed asked held))) held which
unfolding merge_fetched
first_absent_entry asked held calib which e =
    let last = plan_carried_out asked.out held (plan_of asked held calib) in
    let second = calib_fetched (is_plain_word asked.calib) (held asked.calib) last in
    let P : Input → Type 0 = λ i. IsFirstAbsent (of_merge asked (Some (names_listed asked held))) held i in
    elim (fetch_absent input.List (held asked.list) second which e) [
      | here gone is ↦ subst P is (at_list asked held gone)
      | later l list e' ↦ after_list asked held calib which l list (is_plain_word asked.calib) refl e'
    ]
  where
    after_both : (asked : MergeOperands) (held : Held) (calib : Result Calibration CalibFault) (which : Input) (l : List ℕ) → held asked.list ≡ Some l → HasOwn asked held
        → plan_carried_out asked.out held (plan_of asked held calib) ≡ absent which → IsFirstAbsent (of_merge asked (Some (names_listed asked held))) held which
    after_both asked held calib which l list own e =
        let one = planned_absent (plan_of asked held calib) refl e in
        at_entry asked held l which list own one
      where
        planned_absent : (planned : Result MergePlan Refusal) → plan_of asked held calib ≡ planned → plan_carried_out asked.out held planned ≡ absent which → IsAbsentEntry (names_listed asked held) held 0 which
        planned_absent (Err refusal) is e = absurd (cc)
        planned_absent (Ok plan) is e =
            let Q : List (List ℕ) → Type 0 = λ names. IsAbsentEntry names held 0 which in
            subst Q (names_planned asked.out _ _ plan is)
            (absent_entry plan.spec 0 plan.names held (merged_by asked.out plan) which (present_merged asked.out plan) e)

    after_list : (asked : MergeOperands) (held : Held) (calib : Result Calibration CalibFault) (which : Input) (l : List ℕ) → held asked.list ≡ Some l → (plain : Bool) → is_plain_word asked.calib ≡ plain
        → calib_fetched plain (held asked.calib) (plan_carried_out asked.out held (plan_of asked held calib)) ≡ absent which → IsFirstAbsent (of_merge asked (Some (names_listed asked held))) held which
    after_list asked held calib which l list true own e = after_both asked held calib which l list (λ other. absurd (cc)) e
    after_list asked held calib which l list false own e = elim (fetch_absent input.Calibration (held asked.calib) _ which e) [
      | here gone is ↦ let P : Input → Type 0 = λ i. IsFirstAbsent (of_merge asked (Some (names_listed asked held))) held i in subst P is (at_merge_calib asked held l own list gone)
      | later bytes there e' ↦ after_both asked held calib which l list (λ other. none_differs (held asked.calib) bytes there) e'
    ]
