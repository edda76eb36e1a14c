-- What the turns of some entries write changes no input.
use Rattle.std.proofs.Common.{◌≡◌, ◌≢◌, ℕ, zero, suc, ◌+◌, ◌<◌, List, [], ◌∷◌, take, length, Bool, true, false, ◌||◌, Option, Some, None, Result, refl, sym, ap, subst, ◌∙◌, arith, Contains}
use Rattle.std.specs.Prelude.{slice_get, codes, unwrap_or}
use Rattle.std.specs.Str.{bytes_eq}
use Rattle.std.proofs.lemmas.Slice.Eq.{bytes_eq-Decides}
use Rattle.std.proofs.lemmas.List.{length-append}
use Rattle.sgm_base.specs.Picture.{Picture}
use Rattle.sgm_io.specs.Held.{Held}
use Rattle.sgm_pgm.specs.declared.fault.PgmFault.{PgmFault}
use Rattle.sgm_pgm.specs.Read.{Reads}
use Rattle.sgm_calib.specs.Calibration.{Calibration}
use Rattle.sgm_calib.specs.Read.{Reads as ReadsCalib}
use Rattle.sgm_calib.specs.declared.keys.CalibFault.{CalibFault}
use Rattle.sgm_words.specs.Operands.{Operands, is_plain}
use Rattle.sgm_words.specs.declared.files.Input.TheVariants as input
use Rattle.sgm_list.specs.Entries.{EntryNames}
use Rattle.sgm_list.specs.Clashes.{is_output_of, is_output, first_clash}
use Rattle.sgm_stages.specs.Readings.{IsReading}
use Rattle.sgm_stages.specs.Outputs.{OutputFile, is_named}
use Rattle.sgm_stages.specs.Verdict.{Verdict, fetched, calib_fetched, pair_fetched, calib_of, outputs_of}
use Rattle.sgm_app.specs.Calls.{PairCallsFor}
use Rattle.sgm_stages.specs.Deliver.{after_files}
use Rattle.sgm_stages.proofs.Holding.{others_stay}
use Rattle.sgm_series.specs.Plans.{asked_for, EntryCallsFor, AreVerdicts}
use Rattle.sgm_series.specs.Turns.{files_for}
use Rattle.sgm_series.proofs.Places.{of_take, in_flat, any_true, is_false}
use Rattle.sgm_series.proofs.NoClash.{left_apart, right_apart, calib_apart}
use Rattle.sgm_series.proofs.Proper.{proper, ended, is_listed}

-- ---- the entry of a file

-- a verdict has its entry
pub entry_of_verdict : (entries : List EntryNames) (verdicts : List Verdict) (place : ℕ) (v : Verdict) → length verdicts ≡ length entries → slice_get verdicts place ≡ Some v → (entry : EntryNames) × (slice_get entries place ≡ Some entry)
entry_of_verdict [] [] place v count at = absurd (cc)
entry_of_verdict [] (w ∷ verdicts) place v count at = absurd (omega (arith, count))
entry_of_verdict (entry ∷ entries) [] place v count at = absurd (cc)
entry_of_verdict (entry ∷ entries) (w ∷ verdicts) zero v count at = (entry, refl)
entry_of_verdict (entry ∷ entries) (w ∷ verdicts) (suc place) v count at = entry_of_verdict entries verdicts place v (omega (arith, count)) at

-- a file of the first turns is one of the verdict at a place before
pub record IsFileOf (entries : List EntryNames) (verdicts : List Verdict) (n : ℕ) (file : OutputFile) : Type 0 where
  pub place : ℕ
  pub entry : EntryNames
  pub v : Verdict
  pub at : slice_get entries place ≡ Some entry
  pub of : slice_get verdicts place ≡ Some v
  pub turn : slice_get (take n verdicts) place ≡ Some v
  pub has : Contains (outputs_of v) file

pub file_of_entry : (entries : List EntryNames) (verdicts : List Verdict) (n : ℕ) (file : OutputFile) → length verdicts ≡ length entries → Contains (files_for (take n verdicts)) file → IsFileOf entries verdicts n file
file_of_entry entries verdicts n file count c =
    let found = in_flat outputs_of (take n verdicts) file c in
    let of = of_take n verdicts found.0 found.1 found.2 in
    let entry = entry_of_verdict entries verdicts found.0 found.1 count of in
    record { place = found.0; entry = entry.0; v = found.1; at = entry.1; of = of; turn = found.2; has = found.3 }

-- ---- names that no entry writes

-- a name that is that of none of these files
pub unnamed : (files : List OutputFile) (name : List ℕ) → ((file : OutputFile) → Contains files file → name ≢ file.name) → is_named files name ≡ false
unnamed [] name none = refl
unnamed (file ∷ files) name none =
    ap (λ (b : Bool). b || is_named files name) (is_false (bytes_eq name file.name) (λ t. none file (0, omega arith, refl) ((bytes_eq-Decides name file.name).0 t)))
    ∙ unnamed files name (λ other c. let within = c.1 in none other (suc c.0, omega (arith, within), c.2))

module _ (entries : List EntryNames) (held : Held) (verdicts : List Verdict) (are : AreVerdicts entries held verdicts) (n : ℕ) where
  -- a name that is no output
  pub apart_stays : (old : Held) (name : List ℕ) → is_output entries name ≡ false → after_files (files_for (take n verdicts)) old name ≡ old name
  apart_stays old name apart = others_stay (files_for (take n verdicts)) name old (unnamed (files_for (take n verdicts)) name (λ file c same.
      let found = file_of_entry entries verdicts n file are.count c in
      let named = (proper found.entry held found.v (are.each found.place found.entry found.v found.at found.of)).named file found.has in
      let P : List ℕ → Type 0 = λ x. is_output_of found.entry x ≡ true in
      let listed : is_output_of found.entry name ≡ true = subst P (sym same) (is_listed found.entry file.output file.name named) in
      let some : is_output entries name ≡ true = any_true (λ entry. is_output_of entry name) entries found.place found.entry found.at listed in
      absurd (cc)))

  -- a name of fewer than four bytes
  pub short_stays : (old : Held) (name : List ℕ) → length name < 4 → after_files (files_for (take n verdicts)) old name ≡ old name
  short_stays old name short = others_stay (files_for (take n verdicts)) name old (unnamed (files_for (take n verdicts)) name (λ file c same.
      let found = file_of_entry entries verdicts n file are.count c in
      let named = (proper found.entry held found.v (are.each found.place found.entry found.v found.at found.of)).named file found.has in
      let end = ended found.entry file.output file.name named in
      let four = end.four in
      let long : length name ≡ length found.entry.out + length end.ending = ap length (same ∙ end.is) ∙ length-append found.entry.out end.ending in
      omega (arith, short, four, long)))

-- ---- the inputs of an entry

-- these hold the same bytes
pub record SameInputs (asked : Operands) (old new : Held) : Type 0 where
  pub left : new asked.left ≡ old asked.left
  pub right : new asked.right ≡ old asked.right
  pub calib : new asked.calib ≡ old asked.calib

pub same_back : (asked : Operands) (old new : Held) → SameInputs asked old new → SameInputs asked new old
same_back asked old new same = record { left = sym same.left; right = sym same.right; calib = sym same.calib }

-- a match rests on what its inputs hold
pub calls_along : (asked : Operands) (judged : Result Picture PgmFault → Result Picture PgmFault → Result Calibration CalibFault → Verdict) (old new : Held) (v : Verdict) → SameInputs asked old new
    → PairCallsFor asked judged old v → PairCallsFor asked judged new v
unfolding pair_fetched
calls_along asked judged old new v same calls =
    let readings = calls.readings in
    let next = judged readings.left readings.right (calib_of asked readings) in
    let L : Option (List ℕ) → Type 0 = λ h. IsReading Reads h readings.left in
    let R : Option (List ℕ) → Type 0 = λ h. IsReading Reads h readings.right in
    let C : Option (List ℕ) → Type 0 = λ h. IsReading ReadsCalib h readings.calib in
    record {
      readings = readings;
      are_readings = record {
        left = subst L (sym same.left) calls.are_readings.left;
        right = subst R (sym same.right) calls.are_readings.right;
        calib = subst C (sym same.calib) calls.are_readings.calib;
      };
      is =
          ap (λ (h : Option (List ℕ)). fetched input.Left h (fetched input.Right (new asked.right) (calib_fetched (is_plain asked) (new asked.calib) next))) same.left
          ∙ ap (λ (h : Option (List ℕ)). fetched input.Left (old asked.left) (fetched input.Right h (calib_fetched (is_plain asked) (new asked.calib) next))) same.right
          ∙ ap (λ (h : Option (List ℕ)). fetched input.Left (old asked.left) (fetched input.Right (old asked.right) (calib_fetched (is_plain asked) h next))) same.calib
          ∙ calls.is;
    }

module _ (list : List ℕ) (entries : List EntryNames) (none : first_clash list entries ≡ None) (held : Held) (verdicts : List Verdict) (are : AreVerdicts entries held verdicts) where
  calib_stays : (n place : ℕ) (entry : EntryNames) (old : Held) (calib : Option (List ℕ)) → slice_get entries place ≡ Some entry → entry.calib ≡ calib
      → after_files (files_for (take n verdicts)) old (unwrap_or calib (codes "-")) ≡ old (unwrap_or calib (codes "-"))
  calib_stays n place entry old None at is = short_stays entries held verdicts are n old (codes "-") (omega arith)
  calib_stays n place entry old (Some calib) at is = apart_stays entries held verdicts are n old calib (calib_apart list entries none place entry calib at is)

  -- the inputs of each entry hold after any number of turns what they held before
  pub inputs_stay : (n place : ℕ) (entry : EntryNames) (old new : Held) → slice_get entries place ≡ Some entry → new ≡ after_files (files_for (take n verdicts)) old → SameInputs (asked_for entry) old new
  inputs_stay n place entry old new at is = record {
    left = ap (λ (h : Held). h entry.left) is ∙ apart_stays entries held verdicts are n old entry.left (left_apart list entries none place entry at);
    right = ap (λ (h : Held). h entry.right) is ∙ apart_stays entries held verdicts are n old entry.right (right_apart list entries none place entry at);
    calib = ap (λ (h : Held). h (asked_for entry).calib) is ∙ calib_stays n place entry old entry.calib at refl;
  }

  -- so an entry calls at its turn for the verdict that it called for at first, and for no other
  pub calls_stay : (n place : ℕ) (entry : EntryNames) (old new : Held) (v : Verdict) → slice_get entries place ≡ Some entry → new ≡ after_files (files_for (take n verdicts)) old
      → EntryCallsFor entry old v → EntryCallsFor entry new v
  calls_stay n place entry old new v at is calls = calls_along (asked_for entry) _ old new v (inputs_stay n place entry old new at is) calls

  pub calls_stayed : (n place : ℕ) (entry : EntryNames) (old new : Held) (v : Verdict) → slice_get entries place ≡ Some entry → new ≡ after_files (files_for (take n verdicts)) old
      → EntryCallsFor entry new v → EntryCallsFor entry old v
  calls_stayed n place entry old new v at is calls = calls_along (asked_for entry) _ new old v (same_back (asked_for entry) old new (inputs_stay n place entry old new at is)) calls

  -- the verdicts are the same after any number of turns
  pub verdicts_stay : (n : ℕ) (new : Held) → new ≡ after_files (files_for (take n verdicts)) held → AreVerdicts entries new verdicts
  verdicts_stay n new is = record {
    count = are.count;
    each = λ place entry v at of. calls_stay n place entry held new v at is (are.each place entry v at of);
  }
