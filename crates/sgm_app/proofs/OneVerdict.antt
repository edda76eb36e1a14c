-- The inputs have readings, and only one verdict follows from them.
use Rattle.std.proofs.Common.{◌≡◌, ℕ, ◌∙◌, sym, List, [], unwrap_or, refl, ap, true, false, Bool, Option, None, Some, IfSome, Result, Ok, Err, if◌then◌else◌}
use Rattle.sgm_base.specs.Picture.{Picture}
use Rattle.sgm_io.specs.Held.{Held, AreBytes, HoldsBytes}
use Rattle.sgm_pgm.specs.Read.{Reads}
use Rattle.sgm_pgm.specs.declared.fault.PgmFault.{PgmFault}
use Rattle.sgm_pgm.specs.declared.fault.PgmFault.TheVariants.{NotPgm}
use Rattle.sgm_pgm.proofs.ReadLaws.{reads_some, reads_one}
use Rattle.sgm_calib.specs.Calibration.{Calibration, plain}
use Rattle.sgm_calib.specs.Read.{Reads as ReadsCalib}
use Rattle.sgm_calib.specs.declared.keys.CalibFault.{CalibFault}
use Rattle.sgm_calib.proofs.Answers.{some_answer, one_answer}
use Rattle.sgm_words.specs.Operands.{Operands, operands, change_operands, MergeOperands, merge_operands, is_plain, is_plain_word}
use Rattle.sgm_words.specs.Words.{read_of}
use Rattle.sgm_words.specs.declared.usage.UsageFault.{UsageFault}
use Rattle.sgm_words.specs.declared.options.Options.{Options}
use Rattle.sgm_words.specs.declared.options.Options.TheVariants as options
use Rattle.sgm_words.specs.declared.files.Input.{Input}
use Rattle.sgm_words.specs.declared.files.Input.TheVariants as input
use Rattle.sgm_list.specs.Names.{names_reading}
use Rattle.sgm_stages.specs.Merging.{plan_for}
use Rattle.sgm_stages.specs.Readings.{Readings, IsReading, AreReadings}
use Rattle.sgm_stages.specs.Verdict.{Verdict, usage, pair_fetched, grids_fetched, merge_fetched, changed, plan_carried_out, plan_of, fetched, calib_fetched, calib_of}
use Rattle.sgm_app.specs.Verdict.{matched, traced, demoed}
use Rattle.sgm_stages.specs.Calls.{MergeCallsFor}
use Rattle.sgm_app.specs.Calls.{PairCallsFor, ReadCallsFor, CallsFor}

-- ---- some verdict

image_some : (held : Option (List ℕ)) → IfSome held AreBytes → (r : Result Picture PgmFault) × IsReading Reads held r
image_some None are = (Err NotPgm, tt)
image_some (Some contents) are = reads_some contents are

calib_some : (held : Option (List ℕ)) → (r : Result Calibration CalibFault) × IsReading ReadsCalib held r
calib_some None = (Ok plain, tt)
calib_some (Some contents) = some_answer contents

readings_some : (asked : Operands) (held : Held) → HoldsBytes held → (readings : Readings) × AreReadings asked held readings
readings_some asked held are =
    let left = image_some (held asked.left) (are asked.left) in
    let right = image_some (held asked.right) (are asked.right) in
    let calib = calib_some (held asked.calib) in
    (record { left = left.0; right = right.0; calib = calib.0 }, record { left = left.1; right = right.1; calib = calib.1 })

some_by : (read : Result Options UsageFault) (words : List (List ℕ)) (held : Held) → HoldsBytes held → (v : Verdict) × ReadCallsFor read words held v
some_by (Err fault) words held are = (usage fault, refl)
some_by (Ok (options.Match strips workers refine)) words held are =
    let asked = operands words in let found = readings_some asked held are in
    (pair_fetched asked held (matched asked.out refine found.0.left found.0.right (calib_of asked found.0)), record { readings = found.0; are_readings = found.1; is = refl })
some_by (Ok (options.Demo number strips workers refine)) words held are = (demoed number refine, refl)
some_by (Ok (options.Trace dir x y d)) words held are =
    let asked = operands words in let found = readings_some asked held are in
    (pair_fetched asked held (traced dir x y d found.0.left found.0.right (calib_of asked found.0)), record { readings = found.0; are_readings = found.1; is = refl })
some_by (Ok options.Change) words held are = let asked = change_operands words in (grids_fetched asked held (changed asked held), refl)
some_by (Ok options.Merge) words held are =
    let asked = merge_operands words in let found = calib_some (held asked.calib) in
    (merge_fetched asked held (plan_carried_out asked.out held (plan_of asked held found.0)), record { calib = found.0; is_reading = found.1; is = refl })

pub verdict_some : (words : List (List ℕ)) (held : Held) → HoldsBytes held → (v : Verdict) × CallsFor words held v
verdict_some words held are = some_by (read_of words) words held are

-- ---- only one

-- a step that fetches an input is the same where what follows is the same once the input is at hand
fetched_same : (i : Input) (held : Option (List ℕ)) (v w : Verdict) → ((contents : List ℕ) → held ≡ Some contents → v ≡ w) → fetched i held v ≡ fetched i held w
fetched_same i None v w same = refl
fetched_same i (Some contents) v w same = ap (λ (u : Verdict). fetched i (Some contents) u) (same contents refl)

image_one : (held : Option (List ℕ)) (contents : List ℕ) → held ≡ Some contents → (r s : Result Picture PgmFault) → IsReading Reads held r → IsReading Reads held s → r ≡ s
image_one None contents e r s one other = absurd (cc)
image_one (Some found) contents e r s one other = reads_one found r s one other

calib_one : (held : Option (List ℕ)) (contents : List ℕ) → held ≡ Some contents → (r s : Result Calibration CalibFault) → IsReading ReadsCalib held r → IsReading ReadsCalib held s → r ≡ s
calib_one None contents e r s one other = absurd (cc)
calib_one (Some found) contents e r s one other = one_answer found r s one other

calib_fetched_same : (is : Bool) (held : Option (List ℕ)) (r s : Result Calibration CalibFault) (next : Result Calibration CalibFault → Verdict) → IsReading ReadsCalib held r → IsReading ReadsCalib held s →
    calib_fetched is held (next (if is then Ok plain else r)) ≡ calib_fetched is held (next (if is then Ok plain else s))
calib_fetched_same true held r s next one other = refl
calib_fetched_same false held r s next one other =
    fetched_same input.Calibration held (next r) (next s) (λ contents e. ap (λ (c : Result Calibration CalibFault). next c) (calib_one held contents e r s one other))

pair_one : (asked : Operands) (judged : Result Picture PgmFault → Result Picture PgmFault → Result Calibration CalibFault → Verdict) (held : Held) (one other : Readings) → AreReadings asked held one → AreReadings asked held other
    → pair_fetched asked held (judged one.left one.right (calib_of asked one)) ≡ pair_fetched asked held (judged other.left other.right (calib_of asked other))
unfolding pair_fetched
pair_one asked judged held one other a b =
    fetched_same input.Left (held asked.left) _ _ (λ l on_left.
    let left = image_one (held asked.left) l on_left one.left other.left a.left b.left in
    fetched_same input.Right (held asked.right) _ _ (λ r on_right.
    let right = image_one (held asked.right) r on_right one.right other.right a.right b.right in
    calib_fetched_same (is_plain asked) (held asked.calib) one.calib other.calib (λ c. judged one.left one.right c) a.calib b.calib
    ∙ ap (λ (x : Result Picture PgmFault). calib_fetched (is_plain asked) (held asked.calib) (judged x one.right (calib_of asked other))) left
    ∙ ap (λ (x : Result Picture PgmFault). calib_fetched (is_plain asked) (held asked.calib) (judged other.left x (calib_of asked other))) right))

calls_one : (asked : Operands) (judged : Result Picture PgmFault → Result Picture PgmFault → Result Calibration CalibFault → Verdict) (held : Held) (one other : Verdict) → PairCallsFor asked judged held one → PairCallsFor asked judged held other → one ≡ other
calls_one asked judged held one other a b = sym a.is ∙ pair_one asked judged held a.readings b.readings a.are_readings b.are_readings ∙ b.is

merge_one : (asked : MergeOperands) (held : Held) (one other : Result Calibration CalibFault) → IsReading ReadsCalib (held asked.calib) one → IsReading ReadsCalib (held asked.calib) other
    → merge_fetched asked held (plan_carried_out asked.out held (plan_of asked held one)) ≡ merge_fetched asked held (plan_carried_out asked.out held (plan_of asked held other))
unfolding merge_fetched
merge_one asked held one other a b =
    ap (λ (v : Verdict). fetched input.List (held asked.list) v)
    (calib_fetched_same (is_plain_word asked.calib) (held asked.calib) one other (λ c. plan_carried_out asked.out held (plan_for (names_reading asked.out (unwrap_or (held asked.list) [])) c)) a b)

merges_one : (asked : MergeOperands) (held : Held) (one other : Verdict) → MergeCallsFor asked held one → MergeCallsFor asked held other → one ≡ other
merges_one asked held one other a b = sym a.is ∙ merge_one asked held a.calib b.calib a.is_reading b.is_reading ∙ b.is

one_by : (read : Result Options UsageFault) (words : List (List ℕ)) (held : Held) (one other : Verdict) → ReadCallsFor read words held one → ReadCallsFor read words held other → one ≡ other
one_by (Err fault) words held one other a b = sym a ∙ b
one_by (Ok (options.Match strips workers refine)) words held one other a b = calls_one (operands words) (matched (operands words).out refine) held one other a b
one_by (Ok (options.Demo number strips workers refine)) words held one other a b = sym a ∙ b
one_by (Ok (options.Trace dir x y d)) words held one other a b = calls_one (operands words) (traced dir x y d) held one other a b
one_by (Ok options.Change) words held one other a b = sym a ∙ b
one_by (Ok options.Merge) words held one other a b = merges_one (merge_operands words) held one other a b

pub verdict_one : (words : List (List ℕ)) (held : Held) (one other : Verdict) → CallsFor words held one → CallsFor words held other → one ≡ other
verdict_one words held one other a b = one_by (read_of words) words held one other a b
