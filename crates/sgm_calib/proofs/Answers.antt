-- Each list of bytes has one answer.
use Rattle.std.proofs.Common.{◌≡◌, ℕ, Bool, true, false, List, Option, Some, None, Result, Ok, Err, refl, sym}
use Rattle.std.specs.Str.{is_utf8}
use Rattle.std.proofs.lemmas.Str.{IsUtf8-from_is_utf8, is_utf8-from_IsUtf8}
use Rattle.serde_json.specs.Data.{Data}
use Rattle.serde_json.specs.Read.{read}
use Rattle.sgm_calib.specs.Calibration.{Calibration}
use Rattle.sgm_calib.specs.Judge.{judged}
use Rattle.sgm_calib.specs.Read.{IsValue, Reads, value, no_value, ReadsAs, ReadsText}
use Rattle.sgm_calib.specs.declared.keys.CalibFault.{CalibFault}
use Rattle.sgm_calib.specs.declared.keys.CalibFault.TheVariants.{Json}
use Rattle.sgm_calib.specs.declared.keys.CalibError.{CalibError}
use Rattle.sgm_calib.specs.declared.keys.CalibError.TheVariants.{Fault, NoMemory}

no_text : (bytes : List ℕ) → is_utf8 bytes ≡ false → (d : Data) → ¬ IsValue bytes d
no_text bytes refused d v = let given : is_utf8 bytes ≡ true = is_utf8-from_IsUtf8 bytes v.text in cc

no_reading : (bytes : List ℕ) → read bytes ≡ None → (d : Data) → ¬ IsValue bytes d
no_reading bytes refused d v = let given : read bytes ≡ Some d = v.value in cc

answer_of : (bytes : List ℕ) (text : Bool) (found : Option Data) → is_utf8 bytes ≡ text → read bytes ≡ found
    → (r : Result Calibration CalibFault) × Reads bytes r
answer_of bytes false found is_text is_found = (Err Json, no_value (no_text bytes is_text) refl)
answer_of bytes true None is_text is_found = (Err Json, no_value (no_reading bytes is_found) refl)
answer_of bytes true (Some d) is_text is_found =
    (judged d, value d (record { text = IsUtf8-from_is_utf8 bytes is_text; value = is_found }) refl)

pub some_answer : (bytes : List ℕ) → (r : Result Calibration CalibFault) × Reads bytes r
some_answer bytes = answer_of bytes (is_utf8 bytes) (read bytes) refl refl

same_value : (bytes : List ℕ) (d e : Data) → IsValue bytes d → IsValue bytes e → d ≡ e
same_value bytes d e v w = let first : read bytes ≡ Some d = v.value in let second : read bytes ≡ Some e = w.value in cc

pub one_answer : (bytes : List ℕ) (r s : Result Calibration CalibFault) → Reads bytes r → Reads bytes s → r ≡ s
one_answer bytes r s (value d v is_r) (value e w is_s) = let same : d ≡ e = same_value bytes d e v w in cc
one_answer bytes r s (value d v is_r) (no_value none is_s) = absurd (none d v)
one_answer bytes r s (no_value none is_r) (value e w is_s) = absurd (none e w)
one_answer bytes r s (no_value none is_r) (no_value others is_s) = cc

-- what the value that is read is, the bytes say
pub text-of_value : (bytes : List ℕ) (d : Data) (r : Result Calibration CalibError) → IsValue bytes d → ReadsAs (judged d) r → ReadsText bytes r
text-of_value bytes d (Ok calib) v is_judged = value d v (sym is_judged)
text-of_value bytes d (Err (Fault fault)) v is_judged = value d v (sym is_judged)
text-of_value bytes d (Err NoMemory) v is_judged = tt
