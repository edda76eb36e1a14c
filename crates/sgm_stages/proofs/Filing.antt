-- Writing one file, and one file after the other.
use Rattle.std.proofs.Common.{◌≡◌, inr, ℕ, List, [], ◌∷◌, ◌++◌, refl, sym, ap, subst, ◌∙◌, Option, Some, append-nil, suc, ◌+◌, ◌<◌, length, take, drop, get_or, add-one}
use Rattle.std.proofs.lemmas.List.{take-append-drop}
use Rattle.std.proofs.Math.Seq.{take-suc, drop-cons}
use Rattle.sgm_io.specs.Held.{Held, put, extend}
use Rattle.sgm_io.specs.Keep.{name_of, AddsPrefix}
use Rattle.sgm_io.proofs.HeldLaws.{extend-put}
use Rattle.sgm_words.specs.declared.files.Output.{Output}
use Rattle.sgm_stages.specs.Outputs.{OutputFile}
use Rattle.sgm_stages.specs.Deliver.{BeginsFile, EndsIn, after_files, IsStopAt, Stops}
use Rattle.sgm_stages.specs.declared.stops.WriteStop.{WriteStop}
use Rattle.sgm_stages.specs.declared.stops.WriteStop.TheVariants as stop

-- a file that was begun anew and got a part
pub got : (file : OutputFile) (writing : Option (List ℕ)) (name part : List ℕ) (old empty new : Held) →
    name ≡ file.name → writing ≡ Some name → empty ≡ put name [] old → new ≡ extend (name_of writing) part empty → new ≡ put file.name part old
got file writing name part old empty new named open_ begun more =
    let at : name_of writing ≡ file.name = ap (λ (w : Option (List ℕ)). name_of w) open_ ∙ named in
    more
    ∙ ap (λ (n : List ℕ). extend n part empty) at
    ∙ ap (λ (h : Held). extend file.name part h) (begun ∙ ap (λ (n : List ℕ). put n [] old) named)
    ∙ extend-put file.name [] part old

pub begins : (file : OutputFile) (writing : Option (List ℕ)) (name text : List ℕ) (old empty new : Held) →
    name ≡ file.name → writing ≡ Some name → empty ≡ put name [] old → text ≡ file.text → AddsPrefix (name_of writing) text empty new → BeginsFile file old new
begins file writing name text old empty new named open_ begun is adds =
    inr (adds.part, record { rest = adds.prefix.rest; is = adds.prefix.is ∙ is }, got file writing name adds.part old empty new named open_ begun adds.added)

-- the whole text is a beginning of it
pub whole_begins : (file : OutputFile) (old new : Held) → new ≡ put file.name file.text old → BeginsFile file old new
whole_begins file old new is = inr (file.text, record { rest = []; is = append-nil file.text }, is)

pub after-append : (fs gs : List OutputFile) (held : Held) → after_files (fs ++ gs) held ≡ after_files gs (after_files fs held)
after-append [] gs held = refl
after-append (f ∷ fs) gs held = after-append fs gs (put f.name f.text held)

-- one file more
pub files_more : (wanted : List OutputFile) (i : ℕ) (file : OutputFile) (old now new : Held) → i < length wanted → file ≡ get_or wanted i file →
    now ≡ after_files (take i wanted) old → new ≡ put file.name file.text now → new ≡ after_files (take (i + 1) wanted) old
files_more wanted i file old now new lt is before step =
    let more : take (i + 1) wanted ≡ take i wanted ++ file ∷ [] = rw add-one (take-suc wanted i file lt) ∙ ap (λ (x : OutputFile). take i wanted ++ x ∷ []) (sym is) in
    step ∙ ap (λ (h : Held). put file.name file.text h) before ∙ sym (after-append (take i wanted) (file ∷ []) old) ∙ sym (ap (λ (x : List OutputFile). after_files x old) more)

ends_in : (wanted : List OutputFile) (i : ℕ) (file : OutputFile) (output : Output) (old now new : Held) → i < length wanted → file ≡ get_or wanted i file →
    now ≡ after_files (take i wanted) old → file.output ≡ output → BeginsFile file now new → EndsIn output wanted old new
ends_in wanted i file output old now new lt is before of begun = record {
  before = take i wanted;
  file = file;
  later = drop (suc i) wanted;
  split = sym (take-append-drop i wanted) ∙ ap (λ (x : List OutputFile). take i wanted ++ x) (drop-cons wanted i file lt ∙ ap (λ (x : OutputFile). x ∷ drop (suc i) wanted) (sym is));
  is_output = of;
  begun = let P : Held → Type 0 = λ h. BeginsFile file h new in subst P before begun;
}

-- the run stopped at this file
pub stops : (wanted : List OutputFile) (i : ℕ) (file : OutputFile) (at : WriteStop) (old now new : Held) → i < length wanted → file ≡ get_or wanted i file →
    now ≡ after_files (take i wanted) old → IsStopAt file.output at → BeginsFile file now new → Stops wanted at old new
stops wanted i file (stop.Unwritten output) old now new lt is before end begun = ends_in wanted i file output old now new lt is before (sym end) begun
stops wanted i file stop.NoMemory old now new lt is before end begun = (file.output, ends_in wanted i file file.output old now new lt is before refl begun)
