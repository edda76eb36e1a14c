-- Lists of named files, of which the last of a name counts.
use Rattle.std.proofs.Common.{◌≡◌, ℕ, suc, ◌+◌, ◌-◌, ◌<◌, List, [], ◌∷◌, ◌++◌, length, take, refl, sym, ap, ◌∙◌, arith, Option, Some, None, IsSome, option_map, get_or, set, Bool, true, false, IsTrue, ◌↔◌, if◌then◌else◌, add-one, Result, Ok, Err, OnOk, OnErr, slice_get}
use Rattle.std.specs.Option.{option_map_or, option_or}
use Rattle.std.specs.Str.{bytes_eq}
use Rattle.std.proofs.lemmas.List.{take_all, length-set}
use Rattle.std.proofs.Math.Seq.{take-suc, take-suc-set}
use Rattle.sgm_io.specs.Held.{Held, NamedBytes, put, extend, put_all, no_files, empty_files, length_at}
use Rattle.sgm_io.specs.Filed.{name_at, last_file, current_of}
use Rattle.sgm_io.specs.Keep.{name_of}
use Rattle.sgm_io.specs.Writing.{put_all-current}
use Rattle.sgm_io.proofs.HeldLaws.{extend-put}

pub put_all-append : (fs gs : List NamedBytes) (held : Held) → put_all (fs ++ gs) held ≡ put_all gs (put_all fs held)
put_all-append [] gs held = refl
put_all-append (f ∷ fs) gs held = put_all-append fs gs (put f.name f.bytes held)

pub last_file-append : (fs : List NamedBytes) (f : NamedBytes) → last_file (fs ++ f ∷ []) ≡ Some f
last_file-append [] f = refl
last_file-append (g ∷ []) f = refl
last_file-append (g ∷ h ∷ fs) f = last_file-append (h ∷ fs) f

pub IsSome-last_file : (fs : List NamedBytes) → 0 < length fs → IsSome (last_file fs)
IsSome-last_file [] h = absurd (omega arith)
IsSome-last_file (g ∷ []) h = refl
IsSome-last_file (g ∷ f ∷ fs) h = IsSome-last_file (f ∷ fs) (omega arith)

pub slice_get-last_file : (fs : List NamedBytes) → slice_get fs (length fs - 1) ≡ last_file fs
slice_get-last_file [] = refl
slice_get-last_file (g ∷ []) = refl
slice_get-last_file (g ∷ h ∷ fs) =
    let back : length (g ∷ h ∷ fs) - 1 ≡ suc (length (h ∷ fs) - 1) = omega arith in
    ap (λ (i : ℕ). slice_get (g ∷ h ∷ fs) i) back ∙ slice_get-last_file (h ∷ fs)

-- all but the last, and the last
to-last : (fs : List NamedBytes) (f : NamedBytes) → 0 < length fs → fs ≡ take (length fs - 1) fs ++ get_or fs (length fs - 1) f ∷ []
to-last fs f h =
    let one : suc (length fs - 1) ≡ length fs = omega arith in
    let lt : length fs - 1 < length fs = omega arith in
    sym (take_all (suc (length fs - 1)) fs (omega arith)) ∙ take-suc fs (length fs - 1) f lt

set-last : (fs : List NamedBytes) (f : NamedBytes) → 0 < length fs → set fs (length fs - 1) f ≡ take (length fs - 1) fs ++ f ∷ []
set-last fs f h =
    let one : suc (length fs - 1) ≡ length fs = omega arith in
    let lt : length fs - 1 < length fs = omega arith in
    sym (take_all (suc (length fs - 1)) (set fs (length fs - 1) f) (omega (arith, length-set fs (length fs - 1) f))) ∙ take-suc-set fs (length fs - 1) f lt

-- a piece more in the last file
pub put_all-grown : (first : Held) (fs : List NamedBytes) (f g : NamedBytes) (piece : List ℕ) → 0 < length fs → f ≡ get_or fs (length fs - 1) f → g ≡ record { name = f.name; bytes = f.bytes ++ piece } →
    put_all (set fs (length fs - 1) g) first ≡ extend (name_of (option_map name_at (last_file fs))) piece (put_all fs first)
put_all-grown first fs f g piece some is more =
    let front = take (length fs - 1) fs in
    let split : fs ≡ front ++ f ∷ [] = to-last fs f some ∙ ap (λ (x : NamedBytes). front ++ x ∷ []) (sym is) in
    let left : put_all (set fs (length fs - 1) g) first ≡ put g.name g.bytes (put_all front first) =
    ap (λ (x : List NamedBytes). put_all x first) (set-last fs g some) ∙ put_all-append front (g ∷ []) first in
    let right : extend (name_of (option_map name_at (last_file fs))) piece (put_all fs first) ≡ extend f.name piece (put f.name f.bytes (put_all front first)) =
    ap (λ (x : List NamedBytes). extend (name_of (option_map name_at (last_file x))) piece (put_all x first)) split
    ∙ ap (λ (x : Option NamedBytes). extend (name_of (option_map name_at x)) piece (put_all (front ++ f ∷ []) first)) (last_file-append front f)
    ∙ ap (λ (x : Held). extend f.name piece x) (put_all-append front (f ∷ []) first) in
    left ∙ ap (λ (x : NamedBytes). put x.name x.bytes (put_all front first)) more ∙ sym (extend-put f.name f.bytes piece (put_all front first)) ∙ sym right

pub same_last : (fs : List NamedBytes) (f g : NamedBytes) → 0 < length fs → f ≡ get_or fs (length fs - 1) f → g.name ≡ f.name →
    option_map name_at (last_file (set fs (length fs - 1) g)) ≡ option_map name_at (last_file fs)
same_last fs f g some is same =
    let front = take (length fs - 1) fs in
    let split : fs ≡ front ++ f ∷ [] = to-last fs f some ∙ ap (λ (x : NamedBytes). front ++ x ∷ []) (sym is) in
    let name : List NamedBytes → Option (List ℕ) = λ x. option_map name_at (last_file x) in
    ap name (set-last fs g some) ∙ ap (λ (x : Option NamedBytes). option_map name_at x) (last_file-append front g) ∙ ap (λ (x : List ℕ). Some x) same
    ∙ sym (ap (λ (x : Option NamedBytes). option_map name_at x) (last_file-append front f)) ∙ sym (ap name split)

-- being open is to have a file that is being written
pub open_is : (is_open : Bool) (fs : List NamedBytes) → (IsTrue is_open → 0 < length fs) → IsTrue is_open ↔ IsSome (option_map name_at (current_of is_open fs))
open_is true fs some = (λ h. named (last_file fs) (IsSome-last_file fs (some refl)), λ h. refl) where
  named : (o : Option NamedBytes) → IsSome o → IsSome (option_map name_at o)
  named None is = cc
  named (Some f) is = refl
open_is false fs some = (λ h. (cc), λ h. (cc))

-- the name of the file being written
pub current_name : (o : Option NamedBytes) (file : NamedBytes) → Some file ≡ o → file.name ≡ name_of (option_map name_at o)
current_name o file is = ap (λ (x : Option NamedBytes). name_of (option_map name_at x)) is

-- and its length
pub current_length : (is_open : Bool) (fs : List NamedBytes) (file : NamedBytes) → Some file ≡ current_of is_open fs →
    length file.bytes ≡ length_at (put_all fs no_files) (name_of (option_map name_at (current_of is_open fs)))
current_length is_open fs file is =
    sym (ap (λ (o : Option (List ℕ)). option_map_or length o 0) (put_all-current is_open fs file no_files is))
    ∙ ap (λ (name : List ℕ). length_at (put_all fs no_files) name) (current_name (current_of is_open fs) file is)

pub same_name : {T E : Type 0} (r : Result T E) (f g : NamedBytes) (piece : List ℕ) → OnOk r (g ≡ record { name = f.name; bytes = f.bytes ++ piece }) → OnErr r (g ≡ f) → g.name ≡ f.name
same_name (Ok x) f g piece ok err = ap (λ (x : NamedBytes). x.name) ok
same_name (Err e) f g piece ok err = ap (λ (x : NamedBytes). x.name) err

-- one file more
put_all-one : (files : List NamedBytes) (i : ℕ) (f : NamedBytes) (name : List ℕ) → i < length files → f ≡ get_or files i f →
    put_all (take (i + 1) files) no_files name ≡ (if bytes_eq name f.name then Some f.bytes else put_all (take i files) no_files name)
unfolding put
put_all-one files i f name lt is =
    let more : take (i + 1) files ≡ take i files ++ f ∷ [] = rw add-one (take-suc files i f lt) ∙ ap (λ (x : NamedBytes). take i files ++ x ∷ []) (sym is) in
    ap (λ (x : List NamedBytes). put_all x no_files name) more ∙ ap (λ (x : Held). x name) (put_all-append (take i files) (f ∷ []) no_files)

pub put_all-one-yes : (files : List NamedBytes) (i : ℕ) (f : NamedBytes) (name : List ℕ) → i < length files → f ≡ get_or files i f → bytes_eq name f.name ≡ true → put_all (take (i + 1) files) no_files name ≡ Some f.bytes
put_all-one-yes files i f name lt is same = put_all-one files i f name lt is ∙ ap (λ (b : Bool). if b then Some f.bytes else put_all (take i files) no_files name) same

pub put_all-one-no : (files : List NamedBytes) (i : ℕ) (f : NamedBytes) (name : List ℕ) → i < length files → f ≡ get_or files i f → bytes_eq name f.name ≡ false → put_all (take (i + 1) files) no_files name ≡ put_all (take i files) no_files name
put_all-one-no files i f name lt is other = put_all-one files i f name lt is ∙ ap (λ (b : Bool). if b then Some f.bytes else put_all (take i files) no_files name) other

put_or_empty : (name bytes : List ℕ) (h k : Held) → ((n : List ℕ) → k n ≡ option_or (h n) (Some [])) → (n : List ℕ) → put name bytes k n ≡ option_or (put name bytes h n) (Some [])
unfolding put
put_or_empty name bytes h k same n = elim (bytes_eq n name) as (λ b. (if b then Some bytes else k n) ≡ option_or (if b then Some bytes else h n) (Some [])) [ true ↦ refl | false ↦ same n ]

put_all_or_empty : (fs : List NamedBytes) (h k : Held) → ((n : List ℕ) → k n ≡ option_or (h n) (Some [])) → (n : List ℕ) → put_all fs k n ≡ option_or (put_all fs h n) (Some [])
put_all_or_empty [] h k same n = same n
put_all_or_empty (f ∷ fs) h k same n = put_all_or_empty fs (put f.name f.bytes h) (put f.name f.bytes k) (put_or_empty f.name f.bytes h k same) n

-- a name that wasn't given is held, without bytes
pub sure_found : (fs : List NamedBytes) (n bytes : List ℕ) → Some bytes ≡ put_all fs no_files n → put_all fs empty_files n ≡ Some bytes
sure_found fs n bytes is = put_all_or_empty fs no_files empty_files (λ m. refl) n ∙ ap (λ (o : Option (List ℕ)). option_or o (Some [])) (sym is)

pub sure_absent : (fs : List NamedBytes) (n : List ℕ) → None ≡ put_all fs no_files n → put_all fs empty_files n ≡ Some []
sure_absent fs n is = put_all_or_empty fs no_files empty_files (λ m. refl) n ∙ ap (λ (o : Option (List ℕ)). option_or o (Some [])) (sym is)

pub empty_file : (f : NamedBytes) (text name bytes : List ℕ) → f ≡ record { name = text; bytes = bytes } → text ≡ name → bytes ≡ [] → f ≡ record { name = name; bytes = [] }
empty_file f text name bytes is named empty =
    let called : List ℕ → NamedBytes = λ n. record { name = n; bytes = bytes } in
    let with : List ℕ → NamedBytes = λ b. record { name = name; bytes = b } in
    is ∙ ap called named ∙ ap with empty
