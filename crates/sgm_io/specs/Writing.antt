-- A file that is being written is held: the law of a shelf, for the shelves in memory.
use Rattle.std.specs.Prelude.{◌≡◌, refl, ℕ, List, [], ◌∷◌, Bool, true, false, cond}
use Rattle.std.specs.Prelude.{Option, None, Some, IsSome, option_map}
use Rattle.std.specs.Str.{bytes_eq}
use Rattle.std.proofs.Common.{ap, sym, ◌∙◌, subst}
use Rattle.std.proofs.lemmas.Slice.Eq.{bytes_eq-Decides}
use Rattle.sgm_io.specs.Filed.{current_of, last_file, name_at}
use Rattle.sgm_io.specs.Held.{Held, NamedBytes, put, put_all}

pub bytes_eq-same : (name : List ℕ) → bytes_eq name name ≡ true
bytes_eq-same name = (bytes_eq-Decides name name).1 refl

-- the bytes that were put there
pub put-same : (name bytes : List ℕ) (held : Held) → put name bytes held name ≡ Some bytes
unfolding put
put-same name bytes held = ap (λ (b : Bool). cond b (Some bytes) (held name)) (bytes_eq-same name)

-- the last file is what its name means
put_all-last_file : (files : List NamedBytes) (file : NamedBytes) (first : Held) →
    last_file files ≡ Some file → put_all files first file.name ≡ Some file.bytes
put_all-last_file [] file first is = cc
put_all-last_file (one ∷ []) file first is =
    let same : one ≡ file = cc in
    ap (λ (x : NamedBytes). put x.name x.bytes first file.name) same
    ∙ put-same file.name file.bytes first
put_all-last_file (one ∷ next ∷ files) file first is =
    put_all-last_file (next ∷ files) file (put one.name one.bytes first) is

-- so is the file being written
pub put_all-current : (is_open : Bool) (files : List NamedBytes) (file : NamedBytes) (first : Held)
    →
    Some file ≡ current_of is_open files → put_all files first file.name ≡ Some file.bytes
put_all-current true files file first is = put_all-last_file files file first (sym is)
put_all-current false files file first is = cc

named_file : (o : Option NamedBytes) (name : List ℕ) →
    option_map name_at o ≡ Some name → (file : NamedBytes) × (o ≡ Some file) × (file.name ≡ name)
named_file None name is = cc
named_file (Some file) name is = (file, refl, cc)

pub writing_held : (is_open : Bool) (files : List NamedBytes) (first : Held) (name : List ℕ) →
    option_map name_at (current_of is_open files) ≡ Some name → IsSome (put_all files first name)
writing_held true files first name is =
    let last = named_file (last_file files) name is in
    let there : put_all files first name ≡ Some last.0.bytes =
    ap (λ (n : List ℕ). put_all files first n) (sym last.2)
    ∙ put_all-last_file files last.0 first last.1 in
    let P : Option (List ℕ) → Type 0 = λ o. IsSome o in
    subst P (sym there) refl
writing_held false files first name is = cc
