-- What is held are bytes: the law of a shelf, for the shelves in memory.
use Rattle.std.specs.Prelude.{ℕ, ◌<◌, List, [], ◌∷◌, true, false, cond, Some, IfSome}
use Rattle.std.specs.Str.{bytes_eq}
use Rattle.std.proofs.lemmas.List.Elements.{All-nil, All-head, All-tail}
use Rattle.sgm_io.specs.Filed.{HaveBytes}
use Rattle.sgm_io.specs.Held.{Held, NamedBytes, AreBytes, HoldsBytes, put, put_all, no_files}
use Rattle.sgm_io.specs.Held.{empty_files}

put_holds : (name bytes : List ℕ) (held : Held) → AreBytes bytes → HoldsBytes held
    → HoldsBytes (put name bytes held)
unfolding put
put_holds name bytes held one others = λ other.
    elim (bytes_eq other name) as
    (λ b. IfSome (cond b (Some bytes) (held other)) AreBytes)
    [ true ↦ one | false ↦ others other ]

files_hold : (files : List NamedBytes) (first : Held) → HaveBytes files → HoldsBytes first
    → HoldsBytes (put_all files first)
files_hold [] first have held = held
files_hold (file ∷ files) first have held =
    files_hold files (put file.name file.bytes first)
    (All-tail (λ f. AreBytes f.bytes) file files have)
    (put_holds file.name file.bytes first (All-head (λ f. AreBytes f.bytes) file files have) held)

pub files_hold_bytes : (files : List NamedBytes) → HaveBytes files
    → HoldsBytes (put_all files no_files)
files_hold_bytes files have = files_hold files no_files have (λ name. tt)

pub all_names_hold_bytes : (files : List NamedBytes) → HaveBytes files
    → HoldsBytes (put_all files empty_files)
all_names_hold_bytes files have = files_hold files empty_files have (λ name. All-nil (λ b. b < 256))
