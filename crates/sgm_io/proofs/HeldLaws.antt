-- Laws of what a shelf holds.
use Rattle.std.proofs.Common.{◌≡◌, ◌≢◌, ◌∙◌, ◌+◌, ℕ, length, IsSome, sym, List, [], ◌++◌, Option, None, Some, Bool, refl, ap, true, false, cond, append_assoc, append-nil}
use Rattle.std.specs.Prelude.{option_map}
use Rattle.std.specs.Str.{bytes_eq}
use Rattle.std.proofs.Math.Path.{fun_ext}
use Rattle.std.proofs.lemmas.Slice.Eq.{bytes_eq-Decides}
use Rattle.sgm_io.specs.Writing
use Rattle.std.specs.Option.{option_map_or}
use Rattle.std.proofs.lemmas.List.{length-append}
use Rattle.sgm_io.specs.Held.{Held, put, extend, length_at}

map_twice : (o : Option (List ℕ)) (p q : List ℕ) → option_map (λ x. x ++ q) (option_map (λ x. x ++ p) o) ≡ option_map (λ x. x ++ (p ++ q)) o
map_twice None p q = refl
map_twice (Some x) p q = ap (λ y. Some y) (append_assoc x p q)

map_nothing : (o : Option (List ℕ)) → option_map (λ x. x ++ []) o ≡ o
map_nothing None = refl
map_nothing (Some x) = ap (λ y. Some y) (append-nil x)

-- two pieces are one
pub extend-extend : (name p q : List ℕ) (held : Held) → extend name q (extend name p held) ≡ extend name (p ++ q) held
unfolding extend
extend-extend name p q held = fun_ext (λ other.
    elim (bytes_eq other name) as (λ b. cond b (option_map (λ x. x ++ q) (cond b (option_map (λ x. x ++ p) (held other)) (held other))) (cond b (option_map (λ x. x ++ p) (held other)) (held other)) ≡ cond b (option_map (λ x. x ++ (p ++ q)) (held other)) (held other)) [ true ↦ map_twice (held other) p q | false ↦ refl ])

-- nothing more changes nothing
pub extend-nothing : (name : List ℕ) (held : Held) → extend name [] held ≡ held
unfolding extend
extend-nothing name held = fun_ext (λ other.
    elim (bytes_eq other name) as (λ b. cond b (option_map (λ x. x ++ []) (held other)) (held other) ≡ held other) [ true ↦ map_nothing (held other) | false ↦ refl ])

-- a file that was begun anew and then extended
pub extend-put : (name first piece : List ℕ) (held : Held) → extend name piece (put name first held) ≡ put name (first ++ piece) held
unfolding extend put
extend-put name first piece held = fun_ext (λ other.
    elim (bytes_eq other name) as (λ b. cond b (option_map (λ x. x ++ piece) (cond b (Some first) (held other))) (cond b (Some first) (held other)) ≡ cond b (Some (first ++ piece)) (held other)) [ true ↦ refl | false ↦ refl ])

-- the later bytes stand
pub put-put : (name first second : List ℕ) (held : Held) → put name second (put name first held) ≡ put name second held
unfolding put
put-put name first second held = fun_ext (λ other.
    elim (bytes_eq other name) as (λ b. cond b (Some second) (cond b (Some first) (held other)) ≡ cond b (Some second) (held other)) [ true ↦ refl | false ↦ refl ])

bytes_eq-other : (other name : List ℕ) → other ≢ name → bytes_eq other name ≡ false
bytes_eq-other other name differ = elim (bytes_eq other name) as (λ b. (b ≡ true → other ≡ name) → b ≡ false) [
  | true ↦ λ same. absurd (differ (same refl))
  | false ↦ λ same. refl
] (λ is. (bytes_eq-Decides other name).0 is)

-- the bytes that were put there
pub put-same : (name bytes : List ℕ) (held : Held) → put name bytes held name ≡ Some bytes
put-same name bytes held = Writing.put-same name bytes held

pub put-other : (name bytes other : List ℕ) (held : Held) → other ≢ name → put name bytes held other ≡ held other
unfolding put
put-other name bytes other held differ = ap (λ (b : Bool). cond b (Some bytes) (held other)) (bytes_eq-other other name differ)

pub extend-other : (name piece other : List ℕ) (held : Held) → other ≢ name → extend name piece held other ≡ held other
unfolding extend
extend-other name piece other held differ = ap (λ (b : Bool). cond b (option_map (λ x. x ++ piece) (held other)) (held other)) (bytes_eq-other other name differ)

-- under a name that is held the piece is really added
pub extend-held : (name piece bytes : List ℕ) (held : Held) → held name ≡ Some bytes → extend name piece held ≡ put name (bytes ++ piece) held
unfolding extend put
extend-held name piece bytes held is = fun_ext (λ other.
    elim (bytes_eq other name) as (λ b. (b ≡ true → other ≡ name) → cond b (option_map (λ x. x ++ piece) (held other)) (held other) ≡ cond b (Some (bytes ++ piece)) (held other)) [
      | true ↦ λ same. ap (λ (o : Option (List ℕ)). option_map (λ x. x ++ piece) o) (ap held (same refl) ∙ is)
      | false ↦ λ same. refl
    ] (λ yes. (bytes_eq-Decides other name).0 yes))

length-extend_of : (name piece : List ℕ) (held : Held) (o : Option (List ℕ)) → held name ≡ o → IsSome o → length_at (extend name piece held) name ≡ length_at held name + length piece
length-extend_of name piece held None is some = cc
length-extend_of name piece held (Some bytes) is some =
    ap (λ (o : Option (List ℕ)). option_map_or length o 0) (ap (λ (h : Held). h name) (extend-held name piece bytes held is) ∙ put-same name (bytes ++ piece) held)
    ∙ length-append bytes piece ∙ ap (λ (o : Option (List ℕ)). option_map_or length o 0 + length piece) (sym is)

-- it is longer by the piece
pub length-extend : (name piece : List ℕ) (held : Held) → IsSome (held name) → length_at (extend name piece held) name ≡ length_at held name + length piece
length-extend name piece held some = length-extend_of name piece held (held name) refl some
