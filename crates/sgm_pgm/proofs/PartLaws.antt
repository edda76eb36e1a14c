-- Laws of the reading of one part of a header.
use Rattle.std.proofs.Common.{◌≡◌, ◌≢◌, ℕ, ◌+◌, ◌-◌, ◌*◌, ◌⊎◌, inl, inr, min, List, [], ◌∷◌, ◌++◌, Bool, true, false, not, ◌==◌, ◌&&◌, ◌||◌, Result, Ok, Err, refl, sym, ap, ◌∙◌, subst, arith, append_assoc, if◌then◌else◌}
use Rattle.std.specs.Char.{is_ascii_digit, digit_value}
use Rattle.std.specs.List.{AllByRecursion, concat}
use Rattle.std.specs.Str.{all_ascii_digits}
use Rattle.std.specs.Str.Parse.{digits_value, digits_value_after}
use Rattle.std.proofs.lemmas.Bool.{eqb-true}
use Rattle.std.proofs.lemmas.Bool.Decides.{nat_tests}
use Rattle.sgm_pgm.specs.declared.header.TheConstants.{TOO_GREAT}
use Rattle.sgm_pgm.specs.Header.{is_white, ends_line, IsComment, IsPiece, IsGap, IsNumber}
use Rattle.sgm_pgm.specs.Parts.{Stop, short, wrong, ◌>>=◌, gap_rest, gap_at, number_rest, number_at, field_at}

-- ---- tests

pub which : (b : Bool) → (b ≡ true) ⊎ (b ≡ false)
which true = inl refl
which false = inr refl

and_left : (x y : Bool) → (x && y) ≡ true → x ≡ true
and_left true y h = refl
and_left false y h = absurd cc

and_right : (x y : Bool) → (x && y) ≡ true → y ≡ true
and_right true y h = h
and_right false y h = absurd cc

pub white_is_no_hash : (b : ℕ) → is_white b ≡ true → (b == 35) ≡ false
white_is_no_hash b white = grind (arith, nat_tests)

pub white_is_no_digit : (b : ℕ) → is_white b ≡ true → is_ascii_digit b ≡ false
white_is_no_digit b white = grind (arith, nat_tests)

pub hash_is_no_digit : (b : ℕ) → (b == 35) ≡ true → is_ascii_digit b ≡ false
hash_is_no_digit b hash = grind (arith, nat_tests)

pub digit_is_no_hash : (b : ℕ) → is_ascii_digit b ≡ true → (b == 35) ≡ false
digit_is_no_hash b digit = grind (arith, nat_tests)

pub digit_is_no_white : (b : ℕ) → is_ascii_digit b ≡ true → is_white b ≡ false
digit_is_no_white b digit = grind (arith, nat_tests)

pub digit_value_is : (b : ℕ) → is_ascii_digit b ≡ true → digit_value b ≡ b - 48
digit_value_is b digit = grind (arith, nat_tests)

-- ---- a Gap

abbrev pub okay : List ℕ → Result (List ℕ) Stop
okay x = Ok x

ok_is : (x y : List ℕ) → okay x ≡ okay y → x ≡ y
ok_is x y h = cc

abbrev stopped : List ℕ → Result (List ℕ) Stop
stopped x = Err (wrong x)

wrong_is : (x y : List ℕ) → stopped x ≡ stopped y → x ≡ y
wrong_is x y h = cc

-- what stands before `rest`, where a comment is open or not
abbrev pub Passed : Bool → List ℕ → List ℕ → Type 0
Passed false bytes rest = (pieces : List (List ℕ)) × AllByRecursion IsPiece pieces × (bytes ≡ concat pieces ++ rest)
Passed true bytes rest = (text : List ℕ) × (last : ℕ) × (pieces : List (List ℕ)) × AllByRecursion (λ b. ends_line b ≡ false) text × (ends_line last ≡ true) × AllByRecursion IsPiece pieces × (bytes ≡ text ++ last ∷ (concat pieces ++ rest))

-- a first piece, and what stands behind it
abbrev PassedPiece : List ℕ → List ℕ → Type 0
PassedPiece bytes rest = (piece : List ℕ) × (pieces : List (List ℕ)) × IsPiece piece × AllByRecursion IsPiece pieces × (bytes ≡ concat (piece ∷ pieces) ++ rest)

passed_comment : (b : ℕ) (bytes rest : List ℕ) → (b == 35) ≡ true → Passed true bytes rest → PassedPiece (b ∷ bytes) rest
passed_comment b bytes rest hash (text, last, pieces, within, ended, each, is) =
    let piece : List ℕ = 35 ∷ (text ++ last ∷ []) in
    let comment : IsComment piece = record { text = text; last = last; is = refl; within = within; ended = ended } in
    let front : b ∷ bytes ≡ 35 ∷ (text ++ last ∷ (concat pieces ++ rest)) = ap (λ (c : ℕ). c ∷ bytes) (eqb-true b 35 hash) ∙ ap (λ (t : List ℕ). 35 ∷ t) is in
    let joined : (piece ++ concat pieces) ++ rest ≡ 35 ∷ (text ++ last ∷ (concat pieces ++ rest)) = append_assoc piece (concat pieces) rest ∙ ap (λ (t : List ℕ). 35 ∷ t) (append_assoc text (last ∷ []) (concat pieces ++ rest)) in
    (piece, pieces, inr comment, each, front ∙ sym joined)

passed_white : (b : ℕ) (bytes rest : List ℕ) → is_white b ≡ true → Passed false bytes rest → PassedPiece (b ∷ bytes) rest
passed_white b bytes rest white more = (b ∷ [], more.0, inl (b, white, refl), more.1, ap (λ (t : List ℕ). b ∷ t) more.2)

one_more : (bytes rest : List ℕ) → PassedPiece bytes rest → Passed false bytes rest
one_more bytes rest p = (p.0 ∷ p.1, (p.2, p.3), p.4)

pub gap_passed : (commented : Bool) (bytes rest : List ℕ) → gap_rest commented bytes ≡ Ok rest → Passed commented bytes rest
gap_passed true [] rest e = absurd cc
gap_passed false [] rest e = absurd cc
gap_passed true (b ∷ bytes) rest e =
    elim (ends_line b) as (λ t. ends_line b ≡ t → gap_rest (not t) bytes ≡ Ok rest → Passed true (b ∷ bytes) rest) [
      | true ↦ λ ends e'. let more = gap_passed false bytes rest e' in ([], b, more.0, tt, ends, more.1, ap (λ (t : List ℕ). b ∷ t) more.2)
      | false ↦ λ goes e'. let more = gap_passed true bytes rest e' in (b ∷ more.0, more.1, more.2, (goes, more.3), more.4, more.5, ap (λ (t : List ℕ). b ∷ t) more.6)
    ] refl e
gap_passed false (b ∷ bytes) rest e =
    elim (b == 35) as (λ t. (b == 35) ≡ t → (if t then gap_rest true bytes else (if is_white b then gap_rest false bytes else Ok (b ∷ bytes))) ≡ Ok rest → Passed false (b ∷ bytes) rest) [
      | true ↦ λ hash e'. one_more (b ∷ bytes) rest (passed_comment b bytes rest hash (gap_passed true bytes rest e'))
      | false ↦ λ other e'. elim (is_white b) as (λ t. is_white b ≡ t → (if t then gap_rest false bytes else Ok (b ∷ bytes)) ≡ Ok rest → Passed false (b ∷ bytes) rest) [
        | true ↦ λ white e''. one_more (b ∷ bytes) rest (passed_white b bytes rest white (gap_passed false bytes rest e''))
        | false ↦ λ black e''. ([], tt, ok_is (b ∷ bytes) rest e'')
      ] refl e'
    ] refl e

-- over the white bytes and comments of a Gap
over_comment : (text : List ℕ) (last : ℕ) (rest : List ℕ) → AllByRecursion (λ b. ends_line b ≡ false) text → ends_line last ≡ true → gap_rest true (text ++ last ∷ rest) ≡ gap_rest false rest
over_comment [] last rest within ended = ap (λ (t : Bool). gap_rest (not t) rest) ended
over_comment (b ∷ text) last rest within ended = ap (λ (t : Bool). gap_rest (not t) (text ++ last ∷ rest)) within.0 ∙ over_comment text last rest within.1 ended

step_hash : (b : ℕ) (bytes : List ℕ) → (b == 35) ≡ true → gap_rest false (b ∷ bytes) ≡ gap_rest true bytes
step_hash b bytes hash = ap (λ (t : Bool). if t then gap_rest true bytes else (if is_white b then gap_rest false bytes else Ok (b ∷ bytes))) hash

step_white : (b : ℕ) (bytes : List ℕ) → is_white b ≡ true → gap_rest false (b ∷ bytes) ≡ gap_rest false bytes
step_white b bytes white =
    ap (λ (t : Bool). if t then gap_rest true bytes else (if is_white b then gap_rest false bytes else Ok (b ∷ bytes))) (white_is_no_hash b white)
    ∙ ap (λ (t : Bool). if t then gap_rest false bytes else Ok (b ∷ bytes)) white

step_end : (b : ℕ) (bytes : List ℕ) → (b == 35) ≡ false → is_white b ≡ false → gap_rest false (b ∷ bytes) ≡ Ok (b ∷ bytes)
step_end b bytes other black =
    ap (λ (t : Bool). if t then gap_rest true bytes else (if is_white b then gap_rest false bytes else Ok (b ∷ bytes))) other
    ∙ ap (λ (t : Bool). if t then gap_rest false bytes else Ok (b ∷ bytes)) black

over_piece : (piece rest : List ℕ) → IsPiece piece → gap_rest false (piece ++ rest) ≡ gap_rest false rest
over_piece piece rest (inl (b, white, is)) = ap (λ (t : List ℕ). gap_rest false (t ++ rest)) is ∙ step_white b rest white
over_piece piece rest (inr comment) =
    ap (λ (t : List ℕ). gap_rest false (t ++ rest)) comment.is
    ∙ ap (λ (t : List ℕ). gap_rest true t) (append_assoc comment.text (comment.last ∷ []) rest)
    ∙ over_comment comment.text comment.last rest comment.within comment.ended

pub over_pieces : (pieces : List (List ℕ)) (rest : List ℕ) → AllByRecursion IsPiece pieces → gap_rest false (concat pieces ++ rest) ≡ gap_rest false rest
over_pieces [] rest each = refl
over_pieces (piece ∷ pieces) rest each =
    ap (λ (t : List ℕ). gap_rest false t) (append_assoc piece (concat pieces) rest) ∙ over_piece piece (concat pieces ++ rest) each.0 ∙ over_pieces pieces rest each.1

-- a Gap begins with a white byte or `#`
abbrev opens : ℕ → Bool
opens b = b == 35 || is_white b

opens_white : (b : ℕ) → is_white b ≡ true → opens b ≡ true
opens_white b white = elim (b == 35) as (λ t. (t || is_white b) ≡ true) [ true ↦ refl | false ↦ white ]

at_open : (b : ℕ) (bytes : List ℕ) → opens b ≡ true → gap_at (b ∷ bytes) ≡ gap_rest false (b ∷ bytes)
at_open b bytes open_ = ap (λ (t : Bool). if t then gap_rest false (b ∷ bytes) else Err (wrong (b ∷ bytes))) open_

at_piece : (piece rest : List ℕ) → IsPiece piece → gap_at (piece ++ rest) ≡ gap_rest false (piece ++ rest)
at_piece piece rest (inl (b, white, is)) =
    let P : List ℕ → Type 0 = λ t. gap_at (t ++ rest) ≡ gap_rest false (t ++ rest) in subst P (sym is) (at_open b rest (opens_white b white))
at_piece piece rest (inr comment) =
    let P : List ℕ → Type 0 = λ t. gap_at (t ++ rest) ≡ gap_rest false (t ++ rest) in subst P (sym comment.is) refl

pub over_gap : (gap rest : List ℕ) → IsGap gap → gap_at (gap ++ rest) ≡ gap_rest false rest
over_gap gap rest is =
    ap (λ (t : List ℕ). gap_at (t ++ rest)) is.is ∙ all is.pieces is.some is.each
  where
    all : (pieces : List (List ℕ)) → pieces ≢ [] → AllByRecursion IsPiece pieces → gap_at (concat pieces ++ rest) ≡ gap_rest false rest
    all [] some each = absurd (some refl)
    all (piece ∷ pieces) some each =
        ap (λ (t : List ℕ). gap_at t) (append_assoc piece (concat pieces) rest)
        ∙ at_piece piece (concat pieces ++ rest) each.0
        ∙ over_piece piece (concat pieces ++ rest) each.0
        ∙ over_pieces pieces rest each.1

shut : (b : ℕ) (bytes : List ℕ) → opens b ≡ false → gap_at (b ∷ bytes) ≡ Err (wrong (b ∷ bytes))
shut b bytes off = ap (λ (t : Bool). if t then gap_rest false (b ∷ bytes) else Err (wrong (b ∷ bytes))) off

-- a Gap that was read
pub gap_found : (bytes rest : List ℕ) → gap_at bytes ≡ Ok rest → (gap : List ℕ) × IsGap gap × (bytes ≡ gap ++ rest)
gap_found [] rest e = absurd cc
gap_found (b ∷ bytes) rest e =
    elim (which (b == 35)) [
      | inl hash ↦ found (passed_comment b bytes rest hash (gap_passed true bytes rest (sym (step_hash b bytes hash) ∙ sym (at_open b bytes (ap (λ (t : Bool). t || is_white b) hash)) ∙ e)))
      | inr other ↦ elim (which (is_white b)) [
        | inl white ↦ found (passed_white b bytes rest white (gap_passed false bytes rest (sym (step_white b bytes white) ∙ sym (at_open b bytes (opens_white b white)) ∙ e)))
        | inr black ↦ let no = shut b bytes (ap (λ (t : Bool). t || is_white b) other ∙ black) in absurd cc
      ]
    ]
  where
    found : PassedPiece (b ∷ bytes) rest → (gap : List ℕ) × IsGap gap × (b ∷ bytes ≡ gap ++ rest)
    found p = (concat (p.0 ∷ p.1), record { pieces = p.0 ∷ p.1; some = λ (none : p.0 ∷ p.1 ≡ []). absurd cc; each = (p.2, p.3); is = refl }, p.4)

-- ---- what a part comes to depends on what it has passed and on the next byte

-- The part ends before `rest` with the outcome `outcome rest`. It would do so whatever stood behind the next byte, and it
-- is cut short where the bytes end before it.
pub record EndsBefore {A : Type 0} (part : List ℕ → Result A Stop) (outcome : List ℕ → Result A Stop) (bytes rest : List ℕ) : Type 0 where
  pub front : List ℕ
  pub next : ℕ
  pub more : List ℕ
  pub is : bytes ≡ front ++ next ∷ more
  pub rest_is : rest ≡ next ∷ more
  pub cut : part front ≡ Err short
  pub again : (other : List ℕ) → part (front ++ next ∷ other) ≡ outcome (next ∷ other)

-- more bytes at the end don't change where it ends
pub more_behind : {A : Type 0} (part : List ℕ → Result A Stop) (outcome : List ℕ → Result A Stop) (bytes rest end : List ℕ) → EndsBefore part outcome bytes rest → part (bytes ++ end) ≡ outcome (rest ++ end)
more_behind part outcome bytes rest end e =
    ap (λ (t : List ℕ). part (t ++ end)) e.is ∙ ap part (append_assoc e.front (e.next ∷ e.more) end) ∙ e.again (e.more ++ end) ∙ ap (λ (t : List ℕ). outcome (t ++ end)) (sym e.rest_is)

-- one byte before the part, over which another part goes on as the part does
begun : {A : Type 0} (whole part : List ℕ → Result A Stop) (outcome : List ℕ → Result A Stop) (b : ℕ) (bytes rest : List ℕ) → ((t : List ℕ) → whole (b ∷ t) ≡ part t) → EndsBefore part outcome bytes rest → EndsBefore whole outcome (b ∷ bytes) rest
begun whole part outcome b bytes rest over e = record {
  front = b ∷ e.front;
  next = e.next;
  more = e.more;
  is = ap (λ (t : List ℕ). b ∷ t) e.is;
  rest_is = e.rest_is;
  cut = over e.front ∙ e.cut;
  again = λ other. over (e.front ++ e.next ∷ other) ∙ e.again other;
}

-- the next byte ends the part
at_once : {A : Type 0} (part : List ℕ → Result A Stop) (outcome : List ℕ → Result A Stop) (b : ℕ) (bytes rest : List ℕ) → part [] ≡ Err short → rest ≡ b ∷ bytes → ((t : List ℕ) → part (b ∷ t) ≡ outcome (b ∷ t)) → EndsBefore part outcome (b ∷ bytes) rest
at_once part outcome b bytes rest cut is ends = record { front = []; next = b; more = bytes; is = refl; rest_is = is; cut = cut; again = ends }

pub gap_rest_ends : (commented : Bool) (bytes rest : List ℕ) → gap_rest commented bytes ≡ Ok rest → EndsBefore (gap_rest commented) okay bytes rest
gap_rest_ends true [] rest e = absurd cc
gap_rest_ends false [] rest e = absurd cc
gap_rest_ends true (b ∷ bytes) rest e = begun (gap_rest true) (gap_rest (not (ends_line b))) okay b bytes rest (λ t. refl) (gap_rest_ends (not (ends_line b)) bytes rest e)
gap_rest_ends false (b ∷ bytes) rest e =
    elim (which (b == 35)) [
      | inl hash ↦ begun (gap_rest false) (gap_rest true) okay b bytes rest (λ t. step_hash b t hash) (gap_rest_ends true bytes rest (sym (step_hash b bytes hash) ∙ e))
      | inr other ↦ elim (which (is_white b)) [
        | inl white ↦ begun (gap_rest false) (gap_rest false) okay b bytes rest (λ t. step_white b t white) (gap_rest_ends false bytes rest (sym (step_white b bytes white) ∙ e))
        | inr black ↦ at_once (gap_rest false) okay b bytes rest refl (ok_is rest (b ∷ bytes) (sym e ∙ step_end b bytes other black)) (λ t. step_end b t other black)
      ]
    ]

pub gap_never_wrong : (commented : Bool) (bytes rest : List ℕ) → gap_rest commented bytes ≡ Err (wrong rest) → ⊥
gap_never_wrong true [] rest e = absurd cc
gap_never_wrong false [] rest e = absurd cc
gap_never_wrong true (b ∷ bytes) rest e = gap_never_wrong (not (ends_line b)) bytes rest e
gap_never_wrong false (b ∷ bytes) rest e =
    elim (which (b == 35)) [
      | inl hash ↦ gap_never_wrong true bytes rest (sym (step_hash b bytes hash) ∙ e)
      | inr no_hash ↦ elim (which (is_white b)) [
        | inl white ↦ gap_never_wrong false bytes rest (sym (step_white b bytes white) ∙ e)
        | inr black ↦ let ended = step_end b bytes no_hash black in absurd cc
      ]
    ]

over_hash : (b : ℕ) (t : List ℕ) → (b == 35) ≡ true → gap_at (b ∷ t) ≡ gap_rest true t
over_hash b t hash = at_open b t (ap (λ (o : Bool). o || is_white b) hash) ∙ step_hash b t hash

over_white : (b : ℕ) (t : List ℕ) → is_white b ≡ true → gap_at (b ∷ t) ≡ gap_rest false t
over_white b t white = at_open b t (opens_white b white) ∙ step_white b t white

neither : (b : ℕ) (t : List ℕ) → (b == 35) ≡ false → is_white b ≡ false → gap_at (b ∷ t) ≡ Err (wrong (b ∷ t))
neither b t other black = shut b t (ap (λ (o : Bool). o || is_white b) other ∙ black)

pub gap_ends : (bytes rest : List ℕ) → gap_at bytes ≡ Ok rest → EndsBefore gap_at okay bytes rest
gap_ends [] rest e = absurd cc
gap_ends (b ∷ bytes) rest e =
    elim (which (b == 35)) [
      | inl hash ↦ begun gap_at (gap_rest true) okay b bytes rest (λ t. over_hash b t hash) (gap_rest_ends true bytes rest (sym (over_hash b bytes hash) ∙ e))
      | inr other ↦ elim (which (is_white b)) [
        | inl white ↦ begun gap_at (gap_rest false) okay b bytes rest (λ t. over_white b t white) (gap_rest_ends false bytes rest (sym (over_white b bytes white) ∙ e))
        | inr black ↦ let stops = neither b bytes other black in absurd cc
      ]
    ]

pub gap_wrong : (bytes rest : List ℕ) → gap_at bytes ≡ Err (wrong rest) → EndsBefore gap_at stopped bytes rest
gap_wrong [] rest e = absurd cc
gap_wrong (b ∷ bytes) rest e =
    elim (which (b == 35)) [
      | inl hash ↦ absurd (gap_never_wrong true bytes rest (sym (over_hash b bytes hash) ∙ e))
      | inr other ↦ elim (which (is_white b)) [
        | inl white ↦ absurd (gap_never_wrong false bytes rest (sym (over_white b bytes white) ∙ e))
        | inr black ↦ at_once gap_at stopped b bytes rest refl (wrong_is rest (b ∷ bytes) (sym e ∙ neither b bytes other black)) (λ t. neither b t other black)
      ]
    ]

-- a Gap that is cut short goes on with a white byte: LF, as a comment may be open
gap_rest_goes_on : (commented : Bool) (bytes more : List ℕ) → gap_rest commented bytes ≡ Err short → gap_rest commented (bytes ++ 10 ∷ more) ≡ gap_rest false more
gap_rest_goes_on true [] more e = refl
gap_rest_goes_on false [] more e = refl
gap_rest_goes_on true (b ∷ bytes) more e = gap_rest_goes_on (not (ends_line b)) bytes more e
gap_rest_goes_on false (b ∷ bytes) more e =
    elim (which (b == 35)) [
      | inl hash ↦ step_hash b (bytes ++ 10 ∷ more) hash ∙ gap_rest_goes_on true bytes more (sym (step_hash b bytes hash) ∙ e)
      | inr other ↦ elim (which (is_white b)) [
        | inl white ↦ step_white b (bytes ++ 10 ∷ more) white ∙ gap_rest_goes_on false bytes more (sym (step_white b bytes white) ∙ e)
        | inr black ↦ let ended = step_end b bytes other black in absurd cc
      ]
    ]

pub gap_goes_on : (bytes more : List ℕ) → gap_at bytes ≡ Err short → gap_at (bytes ++ 10 ∷ more) ≡ gap_rest false more
gap_goes_on [] more e = refl
gap_goes_on (b ∷ bytes) more e =
    elim (which (b == 35)) [
      | inl hash ↦ over_hash b (bytes ++ 10 ∷ more) hash ∙ gap_rest_goes_on true bytes more (sym (over_hash b bytes hash) ∙ e)
      | inr other ↦ elim (which (is_white b)) [
        | inl white ↦ over_white b (bytes ++ 10 ∷ more) white ∙ gap_rest_goes_on false bytes more (sym (over_white b bytes white) ∙ e)
        | inr black ↦ let stops = neither b bytes other black in absurd cc
      ]
    ]

-- ---- a number

-- all that are too great as one
abbrev pub capped : ℕ → ℕ
capped n = min n TOO_GREAT

abbrev pub numbered : ℕ → List ℕ → Result (ℕ × List ℕ) Stop
numbered n rest = Ok (n, rest)

step_digit : (n b : ℕ) (bytes : List ℕ) → is_ascii_digit b ≡ true → number_rest (capped n) (b ∷ bytes) ≡ number_rest (capped (n * 10 + digit_value b)) bytes
step_digit n b bytes digit =
    let value : min (10 * min n TOO_GREAT + (b - 48)) TOO_GREAT ≡ min (n * 10 + digit_value b) TOO_GREAT = omega (arith, digit_value_is b digit) in
    ap (λ (t : Bool). if t then number_rest (min (10 * capped n + (b - 48)) TOO_GREAT) bytes else Ok (capped n, b ∷ bytes)) digit ∙ ap (λ (m : ℕ). number_rest m bytes) value

step_other : (n b : ℕ) (bytes : List ℕ) → is_ascii_digit b ≡ false → number_rest n (b ∷ bytes) ≡ numbered n (b ∷ bytes)
step_other n b bytes other = ap (λ (t : Bool). if t then number_rest (min (10 * n + (b - 48)) TOO_GREAT) bytes else Ok (n, b ∷ bytes)) other

-- over the digits of a number, which another byte ends
over_digits : (n : ℕ) (digits : List ℕ) (b : ℕ) (more : List ℕ) → all_ascii_digits digits ≡ true → is_ascii_digit b ≡ false → number_rest (capped n) (digits ++ b ∷ more) ≡ Ok (capped (digits_value_after 10 n digits), b ∷ more)
over_digits n [] b more all ends = step_other (capped n) b more ends
over_digits n (d ∷ digits) b more all ends =
    step_digit n d (digits ++ b ∷ more) (and_left _ _ all) ∙ over_digits (n * 10 + digit_value d) digits b more (and_right _ _ all) ends

-- the digits that were read
abbrev DigitsFound : ℕ → List ℕ → ℕ → List ℕ → Type 0
DigitsFound n bytes value rest = (digits : List ℕ) × (all_ascii_digits digits ≡ true) × (bytes ≡ digits ++ rest) × (value ≡ capped (digits_value_after 10 n digits))

abbrev value_in : Result (ℕ × List ℕ) Stop → ℕ
value_in (Ok p) = p.0
value_in (Err stop) = 0

abbrev rest_in : Result (ℕ × List ℕ) Stop → List ℕ
rest_in (Ok p) = p.1
rest_in (Err stop) = []

pair_is : (m n : ℕ) (x y : List ℕ) → numbered m x ≡ numbered n y → (m ≡ n) × (x ≡ y)
pair_is m n x y h = (ap value_in h, ap rest_in h)

digits_found : (n : ℕ) (bytes : List ℕ) (value : ℕ) (rest : List ℕ) → number_rest (capped n) bytes ≡ Ok (value, rest) → DigitsFound n bytes value rest
digits_found n [] value rest e = absurd cc
digits_found n (b ∷ bytes) value rest e =
    elim (which (is_ascii_digit b)) [
      | inl digit ↦ let more = digits_found (n * 10 + digit_value b) bytes value rest (sym (step_digit n b bytes digit) ∙ e) in
          (b ∷ more.0, ap (λ (t : Bool). t && all_ascii_digits more.0) digit ∙ more.1, ap (λ (t : List ℕ). b ∷ t) more.2, more.3)
      | inr other ↦ let same = pair_is value (capped n) rest (b ∷ bytes) (sym e ∙ step_other (capped n) b bytes other) in ([], refl, sym same.1, same.0)
    ]

at_digit : (b : ℕ) (bytes : List ℕ) → is_ascii_digit b ≡ true → number_at (b ∷ bytes) ≡ number_rest (capped (digit_value b)) bytes
at_digit b bytes digit =
    ap (λ (t : Bool). if t then number_rest 0 (b ∷ bytes) else Err (wrong (b ∷ bytes))) digit ∙ step_digit 0 b bytes digit ∙ ap (λ (n : ℕ). number_rest (capped n) bytes) (omega arith)

no_digit : (b : ℕ) (bytes : List ℕ) → is_ascii_digit b ≡ false → number_at (b ∷ bytes) ≡ Err (wrong (b ∷ bytes))
no_digit b bytes other = ap (λ (t : Bool). if t then number_rest 0 (b ∷ bytes) else Err (wrong (b ∷ bytes))) other

from_zero : (n : ℕ) (digits : List ℕ) → digits_value_after 10 (0 * 10 + n) digits ≡ digits_value_after 10 n digits
from_zero n digits = ap (λ (m : ℕ). digits_value_after 10 m digits) (omega arith)

pub number_found : (bytes : List ℕ) (value : ℕ) (rest : List ℕ) → number_at bytes ≡ Ok (value, rest) → (digits : List ℕ) × (real : ℕ) × IsNumber digits real × (bytes ≡ digits ++ rest) × (value ≡ capped real)
number_found [] value rest e = absurd cc
number_found (b ∷ bytes) value rest e =
    elim (which (is_ascii_digit b)) [
      | inl digit ↦ let more = digits_found (digit_value b) bytes value rest (sym (at_digit b bytes digit) ∙ e) in (
        b ∷ more.0,
        digits_value 10 (b ∷ more.0),
        record { some = λ (none : b ∷ more.0 ≡ []). absurd cc; each = ap (λ (t : Bool). t && all_ascii_digits more.0) digit ∙ more.1; is = refl },
        ap (λ (t : List ℕ). b ∷ t) more.2,
        more.3 ∙ ap capped (sym (from_zero (digit_value b) more.0)),
      )
      | inr other ↦ let stops = no_digit b bytes other in absurd cc
    ]

pub over_number : (digits : List ℕ) (real b : ℕ) (more : List ℕ) → IsNumber digits real → is_ascii_digit b ≡ false → number_at (digits ++ b ∷ more) ≡ Ok (capped real, b ∷ more)
over_number [] real b more is ends = absurd (is.some refl)
over_number (d ∷ digits) real b more is ends =
    at_digit d (digits ++ b ∷ more) (and_left _ _ is.each)
    ∙ over_digits (digit_value d) digits b more (and_right _ _ is.each) ends
    ∙ ap (λ (n : ℕ). numbered (capped n) (b ∷ more)) (sym (is.is ∙ from_zero (digit_value d) digits))

-- the first digit of a number
pub first_digit : (digits : List ℕ) (real : ℕ) → IsNumber digits real → (d : ℕ) × (more : List ℕ) × (digits ≡ d ∷ more) × (is_ascii_digit d ≡ true)
first_digit [] real is = absurd (is.some refl)
first_digit (d ∷ digits) real is = (d, digits, refl, and_left _ _ is.each)

digits_end : (n : ℕ) (bytes : List ℕ) (value : ℕ) (rest : List ℕ) → number_rest (capped n) bytes ≡ Ok (value, rest) → EndsBefore (number_rest (capped n)) (numbered value) bytes rest
digits_end n [] value rest e = absurd cc
digits_end n (b ∷ bytes) value rest e =
    elim (which (is_ascii_digit b)) [
      | inl digit ↦ begun (number_rest (capped n)) (number_rest (capped (n * 10 + digit_value b))) (numbered value) b bytes rest (λ t. step_digit n b t digit) (digits_end (n * 10 + digit_value b) bytes value rest (sym (step_digit n b bytes digit) ∙ e))
      | inr other ↦ let same = pair_is value (capped n) rest (b ∷ bytes) (sym e ∙ step_other (capped n) b bytes other) in
          at_once (number_rest (capped n)) (numbered value) b bytes rest refl same.1 (λ t. step_other (capped n) b t other ∙ ap (λ (m : ℕ). numbered m (b ∷ t)) (sym same.0))
    ]

digits_never_wrong : (n : ℕ) (bytes rest : List ℕ) → number_rest (capped n) bytes ≡ Err (wrong rest) → ⊥
digits_never_wrong n [] rest e = absurd cc
digits_never_wrong n (b ∷ bytes) rest e =
    elim (which (is_ascii_digit b)) [
      | inl digit ↦ digits_never_wrong (n * 10 + digit_value b) bytes rest (sym (step_digit n b bytes digit) ∙ e)
      | inr other ↦ let ended = step_other (capped n) b bytes other in absurd cc
    ]

abbrev pub halted : List ℕ → Result (ℕ × List ℕ) Stop
halted rest = Err (wrong rest)

halted_is : (x y : List ℕ) → halted x ≡ halted y → x ≡ y
halted_is x y h = cc

pub number_ends : (bytes : List ℕ) (value : ℕ) (rest : List ℕ) → number_at bytes ≡ Ok (value, rest) → EndsBefore number_at (numbered value) bytes rest
number_ends [] value rest e = absurd cc
number_ends (b ∷ bytes) value rest e =
    elim (which (is_ascii_digit b)) [
      | inl digit ↦ begun number_at (number_rest (capped (digit_value b))) (numbered value) b bytes rest (λ t. at_digit b t digit) (digits_end (digit_value b) bytes value rest (sym (at_digit b bytes digit) ∙ e))
      | inr other ↦ let stops = no_digit b bytes other in absurd cc
    ]

pub number_wrong : (bytes rest : List ℕ) → number_at bytes ≡ Err (wrong rest) → EndsBefore number_at halted bytes rest
number_wrong [] rest e = absurd cc
number_wrong (b ∷ bytes) rest e =
    elim (which (is_ascii_digit b)) [
      | inl digit ↦ absurd (digits_never_wrong (digit_value b) bytes rest (sym (at_digit b bytes digit) ∙ e))
      | inr other ↦ at_once number_at halted b bytes rest refl (halted_is rest (b ∷ bytes) (sym e ∙ no_digit b bytes other)) (λ t. no_digit b t other)
    ]

-- a number that is cut short goes on with a digit: 1
digits_go_on : (n : ℕ) (bytes : List ℕ) → number_rest (capped n) bytes ≡ Err short → (value : ℕ) × ((more : List ℕ) → number_rest (capped n) (bytes ++ 49 ∷ 10 ∷ more) ≡ Ok (value, 10 ∷ more))
digits_go_on n [] e = (capped (n * 10 + 1), λ more. step_digit n 49 (10 ∷ more) refl)
digits_go_on n (b ∷ bytes) e =
    elim (which (is_ascii_digit b)) [
      | inl digit ↦ let rest = digits_go_on (n * 10 + digit_value b) bytes (sym (step_digit n b bytes digit) ∙ e) in (rest.0, λ more. step_digit n b (bytes ++ 49 ∷ 10 ∷ more) digit ∙ rest.1 more)
      | inr other ↦ let ended = step_other (capped n) b bytes other in absurd cc
    ]

pub number_goes_on : (bytes : List ℕ) → number_at bytes ≡ Err short → (value : ℕ) × ((more : List ℕ) → number_at (bytes ++ 49 ∷ 10 ∷ more) ≡ Ok (value, 10 ∷ more))
number_goes_on [] e = (1, λ more. refl)
number_goes_on (b ∷ bytes) e =
    elim (which (is_ascii_digit b)) [
      | inl digit ↦ let rest = digits_go_on (digit_value b) bytes (sym (at_digit b bytes digit) ∙ e) in (rest.0, λ more. at_digit b (bytes ++ 49 ∷ 10 ∷ more) digit ∙ rest.1 more)
      | inr other ↦ let stops = no_digit b bytes other in absurd cc
    ]

-- ---- one part behind another

pub bind_ok : {A B : Type 0} (r : Result A Stop) (f : A → Result B Stop) (y : B) → (r >>= f) ≡ Ok y → (x : A) × (r ≡ Ok x) × (f x ≡ Ok y)
bind_ok (Ok x) f y e = (x, refl, e)
bind_ok (Err stop) f y e = absurd cc

pub bind_err : {A B : Type 0} (r : Result A Stop) (f : A → Result B Stop) (stop : Stop) → (r >>= f) ≡ Err stop → (r ≡ Err stop) ⊎ ((x : A) × (r ≡ Ok x) × (f x ≡ Err stop))
bind_err (Ok x) f stop e = inr (x, refl, e)
bind_err {B = B} (Err s) f stop e = inl (ap (λ (t : Stop). Err t) (stop_is s stop e))
  where
    stop_is : (s t : Stop) → ◌≡◌ {A = Result B Stop} (Err s) (Err t) → s ≡ t
    stop_is s t h = cc

-- where the first part ends, the second begins
pub then_ends : {A B : Type 0} (first : List ℕ → Result A Stop) (found : List ℕ → A) (second : A → Result B Stop) (outcome : List ℕ → Result B Stop) (bytes middle rest : List ℕ) →
    EndsBefore first (λ r. Ok (found r)) bytes middle → EndsBefore (λ r. second (found r)) outcome middle rest → EndsBefore (λ t. first t >>= second) outcome bytes rest
then_ends {A} {B} first found second outcome bytes middle rest a b = from b.front b.is b.cut b.again
  where
    after : {r : Result A Stop} {x : A} → r ≡ Ok x → (r >>= second) ≡ second x
    after {r} {x} e = ap (λ (o : Result A Stop). o >>= second) e

    from : (front : List ℕ) → middle ≡ front ++ b.next ∷ b.more → second (found front) ≡ Err short → ((other : List ℕ) → second (found (front ++ b.next ∷ other)) ≡ outcome (b.next ∷ other)) → EndsBefore (λ t. first t >>= second) outcome bytes rest
    from [] is cut again = let same : a.next ≡ b.next = cc in record {
      front = a.front;
      next = a.next;
      more = a.more;
      is = a.is;
      rest_is = b.rest_is ∙ sym is ∙ a.rest_is;
      cut = ap (λ (o : Result A Stop). o >>= second) a.cut;
      again = λ other. after (a.again other) ∙ ap (λ (n : ℕ). second (found (n ∷ other))) same ∙ again other ∙ ap (λ (n : ℕ). outcome (n ∷ other)) (sym same);
    }
    from (c ∷ front) is cut again = let same : a.next ≡ c = cc in let more : a.more ≡ front ++ b.next ∷ b.more = cc in record {
      front = a.front ++ a.next ∷ front;
      next = b.next;
      more = b.more;
      is = a.is ∙ ap (λ (t : List ℕ). a.front ++ a.next ∷ t) more ∙ sym (append_assoc a.front (a.next ∷ front) (b.next ∷ b.more));
      rest_is = b.rest_is;
      cut = after (a.again front) ∙ ap (λ (n : ℕ). second (found (n ∷ front))) same ∙ cut;
      again = λ other. ap (λ (t : List ℕ). first t >>= second) (append_assoc a.front (a.next ∷ front) (b.next ∷ other)) ∙ after (a.again (front ++ b.next ∷ other)) ∙ ap (λ (n : ℕ). second (found (n ∷ (front ++ b.next ∷ other)))) same ∙ again other;
    }

-- where the first part goes wrong, so does the whole
pub first_ends : {A B : Type 0} (first : List ℕ → Result A Stop) (second : A → Result B Stop) (bytes rest : List ℕ) →
    EndsBefore first (λ r. Err (wrong r)) bytes rest → EndsBefore (λ t. first t >>= second) (λ r. Err (wrong r)) bytes rest
first_ends {A} first second bytes rest a = record {
  front = a.front;
  next = a.next;
  more = a.more;
  is = a.is;
  rest_is = a.rest_is;
  cut = ap (λ (o : Result A Stop). o >>= second) a.cut;
  again = λ other. ap (λ (o : Result A Stop). o >>= second) (a.again other);
}

-- ---- a Gap and a number

pub field_found : (bytes : List ℕ) (value : ℕ) (rest : List ℕ) → field_at bytes ≡ Ok (value, rest) → (gap digits : List ℕ) × (real : ℕ) × IsGap gap × IsNumber digits real × (bytes ≡ gap ++ (digits ++ rest)) × (value ≡ capped real)
field_found bytes value rest e =
    let parts = bind_ok (gap_at bytes) number_at (value, rest) e in
    let gap = gap_found bytes parts.0 parts.1 in
    let number = number_found parts.0 value rest parts.2 in
    (gap.0, number.0, number.1, gap.1, number.2, gap.2 ∙ ap (λ (t : List ℕ). gap.0 ++ t) number.3, number.4)

pub over_field : (gap digits : List ℕ) (real b : ℕ) (more : List ℕ) → IsGap gap → IsNumber digits real → is_ascii_digit b ≡ false → field_at (gap ++ (digits ++ b ∷ more)) ≡ Ok (capped real, b ∷ more)
over_field gap digits real b more is_gap is_number ends =
    let first = first_digit digits real is_number in
    let stands : gap_rest false (digits ++ b ∷ more) ≡ Ok (digits ++ b ∷ more) =
    ap (λ (t : List ℕ). gap_rest false (t ++ b ∷ more)) first.2 ∙ step_end first.0 (first.1 ++ b ∷ more) (digit_is_no_hash first.0 first.3) (digit_is_no_white first.0 first.3) ∙ ap (λ (t : List ℕ). okay (t ++ b ∷ more)) (sym first.2) in
    ap (λ (r : Result (List ℕ) Stop). r >>= number_at) (over_gap gap (digits ++ b ∷ more) is_gap ∙ stands) ∙ over_number digits real b more is_number ends

pub field_ends : (bytes : List ℕ) (value : ℕ) (rest : List ℕ) → field_at bytes ≡ Ok (value, rest) → EndsBefore field_at (numbered value) bytes rest
field_ends bytes value rest e =
    let parts = bind_ok (gap_at bytes) number_at (value, rest) e in
    then_ends gap_at (λ r. r) number_at (numbered value) bytes parts.0 rest (gap_ends bytes parts.0 parts.1) (number_ends parts.0 value rest parts.2)

pub field_wrong : (bytes rest : List ℕ) → field_at bytes ≡ Err (wrong rest) → EndsBefore field_at halted bytes rest
field_wrong bytes rest e =
    elim (bind_err (gap_at bytes) number_at (wrong rest) e) [
      | inl at_gap ↦ first_ends gap_at number_at bytes rest (gap_wrong bytes rest at_gap)
      | inr (middle, gap, at_number) ↦ then_ends gap_at (λ r. r) number_at halted bytes middle rest (gap_ends bytes middle gap) (number_wrong middle rest at_number)
    ]

-- a Gap and a number that are cut short go on
pub field_goes_on : (bytes : List ℕ) → field_at bytes ≡ Err short → (value next : ℕ) × (end : List ℕ) × ((more : List ℕ) → field_at (bytes ++ next ∷ (end ++ 10 ∷ more)) ≡ Ok (value, 10 ∷ more))
field_goes_on bytes e =
    elim (bind_err (gap_at bytes) number_at short e) [
      | inl at_gap ↦ (1, 10, 49 ∷ [], λ more. ap (λ (r : Result (List ℕ) Stop). r >>= number_at) (gap_goes_on bytes (49 ∷ 10 ∷ more) at_gap))
      | inr (middle, gap, at_number) ↦ let rest = number_goes_on middle at_number in
          (rest.0, 49, [], λ more. ap (λ (r : Result (List ℕ) Stop). r >>= number_at) (more_behind gap_at okay bytes middle (49 ∷ 10 ∷ more) (gap_ends bytes middle gap)) ∙ rest.1 more)
    ]
