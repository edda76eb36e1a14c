-- Fields that need no quotes, and rows of them.
use Rattle.std.proofs.Common.{◌≡◌, ℕ, suc, ◌^◌, ◌<◌, ◌≤◌, ◌++◌, Bool, true, false, ◌==◌, ◌&&◌, ◌||◌, List, [], ◌∷◌, ℤ, pos, negsuc, neg_ℤ, ◌≤ℤ◌, refl, sym, ap, ◌∙◌, arith, append_assoc, append-nil, if◌then◌else◌, length, nat_le, Result, Ok, Err, OnOk, Fits, codes}
use Rattle.std.specs.Prelude.{decimal}
use Rattle.std.specs.Char.{is_ascii_alphanumeric}
use Rattle.std.specs.Fmt.{signed_decimal}
use Rattle.std.specs.Int.{IsInRange, is_in_range}
use Rattle.std.specs.List.{AllByRecursion, list_all, join_with_byte}
use Rattle.std.specs.Str.Parse.{AllDigits}
use Rattle.std.proofs.lemmas.Bool.{and_from, and_parts, eqb-true, false_from_ne_true, le-leb, or_from, or_left}
use Rattle.std.proofs.Math.Facts.{Fits-lt-pow}
use mir.Syntax.{w128}
use Rattle.std.proofs.lemmas.Fmt.{decimal_is_IsNumeral_wide}
use Rattle.std.proofs.lemmas.Int.{ints}
use Rattle.std.proofs.lemmas.Str.Parse.{digit_from_value}
use Rattle.csv.specs.Writing.{default_writer, field_text, fields_text, is_blank, needs_byte, needs_quotes, next_sep, quoted, row_text, tail_text}
use Rattle.sgm_report.specs.Table.{fields_line, head_line}
use Rattle.sgm_report.specs.Areas.{IsRegionName, is_name_byte}
use Rattle.sgm_report.specs.declared.table.Columns.{Columns}
use Rattle.sgm_report.specs.declared.table.Columns.TheVariants.{Plain, Bridged}
use Rattle.sgm_report.specs.Writers.{IsPlain, later_fields, next_field}

other_byte : (b n : ℕ) (t : Bool) → (b == n) ≡ t → is_name_byte b ≡ true → is_name_byte n ≡ false → (b == n) ≡ false
other_byte b n false e p q = e
other_byte b n true e p q =
    let same : is_name_byte b ≡ is_name_byte n = ap is_name_byte (eqb-true b n e) in
    let both : true ≡ false = sym p ∙ same ∙ q in
    absurd (cc)

-- a byte of a name calls for no quotes
name_byte_plain : (b : ℕ) → is_name_byte b ≡ true → needs_byte default_writer b ≡ false
name_byte_plain b e =
    let comma = other_byte b 44 (b == 44) refl e refl in
    let quote = other_byte b 34 (b == 34) refl e refl in
    let ends = or_from (b == 13) (b == 10) (other_byte b 13 (b == 13) refl e refl) (other_byte b 10 (b == 10) refl e refl) in
    or_from _ false (or_from _ false (or_from ((b == 44) || (b == 34)) ((b == 13) || (b == 10)) (or_from (b == 44) (b == 34) comma quote) ends) refl) refl

name_plain : (bytes : List ℕ) → list_all is_name_byte bytes ≡ true → needs_quotes default_writer bytes ≡ false
name_plain [] e = refl
name_plain (b ∷ bytes) e =
    let parts = and_parts (is_name_byte b) (list_all is_name_byte bytes) e in
    or_from (needs_byte default_writer b) (needs_quotes default_writer bytes) (name_byte_plain b parts.0) (name_plain bytes parts.1)

-- such a field is written as it is
field_is : (bytes : List ℕ) → list_all is_name_byte bytes ≡ true → field_text default_writer bytes ≡ bytes
field_is bytes e = ap (λ (needs : Bool). if needs then quoted default_writer bytes else bytes) (name_plain bytes e)

by_place : (first : Bool) (field : List ℕ) → (if first then [] else 44 ∷ []) ++ field ≡ (if first then field else 44 ∷ field)
by_place true field = refl
by_place false field = refl

-- what the writer adds for such a field
pub next_is : (count : ℕ) (field : List ℕ) → IsPlain field → next_sep default_writer count ++ field_text default_writer field ≡ next_field count field
next_is count field e =
    ap (λ (t : List ℕ). next_sep default_writer count ++ t) (field_is field e) ∙ by_place (count == 0) field

other_count : (count few : ℕ) → few < count → (count == few) ≡ false
other_count count few more = false_from_ne_true (count == few) (λ e. absurd (omega (arith, more, eqb-true count few e)))

-- and at a row's end: no row of two fields or more gets quotes
pub end_is : (wrote : Bool) (count : ℕ) → 2 ≤ count → tail_text default_writer wrote count ≡ 10 ∷ []
end_is true count some = refl
end_is false count some =
    ap (λ (blank : Bool). (if blank then 34 ∷ 34 ∷ [] else []) ++ 10 ∷ [])
    (or_from (count == 0) (count == 1) (other_count count 0 (omega (arith, some))) (other_count count 1 (omega (arith, some))))

-- the names of the columns
abbrev pub head_fields : Columns → List (List ℕ)
head_fields Plain = codes "region" ∷ codes "cells" ∷ codes "empty" ∷ codes "fill" ∷ codes "cut" ∷ codes "lowest" ∷ codes "highest" ∷ []
head_fields Bridged =
    codes "region" ∷ codes "cells" ∷ codes "bridged" ∷ codes "empty" ∷ codes "fill" ∷ codes "cut" ∷ codes "lowest" ∷ codes "highest" ∷ []

pub head_is : (columns : Columns) → row_text default_writer (head_fields columns) ≡ head_line columns
unfolding fields_text is_blank
head_is Plain = refl
head_is Bridged = refl

-- a field behind others has a comma before it
later_field : (count : ℕ) (field : List ℕ) → 1 ≤ count → next_field count field ≡ 44 ∷ field
later_field count field some = ap (λ (first : Bool). if first then field else 44 ∷ field) (other_count count 0 some)

-- one field, written behind others
pub one_later : (count : ℕ) (sofar new field text : List ℕ) → new ≡ sofar ++ next_field count field → 1 ≤ count → field ≡ text
    → new ≡ sofar ++ later_fields (text ∷ [])
one_later count sofar new field text e some same =
    e ∙ ap (λ (t : List ℕ). sofar ++ t) (later_field count field some) ∙ ap (λ (t : List ℕ). sofar ++ 44 ∷ t) (same ∙ sym (append-nil text))

-- the fields after some, each after a comma, and the line's end
abbrev pub rest_text : List (List ℕ) → List ℕ
rest_text [] = 10 ∷ []
rest_text (field ∷ fields) = 44 ∷ (field ++ rest_text fields)

line_is : (field : List ℕ) (fields : List (List ℕ)) → field ++ rest_text fields ≡ fields_line (field ∷ fields)
line_is field [] = refl
line_is field (next ∷ fields) =
    ap (λ (t : List ℕ). field ++ 44 ∷ t) (line_is next fields) ∙ sym (append_assoc field (44 ∷ join_with_byte 44 (next ∷ fields)) (10 ∷ []))

behind_is : (fields : List (List ℕ)) → AllByRecursion IsPlain fields
    → fields_text default_writer fields ++ 10 ∷ [] ≡ rest_text fields
unfolding fields_text
behind_is [] plain = refl
behind_is (field ∷ fields) plain =
    let rest = fields_text default_writer fields in
    ap (λ (t : List ℕ). 44 ∷ t)
    (append_assoc (field_text default_writer field) rest (10 ∷ [])
    ∙ ap (λ (t : List ℕ). t ++ (rest ++ 10 ∷ [])) (field_is field plain.0)
    ∙ ap (λ (t : List ℕ). field ++ t) (behind_is fields plain.1))

-- what the writer adds for a row of two such fields or more
pub row_is : (field next : List ℕ) (fields : List (List ℕ))
    → AllByRecursion IsPlain (field ∷ next ∷ fields)
    → row_text default_writer (field ∷ next ∷ fields) ≡ fields_line (field ∷ next ∷ fields)
unfolding is_blank
row_is field next fields plain =
    let rest = fields_text default_writer (next ∷ fields) in
    append_assoc (field_text default_writer field) rest (10 ∷ [])
    ∙ ap (λ (t : List ℕ). t ++ (rest ++ 10 ∷ [])) (field_is field plain.0)
    ∙ ap (λ (t : List ℕ). field ++ t) (behind_is (next ∷ fields) plain.1)
    ∙ line_is field (next ∷ fields)

rest_more : (more fields : List (List ℕ)) → later_fields more ++ rest_text fields ≡ rest_text (more ++ fields)
rest_more [] fields = refl
rest_more (field ∷ more) fields =
    append_assoc (44 ∷ field) (later_fields more) (rest_text fields) ∙ ap (λ (t : List ℕ). 44 ∷ (field ++ t)) (rest_more more fields)

-- a row of which some fields were written before the rest
pub fields_before : (sofar new row : List ℕ) (more fields : List (List ℕ)) → new ≡ sofar ++ later_fields more → row ≡ new ++ rest_text fields
    → row ≡ sofar ++ rest_text (more ++ fields)
fields_before sofar new row more fields e rest =
    rest ∙ ap (λ (t : List ℕ). t ++ rest_text fields) e ∙ append_assoc sofar (later_fields more) (rest_text fields)
    ∙ ap (λ (t : List ℕ). sofar ++ t) (rest_more more fields)

-- one of which one field was
pub field_before : (count : ℕ) (sofar new row field text : List ℕ) (fields : List (List ℕ)) → new ≡ sofar ++ next_field count field → 1 ≤ count
    → field ≡ text → row ≡ new ++ rest_text fields → row ≡ sofar ++ rest_text (text ∷ fields)
field_before count sofar new row field text fields e some same rest =
    fields_before sofar new row (text ∷ []) fields (one_later count sofar new field text e some same) rest

-- and the whole row behind its first field
pub row_behind : (count : ℕ) (before new row field text : List ℕ) (fields : List (List ℕ)) → new ≡ before ++ next_field count field → count ≡ 0
    → field ≡ text → row ≡ new ++ rest_text fields → row ≡ before ++ fields_line (text ∷ fields)
row_behind count before new row field text fields e none same rest =
    rest ∙ ap (λ (t : List ℕ). t ++ rest_text fields)
    (e ∙ ap (λ (k : ℕ). before ++ next_field k field) none ∙ ap (λ (t : List ℕ). before ++ t) same)
    ∙ append_assoc before text (rest_text fields) ∙ ap (λ (t : List ℕ). before ++ t) (line_is text fields)

digits_plain : (bytes : List ℕ) → AllDigits 10 bytes → list_all is_name_byte bytes ≡ true
digits_plain [] d = refl
digits_plain (b ∷ bytes) d =
    let digit : IsInRange 48 57 b = digit_from_value b d.0 in
    let tested : is_in_range 48 57 b ≡ true = and_from _ _ (le-leb 48 b digit.0) (le-leb b 57 digit.1) in
    let alphanumeric : is_ascii_alphanumeric b ≡ true = or_left (is_in_range 48 57 b || is_in_range 65 90 b) (is_in_range 97 122 b) (or_left (is_in_range 48 57 b) (is_in_range 65 90 b) tested) in
    and_from (is_name_byte b) (list_all is_name_byte bytes)
    (or_left (is_ascii_alphanumeric b || (b == 32) || (b == 95) || (b == 45)) (b == 46)
    (or_left (is_ascii_alphanumeric b || (b == 32) || (b == 95)) (b == 45)
    (or_left (is_ascii_alphanumeric b || (b == 32)) (b == 95)
    (or_left (is_ascii_alphanumeric b) (b == 32) alphanumeric))))
    (digits_plain bytes d.1)

-- numbers are written with such bytes
decimal_plain : (n : ℕ) → n < 10 ^ 64 → list_all is_name_byte (decimal n) ≡ true
decimal_plain n fits = digits_plain (decimal n) (decimal_is_IsNumeral_wide n fits).0.1

pub count_plain : (n : ℕ) → Fits w128 n → IsPlain (decimal n)
count_plain n fits = decimal_plain n (omega (arith, Fits-lt-pow fits))

pub signed_plain : (z : ℤ) → neg_ℤ (pos (2 ^ 32)) ≤ℤ z → z ≤ℤ pos (2 ^ 32) → list_all is_name_byte (signed_decimal z) ≡ true
signed_plain (pos n) low high =
    let small : n ≤ 2 ^ 32 = omega (arith, ints) in decimal_plain n (omega arith)
signed_plain (negsuc n) low high =
    let small : suc n ≤ 2 ^ 32 = omega (arith, ints) in
    and_from (is_name_byte 45) (list_all is_name_byte (decimal (suc n))) refl (decimal_plain (suc n) (omega arith))

-- and names are made of them
pub region_name_plain : (name : List ℕ) → IsRegionName name → list_all is_name_byte name ≡ true
region_name_plain name e = (and_parts (nat_le 1 (length name) && nat_le (length name) 64) (list_all is_name_byte name) e).1

pub on_ok : {E P Q : Type 0} (r : Result (Unit {0}) E) → (P → Q) → OnOk r P → OnOk r Q
on_ok (Err e) f p = tt
on_ok (Ok u) f p = f p
