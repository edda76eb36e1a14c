-- The reading of a header is its grammar, both ways, and so are its two faults.
use Rattle.std.proofs.Common.{◌≡◌, ◌≢◌, ℕ, zero, suc, ◌+◌, ◌-◌, ◌<◌, ◌⊎◌, inl, inr, List, [], ◌∷◌, ◌++◌, length, take, drop, get_or, Bool, true, false, Result, Ok, Err, refl, sym, ap, ◌∙◌, subst, arith, append_assoc, append-nil, if◌then◌else◌}
use Rattle.std.specs.Char.{is_ascii_digit}
use Rattle.std.specs.List.{AllByRecursion, concat}
use Rattle.std.proofs.lemmas.List.{take_at, take_more, drop_more, take-append-drop, length-append, length-drop}
use Rattle.sgm_pgm.specs.Header.{is_white, IsGap, IsPiece, IsNumber, IsHeader, HasHeaderForm, BeginsHeader, IsUnfinished, IsWrongAt}
use Rattle.sgm_pgm.specs.Parts.{Stop, short, wrong, ◌>>=◌, field_at, white_at, header_at, HasCappedHeader}
use Rattle.sgm_pgm.proofs.PartLaws.{white_is_no_digit, capped, numbered, EndsBefore, more_behind, bind_ok, bind_err, then_ends, first_ends, field_found, over_field, field_ends, field_wrong, field_goes_on}

-- the three numbers, and what is left behind the header
abbrev pub Numbers : Type 0
Numbers = ℕ × ℕ × ℕ × List ℕ

abbrev pub told : ℕ → ℕ → ℕ → List ℕ → Result Numbers Stop
told width height maxval rest = Ok (width, height, maxval, rest)

abbrev behind_maxval : ℕ → ℕ → ℕ × List ℕ → Result Numbers Stop
behind_maxval width height maxval = white_at maxval.1 >>= λ rest. told width height maxval.0 rest

abbrev behind_height : ℕ → ℕ × List ℕ → Result Numbers Stop
behind_height width height = field_at height.1 >>= behind_maxval width height.0

abbrev behind_width : ℕ × List ℕ → Result Numbers Stop
behind_width width = field_at width.1 >>= behind_height width.0

header_at_is : (body : List ℕ) → header_at body ≡ (field_at body >>= behind_width)
unfolding header_at
header_at_is body = refl

-- ---- one white byte

white_found : (bytes rest : List ℕ) → white_at bytes ≡ Ok rest → (b : ℕ) × (is_white b ≡ true) × (bytes ≡ b ∷ rest)
white_found [] rest e = absurd cc
white_found (b ∷ bytes) rest e =
    elim (is_white b) as (λ t. is_white b ≡ t → (if t then Ok bytes else Err (wrong (b ∷ bytes))) ≡ Ok rest → (c : ℕ) × (is_white c ≡ true) × (b ∷ bytes ≡ c ∷ rest)) [
      | true ↦ λ white e'. (b, white, ap (λ (t : List ℕ). b ∷ t) (ok_is bytes rest e'))
      | false ↦ λ black e'. absurd cc
    ] refl e
  where
    ok_is : (x y : List ℕ) → ◌≡◌ {A = Result (List ℕ) Stop} (Ok x) (Ok y) → x ≡ y
    ok_is x y h = cc

over_white_byte : (b : ℕ) (rest : List ℕ) → is_white b ≡ true → white_at (b ∷ rest) ≡ Ok rest
over_white_byte b rest white = ap (λ (t : Bool). if t then Ok rest else Err (wrong (b ∷ rest))) white

abbrev stopped : List ℕ → Result (List ℕ) Stop
stopped rest = Err (wrong rest)

white_wrong : (bytes rest : List ℕ) → white_at bytes ≡ Err (wrong rest) → EndsBefore white_at stopped bytes rest
white_wrong [] rest e = absurd cc
white_wrong (b ∷ bytes) rest e =
    elim (is_white b) as (λ t. is_white b ≡ t → (if t then Ok bytes else Err (wrong (b ∷ bytes))) ≡ Err (wrong rest) → EndsBefore white_at stopped (b ∷ bytes) rest) [
      | true ↦ λ white e'. absurd cc
      | false ↦ λ black e'. record { front = []; next = b; more = bytes; is = refl; rest_is = sym (wrong_is (b ∷ bytes) rest e'); cut = refl; again = λ other. ap (λ (t : Bool). if t then Ok other else Err (wrong (b ∷ other))) black }
    ] refl e
  where
    wrong_is : (x y : List ℕ) → stopped x ≡ stopped y → x ≡ y
    wrong_is x y h = cc

white_short : (bytes : List ℕ) → white_at bytes ≡ Err short → bytes ≡ []
white_short [] e = refl
white_short (b ∷ bytes) e =
    elim (is_white b) as (λ t. (if t then Ok bytes else Err (wrong (b ∷ bytes))) ≡ Err short → b ∷ bytes ≡ []) [ true ↦ λ e'. absurd cc | false ↦ λ e'. absurd cc ] e

-- ---- what was read is a header

numbers_are : (x y : Numbers) → ◌≡◌ {A = Result Numbers Stop} (Ok x) (Ok y) → x ≡ y
numbers_are x y h = cc

pub header_found : (body : List ℕ) (width height maxval : ℕ) (rest : List ℕ) → header_at body ≡ told width height maxval rest → HasCappedHeader (80 ∷ 53 ∷ body) width height maxval rest
header_found body width height maxval rest e =
    let first = bind_ok (field_at body) behind_width (width, height, maxval, rest) (sym (header_at_is body) ∙ e) in
    let w = field_found body first.0.0 first.0.1 first.1 in
    let second = bind_ok (field_at first.0.1) (behind_height first.0.0) (width, height, maxval, rest) first.2 in
    let h = field_found first.0.1 second.0.0 second.0.1 second.1 in
    let third = bind_ok (field_at second.0.1) (behind_maxval first.0.0 second.0.0) (width, height, maxval, rest) second.2 in
    let m = field_found second.0.1 third.0.0 third.0.1 third.1 in
    let last = bind_ok (white_at third.0.1) (λ r. told first.0.0 second.0.0 third.0.0 r) (width, height, maxval, rest) third.2 in
    let white = white_found third.0.1 last.0 last.1 in
    let made : Numbers = (first.0.0, second.0.0, third.0.0, last.0) in
    let asked : Numbers = (width, height, maxval, rest) in
    let header : List ℕ = 80 ∷ 53 ∷ (w.0 ++ (w.1 ++ (h.0 ++ (h.1 ++ (m.0 ++ (m.1 ++ white.0 ∷ [])))))) in
    let whole : 80 ∷ 53 ∷ body ≡ 80 ∷ 53 ∷ (w.0 ++ (w.1 ++ (h.0 ++ (h.1 ++ (m.0 ++ (m.1 ++ white.0 ∷ last.0)))))) =
    ap (λ (t : List ℕ). 80 ∷ 53 ∷ t) (w.5 ∙ ap (λ (t : List ℕ). w.0 ++ (w.1 ++ t)) (h.5 ∙ ap (λ (t : List ℕ). h.0 ++ (h.1 ++ t)) (m.5 ∙ ap (λ (t : List ℕ). m.0 ++ (m.1 ++ t)) white.2))) in
    let joined : header ++ last.0 ≡ 80 ∷ 53 ∷ (w.0 ++ (w.1 ++ (h.0 ++ (h.1 ++ (m.0 ++ (m.1 ++ white.0 ∷ last.0)))))) = simp append_assoc in
    let form : IsHeader header w.2 h.2 m.2 = record {
      before_width = w.0;
      width_digits = w.1;
      before_height = h.0;
      height_digits = h.1;
      before_maxval = m.0;
      maxval_digits = m.1;
      last = white.0;
      is = refl;
      width_gap = w.3;
      width_is = w.4;
      height_gap = h.3;
      height_is = h.4;
      maxval_gap = m.3;
      maxval_is = m.4;
      ended = white.1;
    } in
    let P : Numbers → Type 0 = λ n. HasCappedHeader (80 ∷ 53 ∷ body) n.0 n.1 n.2 n.3 in
    subst P (numbers_are made asked last.2) (record {
      real_width = w.2;
      real_height = h.2;
      real_maxval = m.2;
      is = record { header = header; is = whole ∙ sym joined; form = form };
      width_is = w.6;
      height_is = h.6;
      maxval_is = m.6;
    })

-- ---- a header is read

-- a Gap begins with no digit
gap_first : (gap : List ℕ) → IsGap gap → (b : ℕ) × (more : List ℕ) × (gap ≡ b ∷ more) × (is_ascii_digit b ≡ false)
gap_first gap is = from is.pieces is.some is.each is.is
  where
    piece_first : (piece : List ℕ) (after : List ℕ) → IsPiece piece → (b : ℕ) × (more : List ℕ) × (piece ++ after ≡ b ∷ more) × (is_ascii_digit b ≡ false)
    piece_first piece after (inl (b, white, is)) = (b, after, ap (λ (t : List ℕ). t ++ after) is, white_is_no_digit b white)
    piece_first piece after (inr comment) = (35, comment.text ++ comment.last ∷ [] ++ after, ap (λ (t : List ℕ). t ++ after) comment.is, refl)

    from : (pieces : List (List ℕ)) → pieces ≢ [] → AllByRecursion IsPiece pieces → gap ≡ concat pieces → (b : ℕ) × (more : List ℕ) × (gap ≡ b ∷ more) × (is_ascii_digit b ≡ false)
    from [] some each whole = absurd (some refl)
    from (piece ∷ pieces) some each whole = let first = piece_first piece (concat pieces) each.0 in (first.0, first.1, whole ∙ first.2, first.3)

over_field_to : (gap digits : List ℕ) (real : ℕ) (tail : List ℕ) (b : ℕ) (more : List ℕ) → IsGap gap → IsNumber digits real → tail ≡ b ∷ more → is_ascii_digit b ≡ false → field_at (gap ++ (digits ++ tail)) ≡ Ok (capped real, tail)
over_field_to gap digits real tail b more is_gap is_number is ends =
    ap (λ (t : List ℕ). field_at (gap ++ (digits ++ t))) is ∙ over_field gap digits real b more is_gap is_number ends ∙ ap (λ (t : List ℕ). numbered (capped real) t) (sym is)

after_field : {A B : Type 0} (r : Result A Stop) (x : A) (f : A → Result B Stop) → r ≡ Ok x → (r >>= f) ≡ f x
after_field {A} r x f e = ap (λ (o : Result A Stop). o >>= f) e

pub over_header : (header : List ℕ) (width height maxval : ℕ) (rest : List ℕ) → IsHeader header width height maxval →
    (body : List ℕ) × (header ≡ 80 ∷ 53 ∷ body) × (header_at (body ++ rest) ≡ told (capped width) (capped height) (capped maxval) rest)
over_header header width height maxval rest h =
    let body : List ℕ = h.before_width ++ (h.width_digits ++ (h.before_height ++ (h.height_digits ++ (h.before_maxval ++ (h.maxval_digits ++ h.last ∷ []))))) in
    let third : List ℕ = h.last ∷ rest in
    let second : List ℕ = h.before_maxval ++ (h.maxval_digits ++ third) in
    let first : List ℕ = h.before_height ++ (h.height_digits ++ second) in
    let grouped : body ++ rest ≡ h.before_width ++ (h.width_digits ++ first) = simp append_assoc in
    let height_first = gap_first h.before_height h.height_gap in
    let maxval_first = gap_first h.before_maxval h.maxval_gap in
    let one : field_at (h.before_width ++ (h.width_digits ++ first)) ≡ Ok (capped width, first) =
    over_field_to h.before_width h.width_digits width first height_first.0 (height_first.1 ++ (h.height_digits ++ second)) h.width_gap h.width_is (ap (λ (t : List ℕ). t ++ (h.height_digits ++ second)) height_first.2) height_first.3 in
    let two : field_at first ≡ Ok (capped height, second) =
    over_field_to h.before_height h.height_digits height second maxval_first.0 (maxval_first.1 ++ (h.maxval_digits ++ third)) h.height_gap h.height_is (ap (λ (t : List ℕ). t ++ (h.maxval_digits ++ third)) maxval_first.2) maxval_first.3 in
    let three : field_at second ≡ Ok (capped maxval, third) =
    over_field_to h.before_maxval h.maxval_digits maxval third h.last rest h.maxval_gap h.maxval_is refl (white_is_no_digit h.last h.ended) in (
      body,
      h.is,
      ap (λ (t : List ℕ). header_at t) grouped ∙ header_at_is (h.before_width ++ (h.width_digits ++ first))
          ∙ after_field (field_at (h.before_width ++ (h.width_digits ++ first))) (capped width, first) behind_width one
          ∙ after_field (field_at first) (capped height, second) (behind_height (capped width)) two
          ∙ after_field (field_at second) (capped maxval, third) (behind_maxval (capped width) (capped height)) three
          ∙ after_field (white_at third) rest (λ r. told (capped width) (capped height) (capped maxval) r) (over_white_byte h.last rest h.ended),
    )

-- more bytes behind a header change nothing
pub header_more : (body : List ℕ) (width height maxval : ℕ) (rest end : List ℕ) → header_at body ≡ told width height maxval rest → header_at (body ++ end) ≡ told width height maxval (rest ++ end)
header_more body width height maxval rest end e =
    let found = header_found body width height maxval rest e in
    let again = over_header found.is.header found.real_width found.real_height found.real_maxval (rest ++ end) found.is.form in
    let front : 80 ∷ 53 ∷ body ≡ 80 ∷ 53 ∷ (again.0 ++ rest) = found.is.is ∙ ap (λ (t : List ℕ). t ++ rest) again.1 in
    let same : body ≡ again.0 ++ rest = ap (λ (t : List ℕ). drop 2 t) front in
    ap (λ (t : List ℕ). header_at (t ++ end)) same
    ∙ ap header_at (append_assoc again.0 rest end)
    ∙ again.2
    ∙ ap (λ (n : ℕ). told n (capped found.real_height) (capped found.real_maxval) (rest ++ end)) (sym found.width_is)
    ∙ ap (λ (n : ℕ). told width n (capped found.real_maxval) (rest ++ end)) (sym found.height_is)
    ∙ ap (λ (n : ℕ). told width height n (rest ++ end)) (sym found.maxval_is)

-- bytes that are a header are read as one, with nothing left
form_read : (body : List ℕ) → HasHeaderForm (80 ∷ 53 ∷ body) → (width : ℕ) × (height : ℕ) × (maxval : ℕ) × (header_at body ≡ told width height maxval [])
form_read body form =
    let again = over_header (80 ∷ 53 ∷ body) form.0 form.1 form.2 [] form.3 in
    let same : body ≡ again.0 = ap (λ (t : List ℕ). drop 2 t) again.1 in
    (capped form.0, capped form.1, capped form.2, ap header_at (same ∙ sym (append-nil again.0)) ∙ again.2)

read_form : (body : List ℕ) (width height maxval : ℕ) → header_at body ≡ told width height maxval [] → HasHeaderForm (80 ∷ 53 ∷ body)
read_form body width height maxval e =
    let found = header_found body width height maxval [] e in
    let P : List ℕ → Type 0 = λ t. IsHeader t found.real_width found.real_height found.real_maxval in
    (found.real_width, found.real_height, found.real_maxval, subst P (sym (found.is.is ∙ append-nil found.is.header)) found.is.form)

-- ---- a header that is cut short

abbrev GoesOn : List ℕ → Type 0
GoesOn body = (next : ℕ) × (more : List ℕ) × (width : ℕ) × (height : ℕ) × (maxval : ℕ) × (header_at (body ++ next ∷ more) ≡ told width height maxval [])

header_goes_on : (body : List ℕ) → header_at body ≡ Err short → GoesOn body
header_goes_on body e =
    elim (bind_err (field_at body) behind_width short (sym (header_at_is body) ∙ e)) [
      | inl cut ↦ let on = field_goes_on body cut in
          let more : List ℕ = 49 ∷ 10 ∷ 49 ∷ 10 ∷ [] in
          (on.1, on.2 ++ 10 ∷ more, on.0, 1, 1, header_at_is (body ++ on.1 ∷ (on.2 ++ 10 ∷ more)) ∙ after_field (field_at (body ++ on.1 ∷ (on.2 ++ 10 ∷ more))) (on.0, 10 ∷ more) behind_width (on.3 more))
      | inr (width, one, at_height) ↦ second width one at_height
    ]
  where
    first_more : (width : ℕ × List ℕ) (end : List ℕ) → field_at body ≡ Ok width → field_at (body ++ end) ≡ Ok (width.0, width.1 ++ end)
    first_more width end one = more_behind field_at (numbered width.0) body width.1 end (field_ends body width.0 width.1 one)

    to_maxval : (width height : ℕ × List ℕ) (end : List ℕ) → field_at body ≡ Ok width → field_at width.1 ≡ Ok height → header_at (body ++ end) ≡ behind_height width.0 (height.0, height.1 ++ end)
    to_maxval width height end one two =
        header_at_is (body ++ end)
        ∙ after_field (field_at (body ++ end)) (width.0, width.1 ++ end) behind_width (first_more width end one)
        ∙ after_field (field_at (width.1 ++ end)) (height.0, height.1 ++ end) (behind_height width.0) (more_behind field_at (numbered height.0) width.1 height.1 end (field_ends width.1 height.0 height.1 two))

    third : (width height : ℕ × List ℕ) → field_at body ≡ Ok width → field_at width.1 ≡ Ok height → behind_height width.0 height ≡ Err short → GoesOn body
    third width height one two at_maxval =
        elim (bind_err (field_at height.1) (behind_maxval width.0 height.0) short at_maxval) [
          | inl cut ↦ let on = field_goes_on height.1 cut in
              let end : List ℕ = on.1 ∷ (on.2 ++ 10 ∷ []) in
              (on.1, on.2 ++ 10 ∷ [], width.0, height.0, on.0, to_maxval width height end one two ∙ after_field (field_at (height.1 ++ end)) (on.0, 10 ∷ []) (behind_maxval width.0 height.0) (on.3 []))
          | inr (maxval, three, at_last) ↦
              elim (bind_err (white_at maxval.1) (λ r. told width.0 height.0 maxval.0 r) short at_last) [
                | inl cut ↦ let end : List ℕ = 10 ∷ [] in (
                  10,
                  [],
                  width.0,
                  height.0,
                  maxval.0,
                  to_maxval width height end one two
                      ∙ after_field (field_at (height.1 ++ end)) (maxval.0, maxval.1 ++ end) (behind_maxval width.0 height.0) (more_behind field_at (numbered maxval.0) height.1 maxval.1 end (field_ends height.1 maxval.0 maxval.1 three))
                      ∙ ap (λ (t : List ℕ). behind_maxval width.0 height.0 (maxval.0, t ++ end)) (white_short maxval.1 cut),
                )
                | inr (r, four, none) ↦ absurd cc
              ]
        ]

    second : (width : ℕ × List ℕ) → field_at body ≡ Ok width → behind_width width ≡ Err short → GoesOn body
    second width one at_height =
        elim (bind_err (field_at width.1) (behind_height width.0) short at_height) [
          | inl cut ↦ let on = field_goes_on width.1 cut in
              let more : List ℕ = 49 ∷ 10 ∷ [] in
              let end : List ℕ = on.1 ∷ (on.2 ++ 10 ∷ more) in (
                on.1,
                on.2 ++ 10 ∷ more,
                width.0,
                on.0,
                1,
                header_at_is (body ++ end)
                    ∙ after_field (field_at (body ++ end)) (width.0, width.1 ++ end) behind_width (first_more width end one)
                    ∙ after_field (field_at (width.1 ++ end)) (on.0, 10 ∷ more) (behind_height width.0) (on.3 more),
              )
          | inr (height, two, at_maxval) ↦ third width height one two at_maxval
        ]

pub unfinished_from_short : (body : List ℕ) → header_at body ≡ Err short → IsUnfinished (80 ∷ 53 ∷ body)
unfinished_from_short body e = let on = header_goes_on body e in (on.0, on.1, read_form (body ++ on.0 ∷ on.1) on.2 on.3 on.4 on.5)

-- ---- a wrong byte in a header

abbrev pub misled : List ℕ → Result Numbers Stop
misled rest = Err (wrong rest)

pub header_wrong : (body rest : List ℕ) → header_at body ≡ misled rest → EndsBefore header_at misled body rest
header_wrong body rest e =
    let P : (List ℕ → Result Numbers Stop) → Type 0 = λ part. EndsBefore part misled body rest in
    let whole = first (sym (header_at_is body) ∙ e) in
    record {
      front = whole.front;
      next = whole.next;
      more = whole.more;
      is = whole.is;
      rest_is = whole.rest_is;
      cut = header_at_is whole.front ∙ whole.cut;
      again = λ other. header_at_is (whole.front ++ whole.next ∷ other) ∙ whole.again other;
    }
  where
    last : (width height : ℕ) (maxval : ℕ × List ℕ) → behind_maxval width height maxval ≡ misled rest → EndsBefore (λ t. behind_maxval width height (maxval.0, t)) misled maxval.1 rest
    last width height maxval e =
        elim (bind_err (white_at maxval.1) (λ r. told width height maxval.0 r) (wrong rest) e) [
          | inl at_last ↦ first_ends white_at (λ r. told width height maxval.0 r) maxval.1 rest (white_wrong maxval.1 rest at_last)
          | inr (r, four, none) ↦ absurd cc
        ]

    third : (width : ℕ) (height : ℕ × List ℕ) → behind_height width height ≡ misled rest → EndsBefore (λ t. behind_height width (height.0, t)) misled height.1 rest
    third width height e =
        elim (bind_err (field_at height.1) (behind_maxval width height.0) (wrong rest) e) [
          | inl at_field ↦ first_ends field_at (behind_maxval width height.0) height.1 rest (field_wrong height.1 rest at_field)
          | inr (maxval, three, behind) ↦ then_ends field_at (λ r. (maxval.0, r)) (behind_maxval width height.0) misled height.1 maxval.1 rest (field_ends height.1 maxval.0 maxval.1 three) (last width height.0 maxval behind)
        ]

    second : (width : ℕ × List ℕ) → behind_width width ≡ misled rest → EndsBefore (λ t. behind_width (width.0, t)) misled width.1 rest
    second width e =
        elim (bind_err (field_at width.1) (behind_height width.0) (wrong rest) e) [
          | inl at_field ↦ first_ends field_at (behind_height width.0) width.1 rest (field_wrong width.1 rest at_field)
          | inr (height, two, behind) ↦ then_ends field_at (λ r. (height.0, r)) (behind_height width.0) misled width.1 height.1 rest (field_ends width.1 height.0 height.1 two) (third width.0 height behind)
        ]

    first : (field_at body >>= behind_width) ≡ misled rest → EndsBefore (λ t. field_at t >>= behind_width) misled body rest
    first e =
        elim (bind_err (field_at body) behind_width (wrong rest) e) [
          | inl at_field ↦ first_ends field_at behind_width body rest (field_wrong body rest at_field)
          | inr (width, one, behind) ↦ then_ends field_at (λ r. (width.0, r)) behind_width misled body width.1 rest (field_ends body width.0 width.1 one) (second width behind)
        ]

-- ---- the two faults of a header's form

-- where an outcome is neither a header nor a wrong byte, the bytes ended early
pub data Outcome (body : List ℕ) : Type 0 where
  cut_short : header_at body ≡ Err short → Outcome body
  misled_at : (rest : List ℕ) → header_at body ≡ misled rest → Outcome body
  told_as : (width height maxval : ℕ) (rest : List ℕ) → header_at body ≡ told width height maxval rest → Outcome body

pub outcome : (body : List ℕ) → Outcome body
outcome body = from (header_at body) refl
  where
    from : (r : Result Numbers Stop) → header_at body ≡ r → Outcome body
    from (Err short) e = cut_short e
    from (Err (wrong rest)) e = misled_at rest e
    from (Ok n) e = told_as n.0 n.1 n.2 n.3 e

no_end : (xs : List ℕ) (x : ℕ) (ys : List ℕ) → xs ++ x ∷ ys ≡ [] → ⊥
no_end [] x ys e = absurd cc
no_end (a ∷ xs) x ys e = absurd cc

rest_of : Result Numbers Stop → List ℕ
rest_of (Ok n) = n.3
rest_of (Err stop) = []

told_rest : (w h m w' h' m' : ℕ) (x y : List ℕ) → told w h m x ≡ told w' h' m' y → x ≡ y
unfolding rest_of
told_rest w h m w' h' m' x y e = ap rest_of e

pub short_from_unfinished : (body : List ℕ) → IsUnfinished (80 ∷ 53 ∷ body) → header_at body ≡ Err short
short_from_unfinished body (next, more, form) =
    let read = form_read (body ++ next ∷ more) form in
    elim (outcome body) [
      | cut_short e ↦ e
      | misled_at rest e ↦ let goes = more_behind header_at misled body rest (next ∷ more) (header_wrong body rest e) in absurd cc
      | told_as w h m rest e ↦ absurd (no_end rest next more (told_rest w h m read.0 read.1 read.2 (rest ++ next ∷ more) [] (sym (header_more body w h m rest (next ∷ more) e) ∙ read.3)))
    ]

-- no header begins with bytes of which the last is wrong
never_begins : (front : List ℕ) (next : ℕ) → ((other : List ℕ) → header_at (front ++ next ∷ other) ≡ misled (next ∷ other)) → BeginsHeader (80 ∷ 53 ∷ (front ++ next ∷ [])) → ⊥
never_begins front next goes (more, form) =
    let P : List ℕ → Type 0 = λ t. HasHeaderForm (80 ∷ 53 ∷ t) in
    let read = form_read (front ++ next ∷ more) (subst P (append_assoc front (next ∷ []) more) form) in
    let wrong_ = goes more in absurd cc

-- a list that ends in x ++ y, and in one byte
last_of : (x y front : List ℕ) (next : ℕ) → x ++ y ≡ front ++ next ∷ [] → (y ≡ []) ⊎ ((end : List ℕ) × (y ≡ end ++ next ∷ []) × (front ≡ x ++ end))
last_of [] y front next e = inr (front, e, refl)
last_of (a ∷ x) y [] next e = let none : x ++ y ≡ [] = cc in inl (nothing x y none)
  where
    nothing : (x y : List ℕ) → x ++ y ≡ [] → y ≡ []
    nothing [] y e = e
    nothing (a ∷ x) y e = absurd cc
last_of (a ∷ x) y (c ∷ front) next e =
    let more : x ++ y ≡ front ++ next ∷ [] = cc in
    let same : c ≡ a = cc in
    elim (last_of x y front next more) [
      | inl none ↦ inl none
      | inr (end, is, front_is) ↦ inr (end, is, ap (λ (n : ℕ). n ∷ front) same ∙ ap (λ (t : List ℕ). a ∷ t) front_is)
    ]

-- a byte that no header has behind an unfinished one is the wrong byte
misled_here : (front : List ℕ) (next : ℕ) (more : List ℕ) → header_at front ≡ Err short → ¬ BeginsHeader (80 ∷ 53 ∷ (front ++ next ∷ [])) → header_at (front ++ next ∷ more) ≡ misled (next ∷ more)
misled_here front next more cut never =
    elim (outcome (front ++ next ∷ [])) [
      | cut_short e ↦ let on = unfinished_from_short (front ++ next ∷ []) e in absurd (never (on.0 ∷ on.1, on.2))
      | misled_at rest e ↦ here rest (header_wrong (front ++ next ∷ []) rest e)
      | told_as w h m rest e ↦ absurd (no_header w h m rest e)
    ]
  where
    no_header : (w h m : ℕ) (rest : List ℕ) → header_at (front ++ next ∷ []) ≡ told w h m rest → ⊥
    no_header w h m rest e =
        let found = header_found (front ++ next ∷ []) w h m rest e in
        let again = over_header found.is.header found.real_width found.real_height found.real_maxval rest found.is.form in
        let parts : 80 ∷ 53 ∷ (again.0 ++ rest) ≡ 80 ∷ 53 ∷ (front ++ next ∷ []) = ap (λ (t : List ℕ). t ++ rest) (sym again.1) ∙ sym found.is.is in
        elim (last_of again.0 rest front next (ap (λ (t : List ℕ). drop 2 t) parts)) [
          | inl none ↦
              let P : List ℕ → Type 0 = λ t. HasHeaderForm (80 ∷ 53 ∷ t) in
              never ([], subst P (sym (append-nil (front ++ next ∷ []))) (read_form (front ++ next ∷ []) w h m (e ∙ ap (λ (t : List ℕ). told w h m t) none)))
          | inr (end, is, front_is) ↦
              let other = over_header found.is.header found.real_width found.real_height found.real_maxval end found.is.form in
              let same : again.0 ≡ other.0 = ap (λ (t : List ℕ). drop 2 t) (sym again.1 ∙ other.1) in
              let whole = ap header_at (front_is ∙ ap (λ (t : List ℕ). t ++ end) same) ∙ other.2 in
              absurd cc
        ]

    beyond : (end : List ℕ) (before : List ℕ) (b : ℕ) (after : List ℕ) → b ∷ after ≡ end ++ next ∷ [] → front ≡ before ++ end → ((other : List ℕ) → header_at (before ++ b ∷ other) ≡ misled (b ∷ other)) → header_at (front ++ next ∷ more) ≡ misled (next ∷ more)
    beyond [] before b after is front_is again =
        let same : b ≡ next = cc in
        ap (λ (t : List ℕ). header_at (t ++ next ∷ more)) (front_is ∙ append-nil before) ∙ ap (λ (n : ℕ). header_at (before ++ n ∷ more)) (sym same) ∙ again more ∙ ap (λ (n : ℕ). misled (n ∷ more)) same
    beyond (c ∷ end) before b after is front_is again =
        let same : c ≡ b = cc in
        let wrong_ : header_at front ≡ misled (b ∷ end) = ap header_at (front_is ∙ ap (λ (n : ℕ). before ++ n ∷ end) same) ∙ again end in
        absurd cc

    here : (rest : List ℕ) → EndsBefore header_at misled (front ++ next ∷ []) rest → header_at (front ++ next ∷ more) ≡ misled (next ∷ more)
    here rest ends =
        elim (last_of ends.front (ends.next ∷ ends.more) front next (sym ends.is)) [
          | inl none ↦ absurd cc
          | inr (end, is, front_is) ↦ beyond end ends.front ends.next ends.more is front_is ends.again
        ]

-- a shortest header: each number is 1
any_header : HasHeaderForm (80 ∷ 53 ∷ 10 ∷ 49 ∷ 10 ∷ 49 ∷ 10 ∷ 49 ∷ 10 ∷ [])
any_header = read_form (10 ∷ 49 ∷ 10 ∷ 49 ∷ 10 ∷ 49 ∷ 10 ∷ []) 1 1 1 (header_at_is (10 ∷ 49 ∷ 10 ∷ 49 ∷ 10 ∷ 49 ∷ 10 ∷ []))

-- a byte that is wrong by the grammar is found
pub misled_from_wrong : (body : List ℕ) (at : ℕ) → IsWrongAt (80 ∷ 53 ∷ body) at → header_at body ≡ misled (drop at (80 ∷ 53 ∷ body))
misled_from_wrong body zero is = absurd (is.here (53 ∷ 10 ∷ 49 ∷ 10 ∷ 49 ∷ 10 ∷ 49 ∷ 10 ∷ [], any_header))
misled_from_wrong body (suc zero) is = absurd (is.here (10 ∷ 49 ∷ 10 ∷ 49 ∷ 10 ∷ 49 ∷ 10 ∷ [], any_header))
misled_from_wrong body (suc (suc k)) is =
    let inside : k < length body = omega (arith, is.inside) in
    let x = get_or body k 0 in
    let parts : take k body ++ x ∷ drop (k + 1) body ≡ body = ap (λ (t : List ℕ). take k body ++ t) (sym (drop_more body k 0 inside)) ∙ take-append-drop k body in
    let at : suc (suc k) + 1 ≡ suc (suc (k + 1)) = omega arith in
    let longer : take (suc (suc k) + 1) (80 ∷ 53 ∷ body) ≡ 80 ∷ 53 ∷ (take k body ++ x ∷ []) = ap (λ (n : ℕ). take n (80 ∷ 53 ∷ body)) at ∙ ap (λ (t : List ℕ). 80 ∷ 53 ∷ t) (take_more body k 0 inside) in
    let P : List ℕ → Type 0 = λ t. ¬ BeginsHeader t in
    ap header_at (sym parts)
    ∙ misled_here (take k body) x (drop (k + 1) body) (short_from_unfinished (take k body) is.before) (subst P longer is.here)
    ∙ ap (λ (t : List ℕ). misled t) (sym (drop_more body k 0 inside))

-- a byte that is found to be wrong is wrong by the grammar
pub wrong_from_misled : (body : List ℕ) (at : ℕ) → at < length (80 ∷ 53 ∷ body) → header_at body ≡ misled (drop at (80 ∷ 53 ∷ body)) → IsWrongAt (80 ∷ 53 ∷ body) at
wrong_from_misled body at inside e =
    let ends = header_wrong body (drop at (80 ∷ 53 ∷ body)) e in
    let whole : 80 ∷ 53 ∷ body ≡ (80 ∷ 53 ∷ ends.front) ++ ends.next ∷ ends.more = ap (λ (t : List ℕ). 80 ∷ 53 ∷ t) ends.is in
    let one_by_one : 80 ∷ 53 ∷ body ≡ (80 ∷ 53 ∷ (ends.front ++ ends.next ∷ [])) ++ ends.more = whole ∙ sym (append_assoc (80 ∷ 53 ∷ ends.front) (ends.next ∷ []) ends.more) in
    let left : length (80 ∷ 53 ∷ body) - at ≡ length ends.more + 1 = sym (length-drop at (80 ∷ 53 ∷ body)) ∙ ap length ends.rest_is ∙ omega arith in
    let all : length (80 ∷ 53 ∷ body) ≡ length ends.front + 2 + (length ends.more + 1) = ap length whole ∙ omega (arith, length-append ends.front (ends.next ∷ ends.more)) in
    let place : length (80 ∷ 53 ∷ ends.front) ≡ at = omega arith in
    let after : length (80 ∷ 53 ∷ (ends.front ++ ends.next ∷ [])) ≡ at + 1 = omega (arith, length-append ends.front (ends.next ∷ [])) in
    let front : take at (80 ∷ 53 ∷ body) ≡ 80 ∷ 53 ∷ ends.front = ap (λ (t : List ℕ). take at t) whole ∙ take_at (80 ∷ 53 ∷ ends.front) (ends.next ∷ ends.more) at place in
    let longer : take (at + 1) (80 ∷ 53 ∷ body) ≡ 80 ∷ 53 ∷ (ends.front ++ ends.next ∷ []) = ap (λ (t : List ℕ). take (at + 1) t) one_by_one ∙ take_at (80 ∷ 53 ∷ (ends.front ++ ends.next ∷ [])) ends.more (at + 1) after in
    let P : List ℕ → Type 0 = λ t. IsUnfinished t in
    let Q : List ℕ → Type 0 = λ t. ¬ BeginsHeader t in
    record {
      inside = inside;
      before = subst P (sym front) (unfinished_from_short ends.front ends.cut);
      here = subst Q (sym longer) (never_begins ends.front ends.next ends.again);
    }
