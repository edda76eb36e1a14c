use Rattle.std.proofs.Common.{rules, ◌≡◌, ◌++◌, Result, Ok, Option, List, Bool, subst, ℕ, ◌+◌, ◌-◌, ◌*◌, ◌/◌, ap, ◌∙◌, sym, arith, length}
use Rattle.std.proofs.lemmas.Result.{on_ok_weaker}
use Rattle.sgm_base.specs.Values.{Values}
use Rattle.std.specs.Result.{OnOk}
use Rattle.sgm_census.specs.Codes.{code_by}
use Rattle.sgm_census.specs.Packed.{HoldsAll}
use Rattle.sgm_census.specs.Windows.{WindowSides, greatest_of}
use Rattle.sgm_census.specs.declared.coding.Coding.{Coding}
use Rattle.sgm_census.specs.declared.rule.CostRule.{CostRule}
use Rattle.sgm_census.proofs.CodeRows.{blank_front, blank_back, both_hold, holds_same, rest_length}
use Rattle.sgm_census.proofs.rows.+shared.Goals as goal

-- so many rows of the same plane
rows_wide : (rows same : ℕ) (plane other : Values) (width : ℕ) → same ≡ rows → other ≡ plane → width ≡ plane.width → rows * width ≡ same * other.width
rows_wide rows same plane other width es eo ew = ap (λ k. rows * k) (ew ∙ sym (ap (λ (p : Values). p.width) eo)) ∙ ap (λ k. k * other.width) (sym es)

pub join_mut-one-requires-after_bounds : goal.join_mut-one-requires-after_bounds
join_mut-one-requires-after_bounds g t c κs within =
    let coding = c.args.coding.now in
    let upper = c.of_rows-upper in
    let lower = c.of_rows-lower in
    let width = coding.plain.width in
    let above = coding.rows / 2 in
    let below = coding.rows - above in
    let n = greatest_of coding.window in
    let words = c.split_at_mut-upper_words in
    let present = c.split_at_mut-upper_present in
    let wide : width ≡ coding.plane.now.width = coding.holds.width_is in
    let all : coding.rows * width ≡ coding.rows * coding.plane.now.width = ap (λ k. coding.rows * k) wide in
    let high : above * width ≡ upper.result.rows * upper.result.plane.now.width = rows_wide above upper.result.rows coding.plane.now upper.result.plane.now width upper.ensures.rows.1 upper.ensures.plane wide in
    let low : below * width ≡ lower.result.rows * lower.result.plane.now.width = rows_wide below lower.result.rows coding.plane.now lower.result.plane.now width lower.ensures.rows.1 lower.ensures.plane wide in
    let front = blank_front n _ (above * width) _ _ c.args.words.now words.result.0.now c.args.present.now present.result.0.now (ap greatest_of (sym upper.ensures.how.0)) high
    words.ensures.front present.ensures.front words.ensures.front_len present.ensures.front_len c.requires in
    let back = blank_back n _ (above * width) _ _ c.args.words.now words.result.1.now c.args.present.now present.result.1.now (ap greatest_of (sym lower.ensures.how.0)) words.ensures.back present.ensures.back
    (rest_length above below coding.rows width (length c.args.words.now) _ (omega arith) (c.requires.words_full ∙ sym all) words.ensures.back_len ∙ low)
    (rest_length above below coding.rows width (length c.args.present.now) _ (omega arith) (c.requires.present_full ∙ sym all) present.ensures.back_len ∙ low) c.requires in (
      (search rules, ((λ a m. m), ((search rules, front), search rules))),
      (search rules, ((λ a m. m), ((search rules, back), search rules))),
    )

on_ok_at : {T E P : Type 0} (r : Result T E) (x : T) → r ≡ Ok x → OnOk r P → P
on_ok_at {P = P} r x e h = subst (λ s. OnOk s P) e h

code_same : (coding other : Coding) (first x r : ℕ) → other.plane.now ≡ coding.plane.now → other.window ≡ coding.window → other.rule ≡ coding.rule → other.first ≡ first
    → code_by other.rule other.plane.now other.window x (other.first + r) ≡ code_by coding.rule coding.plane.now coding.window x (first + r)
code_same coding other first x r ep ew er ef =
    ap (λ (p : CostRule). code_by p other.plane.now other.window x (other.first + r)) er ∙ ap (λ (p : Values). code_by coding.rule p other.window x (other.first + r)) ep
    ∙ ap (λ (w : WindowSides). code_by coding.rule coding.plane.now w x (other.first + r)) ew ∙ ap (λ k. code_by coding.rule coding.plane.now coding.window x (k + r)) ef

-- of lists that are the same
holds_of : (n width rows : ℕ) (code : ℕ → ℕ → Option (List Bool)) (upper lower upper' lower' : List ℕ) (high low high' low' : List Bool) → upper' ≡ upper → lower' ≡ lower → high' ≡ high → low' ≡ low
    → HoldsAll n width rows code (upper ++ lower) (high ++ low) → HoldsAll n width rows code (upper' ++ lower') (high' ++ low')
holds_of n width rows code upper lower upper' lower' high low high' low' eu el eh ep h =
    subst (λ us. HoldsAll n width rows code us (high' ++ low')) (sym (ap (λ us. us ++ lower') eu ∙ ap (λ us. upper ++ us) el))
    (subst (HoldsAll n width rows code (upper ++ lower)) (sym (ap (λ ps. ps ++ low') eh ∙ ap (λ ps. high ++ ps) ep)) h)

pub returns : goal.returns
returns g t c =
    let coding = c.args.coding.now in
    let upper = c.of_rows-upper.result in
    let lower = c.of_rows-lower.result in
    let of_upper = c.of_rows-upper.ensures in
    let of_lower = c.of_rows-lower.ensures in
    let n = greatest_of coding.window in
    let width = coding.plane.now.width in
    let above = coding.rows / 2 in
    let below = coding.rows - above in
    let front = c.join_mut-one.new.f in
    let back = c.join_mut-one.new.g in
    let code : ℕ → ℕ → Option (List Bool) = λ x r. code_by coding.rule coding.plane.now coding.window x (coding.first + r) in
    let upper_code : ℕ → ℕ → Option (List Bool) = λ x r. code_by upper.rule upper.plane.now upper.window x (upper.first + r) in
    let lower_code : ℕ → ℕ → Option (List Bool) = λ x r. code_by lower.rule lower.plane.now lower.window x (lower.first + r) in
    let wide : above * coding.plain.width ≡ above * width = ap (λ k. above * k) coding.holds.width_is in
    let first : OnOk c.join_mut-one.result.0 (HoldsAll (greatest_of upper.window) upper.plane.now.width upper.rows upper_code front.4.now front.5.now) = search rules in
    let second : OnOk c.join_mut-one.result.1 (HoldsAll (greatest_of lower.window) lower.plane.now.width lower.rows lower_code back.4.now back.5.now) = search rules in
    let high = holds_same _ _ _ n width above upper_code front.4.now front.5.now (ap greatest_of of_upper.how.0) (ap (λ (p : Values). p.width) of_upper.plane) of_upper.rows.1 (on_ok_at c.join_mut-one.result.0 _ c.in_ok-one.was first) in
    on_ok_weaker c.join_mut-one.result.1
    (λ low. holds_of n width coding.rows code front.4.now back.4.now c.upper_words-1.given.0 c.lower_words-1.given.0 front.5.now back.5.now c.upper_present-1.given.0 c.lower_present-1.given.0 (search rules) (search rules) (search rules) (search rules)
    (both_hold n width above below coding.rows upper_code lower_code code front.4.now back.4.now front.5.now back.5.now
    (omega arith) (ap length {x = front.4.now} {y = c.upper_words-1.given.0} (search rules) ∙ omega (arith, wide)) (ap length {x = front.5.now} {y = c.upper_present-1.given.0} (search rules) ∙ omega (arith, wide))
    (λ x r. code_same coding upper coding.first x r of_upper.plane of_upper.how.0 of_upper.how.1 of_upper.rows.0)
    (λ x r. code_same coding lower (coding.first + above) x r of_lower.plane of_lower.how.0 of_lower.how.1 of_lower.rows.0
    ∙ ap (λ k. code_by coding.rule coding.plane.now coding.window x k) {x = coding.first + above + r} {y = coding.first + (above + r)} (omega arith))
    high
    (holds_same _ _ _ n width below lower_code back.4.now back.5.now (ap greatest_of of_lower.how.0) (ap (λ (p : Values). p.width) of_lower.plane) of_lower.rows.1 low)))
    second
