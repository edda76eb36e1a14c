use Rattle.std.proofs.Common.{◌≡◌, ℕ, ◌+◌, ◌*◌, min, false, true, get_or, ◌∙◌, sym, ap}
use Rattle.std.specs.Char.{is_ascii_digit}
use Rattle.sgm_grid.specs.declared.numbers.TheConstants.{TOO_GREAT}
use Rattle.sgm_grid.proofs.NumberLaws.{digits_more, no_size, not_digits, value_more}
use Rattle.sgm_grid.proofs.numbers.size.Goals as goal

pub returns-then-not-is_ascii_digit-clause-value : goal.returns-then-not-is_ascii_digit-clause-value
returns-then-not-is_ascii_digit-clause-value c =
    let at = c.loop-byte.byte-index in
    let other : is_ascii_digit (get_or c.args.digits.now at 0) ≡ false = sym c.is_ascii_digit.ensures.value ∙ c.if-not-is_ascii_digit.true in
    no_size c.args.digits.now (not_digits c.args.digits.now at c.loop-byte-test.true other)

pub loop-byte-preserved : goal.loop-byte-preserved
loop-byte-preserved c =
    let at = c.loop-byte.byte-index in
    let digit : is_ascii_digit (get_or c.args.digits.now at 0) ≡ true = sym c.is_ascii_digit.ensures.value ∙ c.if-not-is_ascii_digit.false in
    record {
      digits = digits_more c.args.digits.now at c.loop-byte-test.true c.loop-byte.invariant.digits digit;
      value = value_more c.args.digits.now at c.loop-byte.value c.min-value.result c.loop-byte-test.true digit c.loop-byte.invariant.value (c.min-value.ensures ∙ ap (λ (t : ℕ). min (10 * c.loop-byte.value + t) TOO_GREAT) c.from.ensures);
    }
