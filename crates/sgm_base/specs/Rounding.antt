-- A quotient rounded to the nearest whole number, halves upwards.
use Rattle.std.specs.Prelude.{ℤ, pos, ◌+ℤ◌, ◌*ℤ◌}
use Rattle.std.specs.Int.{int_div_euclid}

-- floor((2a + b) / (2b)), for b above 0
abbrev pub rounded : ℤ → ℤ → ℤ
rounded a b = int_div_euclid ((pos 2 *ℤ a) +ℤ b) (pos 2 *ℤ b)
