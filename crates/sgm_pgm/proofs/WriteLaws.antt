-- What is written is a PGM text.
use Rattle.std.proofs.Common.{◌≡◌, ℕ, ◌*◌, ◌^◌, ◌<◌, inl, List, [], ◌∷◌, ◌++◌, length, refl, sym, ap, ◌∙◌, arith, append_assoc, append-nil, All, codes, flat_map, true}
use Rattle.std.specs.Prelude.{decimal}
use Rattle.std.specs.Str.{all_ascii_digits}
use Rattle.std.specs.Str.Parse.{digits_value}
use Rattle.std.proofs.lemmas.Str.Parse.{IsNumeralModel, numerals_by_value, tells_all_ascii_digits}
use Rattle.std.proofs.lemmas.Fmt.{digits_decimal, digits_value-decimal, decimal_nonempty}
use Rattle.sgm_base.specs.Picture.{picture}
use Rattle.sgm_base.specs.Sides.{IsSide}
use Rattle.sgm_pgm.specs.Header.{is_white, IsGap, IsNumber}
use Rattle.sgm_pgm.specs.Raster.{raster_of, two_bytes}
use Rattle.sgm_pgm.specs.Text.{IsPgmText}
use Rattle.sgm_pgm.specs.Write.{text_of}
use Rattle.sgm_pgm.proofs.RasterLaws.{raster_of-double}

own : IsNumeralModel (λ ds. all_ascii_digits ds ≡ true) (digits_value 10)
own = numerals_by_value (λ ds. all_ascii_digits ds ≡ true) tells_all_ascii_digits

decimal_is : (n : ℕ) → n < 2 ^ 64 → IsNumber (decimal n) n
decimal_is n small = record {
  some = λ (none : decimal n ≡ []). absurd (omega (arith, ap length none, decimal_nonempty n small));
  each = digits_decimal own n small;
  is = sym (digits_value-decimal own n small);
}

-- one white byte is a Gap
one_white : (b : ℕ) → is_white b ≡ true → IsGap (b ∷ [])
one_white b white = record { pieces = (b ∷ []) ∷ []; some = λ (none : (b ∷ []) ∷ [] ≡ []). absurd cc; each = (inl (b, white, refl), tt); is = refl }

pub written_is_text : (width height : ℕ) (samples : List ℕ) → IsSide width → IsSide height → length samples ≡ width * height → All (λ s. s < 2 ^ 16) samples → IsPgmText (text_of width height samples) (picture width height 65535 samples)
unfolding text_of
written_is_text width height samples width_fits height_fits full below =
    let header : List ℕ = 80 ∷ 53 ∷ 10 ∷ (decimal width ++ 32 ∷ (decimal height ++ codes "\n65535\n")) in
    let raster : List ℕ = flat_map two_bytes samples in
    let grouped : text_of width height samples ≡ header ++ raster = simp append_assoc in
    let spelled : raster ≡ raster_of 65535 samples ++ [] = sym (raster_of-double 65535 samples refl) ∙ sym (append-nil (raster_of 65535 samples)) in
    record {
      rest = [];
      is = record {
        header = header;
        is = grouped ∙ ap (λ (t : List ℕ). header ++ t) spelled;
        form = record {
          before_width = 10 ∷ [];
          width_digits = decimal width;
          before_height = 32 ∷ [];
          height_digits = decimal height;
          before_maxval = 10 ∷ [];
          maxval_digits = codes "65535";
          last = 10;
          is = refl;
          width_gap = one_white 10 refl;
          width_is = decimal_is width (omega arith);
          height_gap = one_white 32 refl;
          height_is = decimal_is height (omega arith);
          maxval_gap = one_white 10 refl;
          maxval_is = record { some = λ (none : codes "65535" ≡ []). absurd cc; each = refl; is = refl };
          ended = refl;
        };
      };
      maxval_in_range = (omega arith, omega arith);
      keeps = record {
        width_in_range = width_fits;
        height_in_range = height_fits;
        full = full;
        maxval_in_range = omega arith;
        below = λ k d lt. let small = below k d lt in omega arith;
      };
    }
