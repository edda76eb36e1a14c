-- A PGM text of two bytes a sample.
use Rattle.std.specs.Prelude.{ℕ, List, ◌++◌, codes, decimal, flat_map}
use Rattle.sgm_pgm.specs.Raster.{two_bytes}

-- `P5`, the sides, maxval 65535, and the samples
unfoldable pub text_of : ℕ → ℕ → List ℕ → List ℕ
text_of width height samples = codes "P5\n" ++ decimal width ++ codes " " ++ decimal height
    ++ codes "\n65535\n" ++ flat_map two_bytes samples
