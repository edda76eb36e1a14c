-- A PGM text.
use Rattle.std.specs.Prelude.{ℕ, List, ◌++◌}
use Rattle.sgm_base.specs.Picture.{Picture, IsPicture}
use Rattle.sgm_pgm.specs.Header.{HasHeader}
use Rattle.sgm_pgm.specs.Raster.{IsMaxval, raster_of}

-- the bytes are, one after the other, a header of the image's values, the image's samples, and any
-- rest
pub record IsPgmText (bytes : List ℕ) (image : Picture) : Type 0 where
  pub rest : List ℕ
  pub is : HasHeader bytes image.width image.height image.maxval
      (raster_of image.maxval image.samples ++ rest)
  pub maxval_in_range : IsMaxval image.maxval
  pub keeps : IsPicture image
