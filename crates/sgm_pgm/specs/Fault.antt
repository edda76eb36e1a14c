-- What is wrong with bytes that are no PGM text: the first fault, in the order in which they are
-- listed.
use Rattle.std.specs.Prelude.{◌≡◌, ℕ, ◌*◌, ◌<◌, ◌≤◌, List, ◌++◌, codes, length, slice_index}
use Rattle.sgm_base.specs.Sides.{IsSide}
use Rattle.sgm_pgm.specs.declared.fault.PgmFault.{PgmFault}
use Rattle.sgm_pgm.specs.declared.fault.PgmFault.TheVariants.{NotPgm, HeaderShort, HeaderByte}
use Rattle.sgm_pgm.specs.declared.fault.PgmFault.TheVariants.{SizeRange, MaxvalRange, RasterShort}
use Rattle.sgm_pgm.specs.declared.fault.PgmFault.TheVariants.{SampleAbove}
use Rattle.sgm_pgm.specs.Header.{HasHeader, IsUnfinished, IsWrongAt}
use Rattle.sgm_pgm.specs.Raster.{IsMaxval, raster_of, raster_size}

-- the bytes begin with `P5`
abbrev pub HasMagic : List ℕ → Type 0
HasMagic bytes = (rest : List ℕ) × (bytes ≡ codes "P5" ++ rest)

-- a width and a height
abbrev pub AreSides : ℕ → ℕ → Type 0
AreSides width height = IsSide width × IsSide height

-- `index` is the least of a sample above maxval
pub record IsFirstAbove (maxval : ℕ) (samples : List ℕ) (index : ℕ) : Type 0 where
  pub inside : index < length samples
  pub above : maxval < slice_index samples index
  pub first : (k : ℕ) → k < index → slice_index samples k ≤ maxval

-- the samples that the raster begins with
pub record HasSamples (width height maxval : ℕ) (raster samples : List ℕ) : Type 0 where
  pub rest : List ℕ
  pub is : raster ≡ raster_of maxval samples ++ rest
  pub full : length samples ≡ width * height

-- the first fault of a text that has a header of these values, and this raster behind it
abbrev pub IsFaultBehind : ℕ → ℕ → ℕ → List ℕ → PgmFault → Type 0
IsFaultBehind width height maxval raster SizeRange = ¬ AreSides width height
IsFaultBehind width height maxval raster MaxvalRange = AreSides width height × ¬ IsMaxval maxval
IsFaultBehind width height maxval raster (RasterShort have need) = AreSides width height
    × IsMaxval maxval
    × (have ≡ length raster) × (need ≡ raster_size width height maxval) × (have < need)
IsFaultBehind width height maxval raster (SampleAbove index) = AreSides width height
    × IsMaxval maxval
    × ((samples : List ℕ) × HasSamples width height maxval raster samples
    × IsFirstAbove maxval samples index)
IsFaultBehind width height maxval raster NotPgm = ⊥
IsFaultBehind width height maxval raster HeaderShort = ⊥
IsFaultBehind width height maxval raster (HeaderByte at) = ⊥

-- the first fault of the bytes
abbrev pub IsPgmFault : List ℕ → PgmFault → Type 0
IsPgmFault bytes NotPgm = ¬ HasMagic bytes
IsPgmFault bytes HeaderShort = HasMagic bytes × IsUnfinished bytes
IsPgmFault bytes (HeaderByte at) = HasMagic bytes × IsWrongAt bytes at
IsPgmFault bytes fault = (width height maxval : ℕ) × (raster : List ℕ)
    × HasHeader bytes width height maxval raster × IsFaultBehind width height maxval raster fault
