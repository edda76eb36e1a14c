pub mod BehindLaws
pub mod HeaderLaws
pub mod PartLaws
pub mod RasterLaws
pub mod ReadLaws
pub mod WriteLaws
