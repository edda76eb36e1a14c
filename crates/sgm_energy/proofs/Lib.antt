pub mod Members
pub mod Leasts
pub mod Sequences
pub mod LeastEnergies
pub mod RayLemmas
pub mod Places
pub mod Steps
pub mod PathLaws
pub mod SumLemmas
pub mod DirLemmas
pub mod Parts
mod Examples
pub mod Penalties
