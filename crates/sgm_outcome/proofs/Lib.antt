pub mod KeyPaths
pub mod InputNames
