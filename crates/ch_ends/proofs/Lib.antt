pub mod Packing
pub mod Windows
