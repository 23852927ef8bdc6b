pub mod Options
pub mod Bytes
pub mod Hex
pub mod Words
pub mod Splits
pub mod Lines
pub mod Texts
pub mod Traces
