pub mod Texts
pub mod Suits
pub use Rattle.ch_parts.specs.Scanned
