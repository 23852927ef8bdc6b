pub mod Listing
pub mod Reading
pub mod Spelling
pub mod Tabled
pub mod Permuting
pub use Rattle.ch_stands.proofs.Lists
