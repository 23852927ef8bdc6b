pub mod Scanned
pub mod Tidy
pub use Rattle.ch_stands.specs.Team
pub use Rattle.ch_stands.specs.Asked
pub use Rattle.ch_stands.specs.InRange
