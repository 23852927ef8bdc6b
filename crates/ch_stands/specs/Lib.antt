pub mod Parties
pub mod Team
pub use Rattle.ch_survival.specs.Asked
pub use Rattle.ch_survival.specs.InRange
