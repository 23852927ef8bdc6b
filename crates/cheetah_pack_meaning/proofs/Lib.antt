pub mod Meanings
pub use Rattle.cheetah_run.proofs.Asked
pub use Rattle.cheetah_run.proofs.Ends
