pub mod Queries
pub mod Limits
pub mod Meaning
pub use Rattle.cheetah_run.specs.Asking
pub use Rattle.cheetah_run.specs.Saying
