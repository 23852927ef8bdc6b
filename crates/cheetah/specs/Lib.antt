pub mod Answering
pub mod Complete
pub mod Planning
pub mod Result
pub use Rattle.cheetah_run.specs.Saying
