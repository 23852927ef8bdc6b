mod Columned
mod Forming
pub mod Readings
mod Results
-- what proofs above cite of the crates below
pub use Rattle.ch_sql_tokens.proofs.Scanned
pub use Rattle.ch_sql_limits.proofs.Given
pub use Rattle.ch_sql_limits.proofs.Within
