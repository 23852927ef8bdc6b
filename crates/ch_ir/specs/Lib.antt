pub mod Hash
pub mod Machine
pub mod Rules
pub mod Measure
pub mod Profile
pub mod Given
