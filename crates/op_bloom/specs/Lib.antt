pub mod Fine
pub mod Policy
pub mod Program
pub mod Filter
pub mod Run
pub mod Order
pub mod Partners
pub mod Sides
