pub mod Needs
pub mod Sent
pub mod Fronts
pub mod Filtering
pub mod FilterLaws
