pub mod Lines
pub mod Ordered
pub mod WordFits
pub mod Held
pub mod ShownLaws
pub mod FilterLaws
pub mod DistinctLaws
pub mod TextLaws
