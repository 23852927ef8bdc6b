pub mod Dictionaries
pub mod Placed
pub mod Sided
