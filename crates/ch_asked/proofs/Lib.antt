pub mod Added
pub mod Dictionary
pub mod Typed
pub mod Bound
pub mod Asked
pub mod Plannable
pub mod Few
