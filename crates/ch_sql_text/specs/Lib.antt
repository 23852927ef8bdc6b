pub mod Law
pub mod Layout
pub mod Printed
pub mod Spelled
pub mod Writing
