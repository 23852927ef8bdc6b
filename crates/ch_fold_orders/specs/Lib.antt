pub mod Firsts
pub mod Front
pub mod Top
pub mod Skyline
