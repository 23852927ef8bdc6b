pub mod Sent
mod Texts
