pub mod Byte
pub mod Lexed
pub mod Quote
pub mod Scan
pub mod Spelling
