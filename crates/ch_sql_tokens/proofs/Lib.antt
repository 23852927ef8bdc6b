pub mod Bools
pub mod Counted
pub mod Fronts
pub mod Lexing
pub mod QuoteRules
pub mod ScanRules
pub mod Scanned
