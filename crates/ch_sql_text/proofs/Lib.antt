pub mod Derived
pub mod Exact
pub mod Forms
pub mod Listing
pub mod Puts
pub mod Reread
pub mod Rescan
