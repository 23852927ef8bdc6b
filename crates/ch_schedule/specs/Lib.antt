pub mod Field
pub mod Line
pub mod Bad
pub mod Event
