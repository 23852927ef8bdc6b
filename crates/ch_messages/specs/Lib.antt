pub mod Machine
pub mod Query
pub mod Table
