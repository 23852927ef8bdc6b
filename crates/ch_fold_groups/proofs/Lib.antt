pub mod Steps
pub mod Bounds
pub mod ValueLines
pub mod KeyLines
pub mod GroupLaws
pub mod HavingLaws
