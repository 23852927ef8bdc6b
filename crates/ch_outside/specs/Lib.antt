pub mod Faults
pub mod FaultPlan
pub mod Shelf
pub mod Sink
pub mod MapShelf
pub mod VecSink
