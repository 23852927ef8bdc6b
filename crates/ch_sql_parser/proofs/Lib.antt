pub mod Inner
pub mod Leading
pub mod Moving
pub mod Rules
pub mod Stepping
pub mod Trees
