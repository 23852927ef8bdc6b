pub mod Loops
pub mod UnderWay
