pub mod Everywhere
pub mod FilterAnswer
pub mod Forms
pub mod GateLaws
pub mod Layers
pub mod PartLaws
pub mod Pushed
pub mod Worked
