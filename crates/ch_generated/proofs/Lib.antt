pub mod DrawLemmas
pub mod Texts
