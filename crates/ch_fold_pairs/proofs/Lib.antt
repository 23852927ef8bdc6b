pub mod Firsts
pub mod Sides
pub mod SemiLaws
pub mod Merge
pub mod Grown
pub mod JoinLaws
