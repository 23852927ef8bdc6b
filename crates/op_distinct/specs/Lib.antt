pub mod Sizes
pub mod Program
pub mod Serving
pub mod Run
pub mod Order
pub mod Laws
pub mod Shown
pub mod Worked
