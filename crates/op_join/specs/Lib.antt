pub mod Policy
pub mod Program
pub mod Agrees
pub mod Order
pub mod Serves
pub mod Laws
pub mod Worked
