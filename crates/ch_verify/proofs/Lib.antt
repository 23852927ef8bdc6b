pub mod Sound
pub mod SoundAccess
pub mod Ends
pub mod Operands
pub mod Apart
