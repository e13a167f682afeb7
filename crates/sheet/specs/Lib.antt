pub mod Header
pub mod Slots
pub mod Held
pub mod Said
