pub mod Slots
pub mod Said
