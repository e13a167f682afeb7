pub mod Laws
pub mod Slots
pub mod Faithful
pub mod MarkerLines
mod Others
pub mod One
