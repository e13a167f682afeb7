pub mod Rounded
mod Placed
mod Sends
pub mod Told
pub mod One
