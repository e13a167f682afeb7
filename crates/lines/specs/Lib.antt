pub mod Text
pub mod Slots
pub mod Lent
pub mod Programs
pub mod Marker
pub mod Savings
