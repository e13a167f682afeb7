pub mod Accepted
pub mod Checks
pub mod Compared
pub mod Filled
pub mod InOrder
pub mod Shifted
pub mod Slots
pub mod One
