pub mod InOrder
pub mod Sizes
pub mod Stored
pub mod ReadBack
pub mod One
