pub mod Sizes
pub mod Said
