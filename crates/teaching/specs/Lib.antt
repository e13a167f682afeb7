pub mod Said
pub mod Rest
pub mod Walk
