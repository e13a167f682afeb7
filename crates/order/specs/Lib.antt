pub mod Said
pub mod Judge
pub mod Rest
