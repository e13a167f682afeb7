mod Row
mod Loop
mod Rest
pub mod One
