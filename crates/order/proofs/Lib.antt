pub mod Judging
pub mod Asked
pub mod OfSheet
pub mod One
