pub mod Appended
pub mod Places
pub mod Written
pub mod Decimal
pub mod One
