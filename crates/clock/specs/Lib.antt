pub mod Event
pub mod Said
pub mod Scalar
pub mod Check
