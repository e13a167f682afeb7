pub mod Printed
pub mod Longer
mod Reading
pub mod Served
