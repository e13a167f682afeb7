pub mod Clearing
pub mod Tidied
pub mod Emptied
pub mod ClassMode
pub mod StrictCourse
pub mod Passed
pub mod One
