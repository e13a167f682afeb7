pub mod Answers
pub mod Serving
