mod Answered
mod Whole
