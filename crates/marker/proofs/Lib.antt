mod Marked
mod Whole
