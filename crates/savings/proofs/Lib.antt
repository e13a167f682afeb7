mod Lined
mod Whole
