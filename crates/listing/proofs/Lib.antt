mod Listed
mod Whole
