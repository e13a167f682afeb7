mod Linked
mod OfSheet
mod Seeking
mod Walking
pub mod One
