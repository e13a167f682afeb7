mod SheetOut
pub mod OnePage
mod Whole
mod Streamed
