mod Small
mod Refusals
mod Calls
mod Given
mod Listed
mod Unpacked
mod Plain
