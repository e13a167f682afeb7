-- A refusal number is given exactly when the table says so; and no call gives another than its own.
pub mod Firsts
pub mod Offers
pub mod Numbers
pub mod Chains
pub mod Stamps
