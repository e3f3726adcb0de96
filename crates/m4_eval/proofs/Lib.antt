mod Rows
mod EqualRows
pub mod Steps
pub mod Symbols
pub mod Literals
pub mod Spelled
pub mod Read
pub mod Valued
pub mod Tied
pub mod Quotients
pub mod Stacks
pub mod Operands
pub mod Chains
pub mod Numbers
pub mod WrittenDigits
pub mod ReadBack
pub mod Outcomes
