pub mod Refusals
pub mod Choice
