pub mod Quorums
pub mod Rows
