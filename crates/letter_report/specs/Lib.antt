pub mod Report
pub mod Summary
