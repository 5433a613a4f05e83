pub mod Terms
pub mod Next
pub mod Outcomes
pub mod Promises
pub mod History
