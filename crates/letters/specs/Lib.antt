pub mod Phases
pub mod Limits
pub mod Fault
pub mod Heads
pub mod Wire
