pub mod Closing
pub mod Stepping
