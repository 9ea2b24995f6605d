pub mod Parts
pub mod Search
pub mod Steps
