pub mod Answers
pub mod Gathering
pub mod Instance
pub mod Theorems
