pub mod Fields
pub mod Patterns
pub mod Table
