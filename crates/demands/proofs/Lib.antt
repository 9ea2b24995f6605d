pub mod Besides
pub mod Demands
pub mod Ordered
